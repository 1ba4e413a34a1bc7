-- A text read line by line: what the loop over its lines holds, what a row adds to it, and the promise at its ends. Assumes nothing.
use mathlib.Core.Path.{◌≡◌, refl, sym, ap, ap₂, ◌∙◌}
use mathlib.Core.Bool.{Bool, true, false, true≢false}
use mathlib.Core.List.{List, [], ◌++◌}
use Prim.Native.Nat.{ℕ, zero, suc, ◌+◌, ◌-◌, ◌*◌, ◌≤◌}
use native.Mathlib.Numerals.{add-one}
use native.Mathlib.Omega.{arith}
use lib.Dec.{eqb}
use lib.ListN.{length, take, drop, length-append}
use Rattle.std.proofs.Common.{Result, Err}
use Rattle.std.specs.Cmp.Lexicographic.{pointwise}
use Rattle.law.specs.Words.{need, pick}
use Rattle.law.specs.Digits.{has, number_to}
use Rattle.rules.proofs.Refusals.{numbered}
use Rattle.rules.specs.Refusals.{number_of, told, fault_in}
use Rattle.rules.specs.declared.Refusal.{Refusal}
use Rattle.rules.specs.declared.Refused.{Refused}
use Rattle.filing.specs.Filing.{total_word, starts_with, numbers_in, values_in, all_fit, is_row, Read, stopped, totals_from, read_from, read_of, totals_told, filing_on_paper, Promise}
use Rattle.filing.specs.Parts.{held, RowTaken, RowRefused, read_by}
use Rattle.filing.proofs.Starts.{strip_is}
use Rattle.filing.proofs.Next.{length_none}
use Rattle.filing.proofs.Held.{held_none, held_on}

pub record Reading (text rows rows' rest : List ℕ) (line count : ℕ) : Type 0 where
  pub most : ℕ
  pub cells : List ℕ
  pub wide : length rest ≤ most
  pub left : read_of text ≡ read_from most line cells rest
  pub many : count ≡ length cells
  pub few : 2 * count + length rest ≤ length text
  pub lines : line + length rest ≤ length text + 1
  pub holds : rows' ≡ held rows cells
  pub long : length rows' ≡ length rows

pub reading-start : (text rows : List ℕ) → Reading text rows rows text 1 0
unfolding read_of
reading-start text rows =
    record {
      most = length text;
      cells = [];
      wide = omega arith;
      left = refl;
      many = refl;
      few = omega arith;
      lines = omega arith;
      holds = sym (held_none rows);
      long = refl;
    }

-- the promise, where what is read is known
promised : (text rows rows' cells : List ℕ) (count : ℕ) (totals : Result (List ℕ) Refused) → read_of text ≡ read_by totals cells → count ≡ length cells
    → rows' ≡ held rows cells → Promise text rows (filing_on_paper (record { count = count; totals = totals })) rows'
unfolding filing_on_paper read_by
promised text rows rows' cells count totals e c h =
    record {
      numbers = ap (λ (v : Read). v.number) (sym e);
      lines = ap (λ (v : Read). v.line) (sym e);
      counts = c ∙ ap (λ (v : Read). length v.cells) (sym e);
      totals = ap (λ (v : Read). v.totals) (sym e);
      leaves = h ∙ ap (λ (v : Read). held rows v.cells) (sym e);
    }

-- nothing is left: no row
row_of_none : is_row [] ≡ false
unfolding is_row numbers_in pick need number_to has
row_of_none = refl

module _ (text rows rows' rest : List ℕ) (line count : ℕ) (p : Reading text rows rows' rest line count) where
  -- the word of the totals
  module _ (figures : List ℕ) (t : pointwise eqb (take 6 rest) total_word ≡ true) (behind : figures ≡ drop 6 rest) (long : length figures + 6 ≡ length rest) where
    pub totals_end : (totals : Result (List ℕ) Refused) → ((cells : List ℕ) → read_by totals cells ≡ totals_from line cells figures)
        → Promise text rows (filing_on_paper (record { count = count; totals = totals })) rows'
    unfolding read_from pick
    totals_end totals h =
        let one : p.most ≡ suc (p.most - 1) = omega (arith, p.wide) in
        let word : starts_with total_word rest ≡ true = sym (strip_is total_word rest) ∙ t in
        let on : read_of text ≡ totals_from line p.cells (drop 6 rest) =
        p.left ∙ ap (λ (k : ℕ). read_from k line p.cells rest) one ∙ rw word in
        promised text rows rows' p.cells count totals (on ∙ ap (totals_from line p.cells) (sym behind) ∙ sym (h p.cells)) p.many p.holds

  -- no word of the totals
  module _ (t : pointwise eqb (take 6 rest) total_word ≡ false) where
    word : starts_with total_word rest ≡ false
    word = sym (strip_is total_word rest) ∙ t

    pub row-refused : (f : Refusal) → RowRefused rest f
        → Promise text rows (filing_on_paper (record { count = count; totals = Err (record { refusal = f; place = line }) })) rows'
    unfolding read_from pick need read_by told fault_in totals_told
    row-refused f r = promised text rows rows' p.cells count _ (p.left ∙ go p.most p.wide) p.many p.holds
      where
        by : (x : Read) (a b : Bool) → number_of f ≡ need 19 a (need 20 b 0) → need (stopped 19 line p.cells) a (need (stopped 20 line p.cells) b x) ≡ stopped (number_of f) line p.cells
        by x false b e = ap (λ (k : ℕ). stopped k line p.cells) (sym e)
        by x true false e = ap (λ (k : ℕ). stopped k line p.cells) (sym e)
        by x true true e = absurd (true≢false (sym (ap (λ (k : ℕ). eqb k 0) e) ∙ numbered f))

        go : (k : ℕ) → length rest ≤ k → read_from k line p.cells rest ≡ stopped (number_of f) line p.cells
        go zero l =
            let none : is_row rest ≡ false = ap is_row (length_none rest (omega arith)) ∙ row_of_none in
            ap (λ (k : ℕ). stopped k line p.cells) (sym (r ∙ rw none))
        go (suc k) l = rw word (by _ (is_row rest) (all_fit (values_in 7 rest)) r)

    module _ (numbers behind : List ℕ) (w : RowTaken rest numbers behind) where
      pub row_on : (rows'' row : List ℕ) (n : ℕ) → row ≡ numbers → n ≡ length numbers → rows'' ≡ take count rows' ++ held (drop count rows') row
          → length rows'' ≡ length rows' → Reading text rows rows'' behind (line + 1) (count + n)
      unfolding read_from pick need
      row_on rows'' row n is many put long =
          let c = p.cells in
          let one : p.most ≡ suc (p.most - 1) = omega (arith, p.wide, w.shorter, w.some) in
          let next : read_of text ≡ read_from (p.most - 1) (line + 1) (c ++ numbers) behind =
          p.left ∙ ap (λ (k : ℕ). read_from k line c rest) one ∙ rw (word, w.row, w.fit, sym w.values, sym w.behind, add-one) in
          record {
            most = p.most - 1;
            cells = c ++ numbers;
            wide = omega (arith, p.wide, w.shorter, w.some);
            left = next;
            many = omega (arith, p.many, length-append c numbers);
            few = omega (arith, p.few, w.shorter);
            lines = omega (arith, p.lines, w.shorter, w.some);
            holds =
                put ∙ ap (λ (r : List ℕ). take count rows' ++ held (drop count rows') r) is ∙ ap₂ (λ (u : List ℕ) (k : ℕ). take k u ++ held (drop k u) numbers) p.holds p.many
                ∙ held_on rows c numbers;
            long = long ∙ p.long;
          }

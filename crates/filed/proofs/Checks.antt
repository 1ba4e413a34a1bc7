-- What is said of a filing, by what the walk answers of its file. Assumes nothing.
use mathlib.Core.Path.{◌≡◌, refl, sym, ap, ap₂, ◌∙◌}
use mathlib.Core.Bool.{true, false, true≢false}
use mathlib.Core.List.{List, ◌++◌}
use Prim.Native.Nat.{ℕ, ◌*◌, ◌<◌, ◌≤◌}
use native.Mathlib.Omega.{arith}
use lib.ListN.{length, take, drop, length-take}
use lib.Seq.{take_at, take_all}
use lib.Dec.{eqb}
use borrow.Author.Tests.{eq-eqb, ne_eqb}
use Rattle.std.proofs.Common.{Result, Ok, Err}
use Rattle.law.specs.Numbers.{most_cells, row_cells}
use Rattle.law.specs.Words.{need}
use Rattle.rules.specs.declared.Refused.{Refused as Fails}
use Rattle.rules.specs.Refusals.{number_of, fault_in, told, Answer, answered}
use Rattle.rules.proofs.Refusals.{numbered}
use Rattle.rules.specs.OnPaper.{OnPaper}
use Rattle.rules.specs.Outfalls.{Line}
use Rattle.rules.specs.Judge.{refuse}
use Rattle.rules.specs.Row.{rows_of, totals_of}
use Rattle.rules.specs.Walk.{Refused, outcome}
use Rattle.rules.specs.Account.{refusal, acceptance}
use Rattle.answers.specs.Answers.{Stated, Denied}
use Rattle.answers.proofs.Answers.{by_outcome, denied_by}
use Rattle.answers.proofs.Rows.{rows_long}
use Rattle.walk.specs.Books.{no_rows}
use Rattle.walk.specs.Walking.{Unlent, walked_answer, walked_rows}
use Rattle.walk.proofs.Promises.{no_rows-long}
use Rattle.walk.specs.declared.Walked.{Walked}
use Rattle.filing.specs.declared.Filing.{Filing}
use Rattle.filing.specs.Filing.{read_of, totals_told, filing_on_paper, Promise as Reads}
use Rattle.filed.specs.declared.Verdict.{Verdict}
use Rattle.filed.specs.Filed.{verdict_on_paper, refused_with, with_totals, compared, against_lines, against, checked}
use Rattle.filed.specs.Said.{against_read, checked_text}

-- the lent cells hold all cells of a text that has no more
cells-kept : (cells rows rows' : List ℕ) (n : ℕ) → n ≡ length cells → n ≤ length rows → rows' ≡ take (length rows) cells ++ drop (length cells) rows → take n rows' ≡ cells
cells-kept cells rows rows' n e l h =
    ap (take n) h
    ∙ ap (λ (xs : List ℕ). take n (xs ++ drop (length cells) rows)) (take_all (length rows) cells (omega arith))
    ∙ take_at cells (drop (length cells) rows) n (sym e)

-- the first cells of a table that is long enough
pub front_long : (t : List ℕ) (n : ℕ) → n ≤ length t → length (take n t) ≡ n
front_long t n l = omega (arith, length-take n t)

-- a file's own refusal: cells for the rows of 48 lines are enough
module _ (file : List ℕ) (f : Fails) (u : Unlent file (walked_answer (Err f)) (walked_rows (Err f))) (r : Result Verdict Fails) (is : r ≡ Err f) where
  own_by : Denied file (walked_answer (Err f)) → outcome file ≡ Refused (fault_in f)
  unfolding refusal answered fault_in
  own_by d = d.refused ∙ ap (λ (a : Answer). Refused (record { number = a.number; place = a.place })) (sym d.answers)

  own : outcome file ≡ Refused (fault_in f)
  unfolding answered
  own =
      own_by (denied_by file no_rows (walked_answer (Err f)) (walked_rows (Err f)) (outcome file) refl (omega (arith, no_rows-long)) u.answers
      (λ z. true≢false (sym (ap (λ (k : ℕ). eqb k 0) z) ∙ numbered f.refusal)))

  pub checked-own : (rows totals : List ℕ) → verdict_on_paper r ≡ checked file rows totals
  unfolding verdict_on_paper checked against
  checked-own rows totals = rw (is, own)

  pub text_own : (text : List ℕ) → verdict_on_paper r ≡ checked_text file text
  unfolding verdict_on_paper checked_text against_read
  text_own text = rw (is, own)

-- a file that is accepted
module _ (file : List ℕ) (w : Walked) (u : Unlent file (walked_answer (Ok w)) (walked_rows (Ok w))) where
  abbrev t : List ℕ
  t = w.rows

  stated : Stated file no_rows (walked_answer (Ok w)) (walked_rows (Ok w))
  unfolding answered
  stated = by_outcome file no_rows (walked_answer (Ok w)) (walked_rows (Ok w)) (outcome file) refl u.answers u.leaves refl

  abbrev lines : List Line
  lines = stated.lines

  rows_are : w.account.lines ≡ length lines
  unfolding acceptance answered
  rows_are = ap (λ (b : Answer). b.rows) stated.answers

  totals_are : w.account.totals ≡ totals_of lines
  unfolding acceptance answered
  totals_are = ap (λ (b : Answer). b.totals) stated.answers

  table_is : t ≡ rows_of lines ++ drop (row_cells * length lines) no_rows
  table_is = stated.leaves

  pub rows_most : row_cells * w.account.lines ≤ most_cells
  rows_most = omega (arith, rows_are, stated.most)

  -- the first cells of the table, seven for each line
  table_front : (n : ℕ) → n ≡ row_cells * w.account.lines → take n t ≡ rows_of lines
  table_front n q =
      let m : n ≡ row_cells * length lines = omega (arith, q, rows_are) in
      ap₂ take m table_is ∙ take_at (rows_of lines) (drop (row_cells * length lines) no_rows) (row_cells * length lines) (rows_long lines)

  checked-is : (rows totals : List ℕ) → checked file rows totals ≡ against_lines rows totals lines
  unfolding checked against
  checked-is rows totals = rw stated.accepted

  -- 22: another number of cells than seven for each line
  count_wrong : (rows totals : List ℕ) → (length rows ≡ row_cells * length lines → ⊥) → refused_with (refuse 22 0) ≡ against_lines rows totals lines
  unfolding against_lines need
  count_wrong rows totals n = rw (ne_eqb (length rows) (row_cells * length lines) n)

  pub checked-count : (rows totals : List ℕ) → (length rows ≡ row_cells * w.account.lines → ⊥) → (r : OnPaper) → r ≡ refused_with (refuse 22 0) → r ≡ checked file rows totals
  checked-count rows totals n r h = h ∙ count_wrong rows totals (λ e. n (omega (arith, rows_are))) ∙ sym (checked-is rows totals)

  -- as many cells as there should be: they are compared
  pub checked-cells : (rows totals : List ℕ) (n : ℕ) → n ≡ row_cells * w.account.lines → length rows ≡ n → (r : OnPaper)
      → r ≡ compared (with_totals rows totals) (with_totals (take n t) w.account.totals) → r ≡ checked file rows totals
  unfolding against_lines need
  checked-cells rows totals n e l r h =
      let m : eqb (length rows) (row_cells * length lines) ≡ true = eq-eqb (length rows) (row_cells * length lines) (omega (arith, rows_are)) in
      h ∙ ap₂ (λ (x y : List ℕ). compared (with_totals rows totals) (with_totals x y)) (table_front n e) totals_are ∙ (rw m) ∙ sym (checked-is rows totals)

  -- a text as it was read
  module _ (text rows : List ℕ) (f : Filing) (rows' : List ℕ) (p : Reads text rows (filing_on_paper f) rows') where
    -- refused, with its own number and line
    pub text_refused : (g : Fails) → f.totals ≡ Err g → (r : Result Verdict Fails) → r ≡ Err g → verdict_on_paper r ≡ checked_text file text
    unfolding verdict_on_paper checked_text against_read need refuse filing_on_paper told fault_in
    text_refused g e r h =
        let number : number_of g.refusal ≡ (read_of text).number = ap (λ (x : Result (List ℕ) Fails). (told x).number) (sym e) ∙ p.numbers in
        let line : g.place ≡ (read_of text).line = ap (λ (x : Result (List ℕ) Fails). (told x).place) (sym e) ∙ p.lines in
        let some : eqb (read_of text).number 0 ≡ false = ap (λ (k : ℕ). eqb k 0) (sym number) ∙ numbered g.refusal in
        rw (h, stated.accepted, some, number, line)

    module _ (totals : List ℕ) (e : f.totals ≡ Ok totals) where
      totals_is : totals ≡ (read_of text).totals
      unfolding filing_on_paper totals_told
      totals_is = ap totals_told (sym e) ∙ p.totals

      text_is : checked_text file text ≡ against_lines (read_of text).cells (read_of text).totals lines
      unfolding checked_text against_read need filing_on_paper told
      text_is =
          let none : (read_of text).number ≡ 0 = sym p.numbers ∙ ap (λ (x : Result (List ℕ) Fails). (told x).number) e in
          rw (stated.accepted, eq-eqb (read_of text).number 0 none)

      -- with more cells than any account has
      pub text_long : most_cells < f.count → (r : OnPaper) → r ≡ refused_with (refuse 22 0) → r ≡ checked_text file text
      unfolding filing_on_paper
      text_long l r h = h ∙ count_wrong (read_of text).cells (read_of text).totals (λ q. omega (arith, stated.most, p.counts)) ∙ sym text_is

      -- with no more: its cells are checked
      pub text_checked : f.count ≤ length rows → (r : OnPaper) → r ≡ checked file (take f.count rows') totals → r ≡ checked_text file text
      unfolding filing_on_paper
      text_checked l r h =
          h ∙ ap₂ (checked file) (cells-kept (read_of text).cells rows rows' f.count p.counts l p.leaves) totals_is
          ∙ checked-is (read_of text).cells (read_of text).totals
          ∙ sym text_is

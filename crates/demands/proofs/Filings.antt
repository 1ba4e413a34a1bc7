-- A proof of what specs/Filings.antt says of every filing that is checked. Assumes nothing.
use mathlib.Core.Path.{◌≡◌, refl, sym, ap, ap₂, ◌∙◌}
use mathlib.Core.Bool.{Bool, true, false}
use mathlib.Core.List.{List, [], ◌∷◌, ◌++◌}
use mathlib.Core.Logic.{◌↔◌, inl, inr}
use Prim.Native.Nat.{ℕ, ◌+◌, ◌-◌, ◌*◌, ◌/◌, ◌%◌, ◌<◌, ◌≤◌}
use native.Mathlib.Omega.{arith}
use lib.ListN.{length, take, drop, get_or, length-append}
use lib.Seq.{ext_get_or, take_at, drop_at, get_or-append-add, get_or-take, get_or-drop}
use lib.Dec.{eqb, leb}
use borrow.Author.Tests.{eq-eqb, eqb-true, eqb-false, leb-true, leb-false}
use Rattle.law.specs.Numbers.{row_cells, total_cells}
use Rattle.law.specs.Words.{need}
use Rattle.law.proofs.Tabled.{table_length, table_at}
use Rattle.rules.specs.Refusals.{Fault, Answer}
use Rattle.rules.specs.OnPaper.{OnPaper, says}
use Rattle.rules.specs.Judge.{refuse}
use Rattle.rules.specs.Outfalls.{Line}
use Rattle.rules.specs.Row.{row_of, rows_of, total_of, totals_of}
use Rattle.rules.specs.Account.{acceptance}
use Rattle.rules.specs.Walk.{Outcome, Refused, Accepted, outcome}
use Rattle.answers.proofs.Answers.{stated}
use Rattle.answers.proofs.Rows.{rows_long, row-of}
use Rattle.answers.proofs.Never.{Ungiven, outcome-never, ungiven_8, ungiven_9}
use Rattle.rules.specs.declared.Refused.{Refused as Fails}
use Rattle.filed.specs.declared.Verdict.{Verdict as Found}
use Rattle.filed.specs.declared.Verdict.TheVariants.{Agrees as Alike, Wrong as Unlike}
use Rattle.filed.specs.Filed.{verdict_on_paper, refused_with, compared, against_lines, against, checked}
use Rattle.filed.specs.Parts.{FirstWrong}
use Rattle.filed.proofs.Compared.{compared-wrong, compared-yes, first-exists}
use Rattle.demands.specs.Demands.{Call, Result, Kept}
use Rattle.std.proofs.Common.{Result as Answered, Ok, Err}
use Rattle.demands.specs.Filings.{Filing, Verdict, Agrees, Wrong, Unchecked, on_paper, spoken, Meets, Right, FirstDiffers, RefusedBy, Checks}

pub totals_long : (lines : List Line) → length (totals_of lines) ≡ total_cells
unfolding totals_of
totals_long lines = table_length (λ i. total_of (i + 1) lines) total_cells

-- ---- what stands on paper tells apart what may be said
long : {p q : OnPaper} → p ≡ q → length p.values ≡ length q.values
long e = ap (λ (x : OnPaper). length x.values) e

pub said_only : (v w : Verdict) → on_paper v ≡ on_paper w → v ≡ w
unfolding on_paper
said_only Agrees Agrees e = refl
said_only Agrees (Wrong r f) e = absurd (omega (arith, long e))
said_only Agrees (Unchecked f) e = absurd (omega (arith, long e))
said_only (Wrong r f) Agrees e = absurd (omega (arith, long e))
said_only (Wrong r f) (Wrong s g) e = let q = ap (λ (x : OnPaper). x.values) e in cc
said_only (Wrong r f) (Unchecked g) e = absurd (omega (arith, long e))
said_only (Unchecked f) Agrees e = absurd (omega (arith, long e))
said_only (Unchecked f) (Wrong s g) e = absurd (omega (arith, long e))
said_only (Unchecked f) (Unchecked g) e =
    let place = ap (λ (x : OnPaper). get_or x.values 0 0) e in
    ap₂ (λ (n p : ℕ). Unchecked (record { number = n; place = p })) (ap (λ (x : OnPaper). x.number) e) place

by_code : (v : Answered Found Fails) → verdict_on_paper v ≡ on_paper (spoken v)
unfolding verdict_on_paper on_paper spoken
by_code (Ok Alike) = refl
by_code (Ok (Unlike row field)) = refl
by_code (Err f) = refl

-- ---- what is said of a filing, by what is so of it
module _ (x : Filing) where
  abbrev filed : List ℕ
  filed = x.rows ++ x.totals

  abbrev right : List Line → List ℕ
  right lines = rows_of lines ++ totals_of lines

  right_long : (lines : List Line) → length (right lines) ≡ row_cells * length lines + total_cells
  right_long lines = length-append (rows_of lines) (totals_of lines) ∙ ap₂ (λ (a b : ℕ). a + b) (rows_long lines) (totals_long lines)

  -- a file that is accepted, as many cells as there should be, and the first of them that is wrong
  record Counted (k : ℕ) : Type 0 where
    pub lines : List Line
    pub accepted : outcome x.file ≡ Accepted lines
    pub count : length x.rows ≡ row_cells * length lines
    pub first : FirstWrong filed (right lines) k

  data Case (p : OnPaper) : Type 0 where
    own : (f : Fault) → outcome x.file ≡ Refused f → p ≡ refused_with f → Case p
    miscounted : (lines : List Line) → outcome x.file ≡ Accepted lines → (length x.rows ≡ row_cells * length lines → ⊥) → p ≡ refused_with (refuse 22 0) → Case p
    differing : (k : ℕ) (c : Counted k) → k < length (right c.lines) → p ≡ says (k / row_cells ∷ k % row_cells ∷ []) → Case p
    agreeing : (k : ℕ) (c : Counted k) → length (right c.lines) ≤ k → p ≡ says [] → Case p

  case_first : (p : OnPaper) (k : ℕ) (c : Counted k) → p ≡ compared filed (right c.lines) → (t : Bool) → leb (length (right c.lines)) k ≡ t → Case p
  case_first p k c e true t = let l = leb-true (length (right c.lines)) k t in agreeing k c l (e ∙ compared-yes _ _ k c.first l)
  case_first p k c e false t = let l = leb-false (length (right c.lines)) k t in differing k c l (e ∙ compared-wrong _ _ k c.first l)

  case_count : (p : OnPaper) (lines : List Line) → outcome x.file ≡ Accepted lines → (t : Bool) → eqb (length x.rows) (row_cells * length lines) ≡ t
      → p ≡ need (refused_with (refuse 22 0)) t (compared filed (right lines)) → Case p
  unfolding need
  case_count p lines o true t e =
      let k = first-exists filed (right lines) in
      let c : Counted k.0 = record { lines = lines; accepted = o; count = eqb-true _ _ t; first = k.1 } in
      case_first p k.0 c e (leb (length (right lines)) k.0) refl
  case_count p lines o false t e = miscounted lines o (eqb-false _ _ t) e

  case_outcome : (p : OnPaper) (o : Outcome) → outcome x.file ≡ o → p ≡ against x.rows x.totals o → Case p
  unfolding against against_lines
  case_outcome p (Refused f) o e = own f o e
  case_outcome p (Accepted lines) o e = case_count p lines o (eqb (length x.rows) (row_cells * length lines)) refl e

  case_of : (p : OnPaper) → p ≡ checked x.file x.rows x.totals → Case p
  unfolding checked
  case_of p e = case_outcome p (outcome x.file) refl e

  -- how many values stand on paper
  many : {p q : OnPaper} → p ≡ q → length p.values ≡ length q.values
  many e = ap (λ (y : OnPaper). length y.values) e

  -- ---- some answer
  answer_by : (p : OnPaper) → Case p → (v : Verdict) × (on_paper v ≡ p)
  unfolding on_paper
  answer_by p (own f o e) = (Unchecked f, sym e)
  answer_by p (miscounted lines o n e) = (Unchecked (refuse 22 0), sym e)
  answer_by p (differing k c l e) = (Wrong (k / row_cells) (k % row_cells), sym e)
  answer_by p (agreeing k c l e) = (Agrees, sym e)

  one_answer : (v : Verdict) × Meets x v × ((w : Verdict) → Meets x w → w ≡ v)
  one_answer =
      let v = answer_by _ (case_of _ refl) in
      (v.0, v.1, λ w m. said_only w v.0 (m ∙ sym v.1))

  module _ (five : length x.totals ≡ total_cells) where
    -- ---- yes
    split : (lines : List Line) → length x.rows ≡ row_cells * length lines → filed ≡ right lines → (x.rows ≡ rows_of lines) × (x.totals ≡ totals_of lines)
    split lines c e = (
      sym (take_at x.rows x.totals _ c) ∙ ap (take (row_cells * length lines)) e ∙ take_at (rows_of lines) (totals_of lines) _ (rows_long lines),
      sym (drop_at x.rows x.totals _ c) ∙ ap (drop (row_cells * length lines)) e ∙ drop_at (rows_of lines) (totals_of lines) _ (rows_long lines),
    )

    all_alike : (k : ℕ) (c : Counted k) → length (right c.lines) ≤ k → filed ≡ right c.lines
    all_alike k c l =
        ext_get_or 0 filed (right c.lines)
        (omega (arith, length-append x.rows x.totals, right_long c.lines, c.count))
        (λ i m. c.first.before i (omega (arith, length-append x.rows x.totals, right_long c.lines, c.count)))

    right_by : (p : OnPaper) → p ≡ says [] → Case p → Right x
    right_by p s (own f o e) = absurd (omega (arith, many (sym s ∙ e)))
    right_by p s (miscounted lines o n e) = absurd (omega (arith, many (sym s ∙ e)))
    right_by p s (differing k c l e) = absurd (omega (arith, many (sym s ∙ e)))
    right_by p s (agreeing k c l e) = let q = split c.lines c.count (all_alike k c l) in record { lines = c.lines; accepted = c.accepted; rows_are = q.0; totals_are = q.1 }

    pub yes_if : Right x → Meets x Agrees
    unfolding on_paper checked against against_lines need
    yes_if r =
        let l = r.lines in
        let n : eqb (length x.rows) (row_cells * length l) ≡ true = eq-eqb _ _ (ap length r.rows_are ∙ rows_long l) in
        let e : filed ≡ right l = ap₂ (λ (a b : List ℕ). a ++ b) r.rows_are r.totals_are in
        let w : FirstWrong filed (right l) (length (right l)) =
        record { within = omega arith; before = λ j m. ap (λ (s : List ℕ). get_or s j 0) e; there = λ m. absurd (omega arith) } in
        sym (compared-yes _ _ _ w (omega arith)) ∙ (rw (r.accepted, n))

    yes_right : Meets x Agrees ↔ Right x
    unfolding on_paper
    yes_right = ((λ m. right_by _ refl (case_of _ m)), yes_if)

    -- ---- wrong
    module _ (k : ℕ) (c : Counted k) (l : k < length (right c.lines)) where
      abbrev ls : List Line
      ls = c.lines

      in_row : (row field : ℕ) → k ≡ row_cells * row + field → field < row_cells → row < length ls → (other : Line) → get_or (right ls) k 0 ≡ get_or (row_of (get_or ls (length ls - 1 - row) other)) field 0
      in_row row field e f r other =
          ap (λ (i : ℕ). get_or (right ls) i 0) e
          ∙ sym (get_or-drop (row_cells * row) (right ls) field 0)
          ∙ sym (get_or-take row_cells (drop (row_cells * row) (right ls)) field 0 f)
          ∙ ap (λ (s : List ℕ). get_or s field 0) (row-of other ls (totals_of ls) row r)

      in_totals : (row field : ℕ) → k ≡ row_cells * row + field → field < row_cells → length ls ≤ row → (row ≡ length ls) × (field < total_cells) × (get_or (right ls) k 0 ≡ total_of (field + 1) ls)
      unfolding totals_of
      in_totals row field e f r =
          let long = right_long ls in
          let n : row ≡ length ls = omega arith in
          let m : field < total_cells = omega arith in
          let place : k ≡ length (rows_of ls) + field = omega (arith, rows_long ls) in
          let total = get_or-append-add (rows_of ls) (totals_of ls) field 0 ∙ table_at (λ i. total_of (i + 1) ls) total_cells field 0 m in
          (n, m, ap (λ (i : ℕ). get_or (right ls) i 0) place ∙ total)

      first-differs : (row field : ℕ) → row ≡ k / row_cells → field ≡ k % row_cells → FirstDiffers x row field
      first-differs row field q f =
          let e : k ≡ row_cells * row + field = omega arith in
          record {
            lines = ls;
            accepted = c.accepted;
            count = c.count;
            right = get_or (right ls) k 0;
            of_row = λ r. (omega arith, in_row row field e (omega arith) r);
            of_totals = in_totals row field e (omega arith);
            differs = λ h. c.first.there l (ap (λ (i : ℕ). get_or filed i 0) e ∙ h);
            before = λ i m. c.first.before i (omega arith);
          }

    differs_by : (p : OnPaper) (row field : ℕ) → p ≡ says (row ∷ field ∷ []) → Case p → FirstDiffers x row field
    differs_by p row field s (own f o e) = absurd (omega (arith, many (sym s ∙ e)))
    differs_by p row field s (miscounted lines o n e) = absurd (omega (arith, many (sym s ∙ e)))
    differs_by p row field s (differing k c l e) =
        let v = sym s ∙ e in
        first-differs k c l row field (ap (λ (y : OnPaper). get_or y.values 0 0) v) (ap (λ (y : OnPaper). get_or y.values 1 0) v)
    differs_by p row field s (agreeing k c l e) = absurd (omega (arith, many (sym s ∙ e)))

    wrong_first : (row field : ℕ) → Meets x (Wrong row field) → FirstDiffers x row field
    unfolding on_paper
    wrong_first row field m = differs_by _ row field refl (case_of _ m)

    -- ---- refused
    same-fault : (f g : Fault) → refused_with f ≡ refused_with g → f ≡ g
    same-fault f g e =
        ap₂ (λ (n p : ℕ). record { number = n; place = p }) (ap (λ (y : OnPaper). y.number) e) (ap (λ (y : OnPaper). get_or y.values 0 0) e)

    refused_by : (p : OnPaper) (f : Fault) → p ≡ refused_with f → Case p → RefusedBy x f
    refused_by p f s (own g o e) = inl (o ∙ ap Refused (sym (same-fault f g (sym s ∙ e))))
    refused_by p f s (miscounted lines o n e) = inr (lines, o, same-fault f (refuse 22 0) (sym s ∙ e), n)
    refused_by p f s (differing k c l e) = absurd (omega (arith, many (sym s ∙ e)))
    refused_by p f s (agreeing k c l e) = absurd (omega (arith, many (sym s ∙ e)))

    refused_for : (f : Fault) → Meets x (Unchecked f) → RefusedBy x f
    unfolding on_paper
    refused_for f m = refused_by _ f refl (case_of _ m)

    -- not with a number that no record gives, unless it is 22
    never_by : (n : ℕ) → Ungiven n → (22 ≡ n → ⊥) → (f : Fault) → RefusedBy x f → f.number ≡ n → ⊥
    unfolding refuse
    never_by n u d f (inl o) z = outcome-never n u x.file f o z
    never_by n u d f (inr (lines, o, e, m)) z = d (sym (ap (λ (g : Fault). g.number) e) ∙ z)

    never_for : (f : Fault) → Meets x (Unchecked f) → (f.number ≡ 8 → ⊥) × (f.number ≡ 9 → ⊥)
    never_for f m = let r = refused_for f m in (never_by 8 ungiven_8 (λ z. omega (arith, z)) f r, never_by 9 ungiven_9 (λ z. omega (arith, z)) f r)

    pub checks : Checks x
    checks = record { one = one_answer; yes = yes_right; wrong = wrong_first; refused = refused_for; never = never_for; code = by_code }

-- ---- what the account call states is a filing that agrees
pub stated-agrees : (c : Call) (r : Result) → Kept c r → r.answer.number ≡ 0
    → Meets (record { file = c.file; rows = take (row_cells * r.answer.rows) r.rows; totals = r.answer.totals }) Agrees
unfolding acceptance
stated-agrees c r k z =
    let s = stated c.file c.rows r.answer r.rows c.concentrations c.flows r.concentrations r.flows k z in
    let l = s.lines in
    let n : row_cells * r.answer.rows ≡ row_cells * length l = ap (λ (a : Answer). row_cells * a.rows) s.answers in
    let rows : take (row_cells * r.answer.rows) r.rows ≡ rows_of l = ap₂ take n s.leaves ∙ take_at (rows_of l) _ _ (rows_long l) in
    let sums : r.answer.totals ≡ totals_of l = ap (λ (a : Answer). a.totals) s.answers in
    yes_if _ (ap length sums ∙ totals_long l) (record { lines = l; accepted = s.accepted; rows_are = rows; totals_are = sums })

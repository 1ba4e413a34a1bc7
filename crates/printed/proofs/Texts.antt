-- The texts of an answer are what the definition gives for the file. Assumes nothing.
use mathlib.Core.Path.{◌≡◌, refl, sym, ap, ap₂, ◌∙◌}
use mathlib.Core.Bool.{true≢false}
use mathlib.Core.List.{List, [], ◌∷◌, ◌++◌, append_assoc}
use Prim.Native.Nat.{ℕ, ◌<◌, ◌≤◌}
use native.Mathlib.Omega.{arith}
use lib.ListN.{length}
use lib.Dec.{eqb}
use borrow.Author.Tests.{le-leb}
use Rattle.law.specs.Numbers.{most_hours, most_cells, most_bytes}
use Rattle.law.proofs.Tests.{need_le, need_not_le}
use Rattle.std.specs.Prelude.{Ok, Err}
use Rattle.rules.specs.declared.Refusal.TheVariants.{TooLong}
use Rattle.rules.specs.declared.Refused.{Refused as Refusing}
use Rattle.rules.specs.declared.Account.{Account}
use Rattle.rules.specs.Refusals.{Answer, fault_in, answered}
use Rattle.rules.proofs.Refusals.{numbered}
use Rattle.rules.specs.Outfalls.{Line}
use Rattle.rules.specs.Row.{row_of, rows_of}
use Rattle.rules.specs.Judge.{refuse}
use Rattle.rules.specs.Walk.{outcome}
use Rattle.rules.specs.Account.{refusal, acceptance, work_fits, Promise}
use Rattle.answers.proofs.Rows.{row-behind}
use Rattle.answers.proofs.Answers.{stated, denied}
use Rattle.text.specs.Numbers.{spaced}
use Rattle.text.specs.Line.{refused_line}
use Rattle.text.specs.Text.{Text, rows_text, stated_text, stated_lines}
use Rattle.text.proofs.Texts.{text_of, all_there}
use Rattle.printed.specs.Program.{row_lines, total_line, printed_from, printed}

-- ---- the rows of lines
rows_text_lem : (lines : List Line) (rest : List ℕ) → rows_text (rows_of lines ++ rest) (length lines) ≡ row_lines lines
unfolding rows_text row_lines rows_of
rows_text_lem [] rest = refl
rows_text_lem (x ∷ xs) rest =
    ap₂ (λ (a b : List ℕ). a ++ spaced b) (ap (λ (c : List ℕ). rows_text c (length xs)) (append_assoc (rows_of xs) (row_of x) rest) ∙ rows_text_lem xs (row_of x ++ rest)) (row-behind xs x rest)

-- ---- a refusal has a number
some_number : (f : Refusing) → (answered (Err f)).number ≡ 0 → ⊥
unfolding answered
some_number f e = true≢false (sym (ap (λ (n : ℕ). eqb n 0) e) ∙ numbered f.refusal)

-- ---- the answer
module _ (file rows conc flow rows' conc' flow' : List ℕ) where
  pub answer_refused : (f : Refusing) → Promise file rows conc flow (answered (Err f)) rows' conc' flow' → length rows ≡ most_cells → length conc ≡ most_hours → length flow ≡ most_hours
      → refused_line (fault_in f) ≡ printed_from (outcome file)
  unfolding printed_from fault_in refuse refusal answered work_fits
  answer_refused f p l c w =
      let d = denied file rows (answered (Err f)) rows' conc flow conc' flow' p (omega (arith, l))
      (rw (le-leb most_hours (length conc) (omega (arith, c)), le-leb most_hours (length flow) (omega (arith, w)))) (some_number f) in
      let said : fault_in f ≡ d.fault = ap (λ (b : Answer). refuse b.number b.place) d.answers in
      ap refused_line said ∙ ap printed_from (sym d.refused)

  answer_stated : (a : Account) → Promise file rows conc flow (answered (Ok a)) rows' conc' flow' → length rows' ≡ most_cells → stated_lines rows' a.lines a.totals ≡ printed_from (outcome file)
  unfolding printed_from stated_text total_line acceptance answered
  answer_stated a p l =
      let s = stated file rows (answered (Ok a)) rows' conc flow conc' flow' p refl in
      let few : a.lines ≤ 48 = omega (arith, s.most, ap (λ (b : Answer). b.rows) s.answers) in
      let said : stated_text rows' a.lines a.totals ≡ row_lines s.lines ++ total_line s.lines =
      ap₂ (λ (b : Answer) (c : List ℕ). stated_text c b.rows b.totals) s.answers s.leaves
      ∙ ap (λ (t : List ℕ). t ++ total_line s.lines) (rows_text_lem s.lines _) in
      sym (all_there rows' a.lines a.totals few (omega (arith, few, l))) ∙ said ∙ ap printed_from (sym s.accepted)

  -- the totals that are handed on are a premise, so that other ones are named where this is refused
  pub text_stated : (a : Account) → Promise file rows conc flow (answered (Ok a)) rows' conc' flow' → (totals old new : List ℕ) (r : ℕ) → Text (stated_lines rows' a.lines totals) old new r → totals ≡ a.totals
      → length rows' ≡ most_cells → Text (printed_from (outcome file)) old new r × (r ≤ length new)
  text_stated a p totals old new r t e l = text_of _ _ old new r (ap (stated_lines rows' a.lines) e ∙ answer_stated a p l) t

-- ---- 13 comes first
pub over_long : (input : List ℕ) → most_bytes < length input → refused_line (fault_in (record { refusal = TooLong; place = 0 })) ≡ printed input
unfolding fault_in refuse printed
over_long input l = need_not_le (refused_line (refuse 13 0)) (printed_from (outcome input)) (length input) most_bytes l

pub not_long : (input : List ℕ) → length input ≤ most_bytes → printed_from (outcome input) ≡ printed input
unfolding printed
not_long input l = need_le (refused_line (refuse 13 0)) (printed_from (outcome input)) _ (length input) most_bytes l refl

-- What the number of an answer says of the file. Assumes nothing.
use mathlib.Core.Path.{◌≡◌, refl, ap, sym, subst, ◌∙◌}
use mathlib.Core.Bool.{Bool, true, false}
use mathlib.Core.List.{List, ◌++◌}
use Prim.Native.Nat.{ℕ, ◌*◌, ◌≤◌}
use native.Mathlib.Omega.{arith}
use lib.ListN.{length, drop}
use lib.Dec.{leb}
use borrow.Author.Tests.{leb-false}
use Rattle.law.specs.Numbers.{row_cells, most_cells}
use Rattle.law.specs.Words.{need}
use Rattle.law.proofs.Tests.{need_case}
use Rattle.rules.specs.Refusals.{Fault, Answer}
use Rattle.rules.specs.Outfalls.{Line}
use Rattle.rules.specs.Row.{rows_of}
use Rattle.rules.specs.Judge.{refuse}
use Rattle.rules.specs.Walk.{Outcome, Refused, Accepted, outcome}
use Rattle.rules.specs.Account.{refusal, acceptance, rows_fit, work_fits, answer_from, answer_of, rows_from, rows_after, Promise}
use Rattle.answers.specs.Answers.{Stated, Denied}
use Rattle.answers.proofs.Walks.{refused_some, accepted_48}

module _ (file rows : List ℕ) (a : Answer) (rows' : List ℕ) where
  by_rows : (lines : List Line) (t : Bool) → outcome file ≡ Accepted lines → a ≡ need (refusal (refuse 8 0)) t (acceptance lines)
      → rows' ≡ need rows t (rows_of lines ++ drop (row_cells * length lines) rows) → a.number ≡ 0 → Stated file rows a rows'
  unfolding need refusal refuse
  by_rows lines true o e r z = record { lines = lines; accepted = o; most = accepted_48 file lines o; answers = e; leaves = r }
  by_rows lines false o e r z = absurd (omega (arith, ap (λ (b : Answer). b.number) e, z))

  -- what a walk answers, work tables apart
  pub by_outcome : (o : Outcome) → outcome file ≡ o → a ≡ answer_from (length rows) o → rows' ≡ rows_from rows o → a.number ≡ 0 → Stated file rows a rows'
  unfolding answer_from rows_from refusal
  by_outcome (Refused f) o e r z = absurd (refused_some file f o (sym (ap (λ (b : Answer). b.number) e) ∙ z))
  by_outcome (Accepted lines) o e r z = by_rows lines (rows_fit (length rows) lines) o e r z

  by_work : (t : Bool) → a ≡ need (refusal (refuse 9 0)) t (answer_from (length rows) (outcome file)) → rows' ≡ need rows t (rows_from rows (outcome file))
      → a.number ≡ 0 → Stated file rows a rows'
  unfolding need refusal refuse
  by_work true e r z = by_outcome (outcome file) refl e r z
  by_work false e r z = absurd (omega (arith, ap (λ (b : Answer). b.number) e, z))

  -- the number is 0
  pub stated : (conc flow conc' flow' : List ℕ) → Promise file rows conc flow a rows' conc' flow' → a.number ≡ 0 → Stated file rows a rows'
  unfolding answer_of rows_after
  stated conc flow conc' flow' p z = by_work (work_fits (length conc) (length flow)) p.answers p.leaves z

  denied_rows : (lines : List Line) (t : Bool) → leb (row_cells * length lines) (length rows) ≡ t → outcome file ≡ Accepted lines → most_cells ≤ length rows
      → a ≡ need (refusal (refuse 8 0)) t (acceptance lines) → (a.number ≡ 0 → ⊥) → Denied file a
  unfolding need acceptance
  denied_rows lines true f o l e n = absurd (n (ap (λ (b : Answer). b.number) e))
  denied_rows lines false f o l e n = absurd (omega (arith, leb-false (row_cells * length lines) (length rows) f, accepted_48 file lines o, l))

  pub denied_by : (o : Outcome) → outcome file ≡ o → most_cells ≤ length rows → a ≡ answer_from (length rows) o → (a.number ≡ 0 → ⊥) → Denied file a
  unfolding answer_from rows_fit
  denied_by (Refused f) o l e n = record { fault = f; refused = o; answers = e }
  denied_by (Accepted lines) o l e n = denied_rows lines (leb (row_cells * length lines) (length rows)) refl o l e n

  -- the number is not 0, and cells for 48 rows and both work tables are lent
  pub denied : (conc flow conc' flow' : List ℕ) → Promise file rows conc flow a rows' conc' flow' → most_cells ≤ length rows → work_fits (length conc) (length flow) ≡ true
      → (a.number ≡ 0 → ⊥) → Denied file a
  unfolding answer_of need
  denied conc flow conc' flow' p l w n = denied_by (outcome file) refl l (p.answers ∙ rw w) n

  -- a claim on the number and place of acceptance, of 8, of 9 and of each fault of the file is one on the answer's
  module _ (P : ℕ → ℕ → Type 0) (accepted : P 0 0) (eight : P 8 0) (nine : P 9 0) (each : (f : Fault) → outcome file ≡ Refused f → P f.number f.place) where
    abbrev Of : Answer → Type 0
    Of b = P b.number b.place

    case_outcome : (lent : ℕ) (o : Outcome) → outcome file ≡ o → Of (answer_from lent o)
    unfolding answer_from refusal acceptance refuse
    case_outcome lent (Refused f) e = each f e
    case_outcome lent (Accepted lines) e = need_case Of _ _ _ (λ _. eight) (λ _. accepted)

    pub answer_case : (conc flow conc' flow' : List ℕ) → Promise file rows conc flow a rows' conc' flow' → P a.number a.place
    unfolding answer_of refusal refuse
    answer_case conc flow conc' flow' p = subst Of (sym p.answers) (need_case Of _ _ _ (λ _. nine) (λ _. case_outcome (length rows) (outcome file) refl))

-- `filed::check_filed` meets its contract: the file's own refusal, or the cells against its account. Assumes nothing.
use mathlib.Core.Path.{◌≡◌, refl, subst}
use mathlib.Core.List.{List}
use Prim.Native.Nat.{ℕ}
use Rattle.std.proofs.Common.{Result, Ok, Err}
use Rattle.rules.specs.declared.Refused.{Refused as Fails}
use Rattle.walk.specs.declared.Walked.{Walked}
use Rattle.walk.specs.Walking.{Unlent, walked_answer, walked_rows}
use Rattle.filed.proofs.Checks.{checked-own, rows_most}
use Rattle.filed.proofs.check_filed.Goals as goal

-- what the walk promises, of the case that it answered
in_case : (file : List ℕ) (r s : Result Walked Fails) → r ≡ s → Unlent file (walked_answer r) (walked_rows r) → Unlent file (walked_answer s) (walked_rows s)
in_case file r s e u = subst (λ (x : Result Walked Fails). Unlent file (walked_answer x) (walked_rows x)) e u

pub returns-in-Err : goal.returns-in-Err
returns-in-Err c = checked-own _ _ (in_case _ _ _ c.in-Err.is c.walk_unlent-walked.ensures) _ refl _ _

pub against_account-requires : goal.against_account-requires
against_account-requires c = rows_most _ _ (in_case _ _ _ c.in-Ok.is c.walk_unlent-walked.ensures)

pub returns-in-Ok : goal.returns-in-Ok
returns-in-Ok c = c.against_account.ensures _ (in_case _ _ _ c.in-Ok.is c.walk_unlent-walked.ensures)

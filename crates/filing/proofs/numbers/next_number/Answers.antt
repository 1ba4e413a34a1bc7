-- `numbers::next_number` meets its contract: each way out is a law on the digits that were taken. Assumes nothing.
use mathlib.Core.Path.{sym}
use native.Mathlib.Omega.{arith}
use borrow.Author.Tests.{eqb-true, eqb-false}
use Rattle.filing.proofs.Next.{next_at_end, next_without, next_other, next_one}
use Rattle.filing.proofs.numbers.next_number.Goals as goal

pub returns-then-is_empty : goal.returns-then-is_empty
returns-then-is_empty c = next_without _ _ _ c.digits_first.ensures (eqb-true _ _ (sym c.if-is_empty.ensures))

pub returns-in_err-stop : goal.returns-in_err-stop
returns-in_err-stop c = rw c.from_residual.ensures (next_at_end _ _ _ c.digits_first.ensures c.in_err-stop.ensures.cases)

pub returns-in-10 : goal.returns-in-10
returns-in-10 c =
    next_one _ _ _ c.digits_first.ensures _ _ c.in_ok-stop.ensures.cases.0 (eqb-false _ _ (sym c.if-is_empty.ensures)) (λ o. grind arith) _ c.value_of-value.ensures

pub returns-in_default : goal.returns-in_default
returns-in_default c =
    next_other _ _ _ c.digits_first.ensures _ _ c.in_ok-stop.ensures.cases.0 (λ e. grind arith) (λ e. grind arith)

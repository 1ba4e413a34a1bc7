-- `totals::totals_of` meets its contract: each way out is a law on the line that was read. Assumes nothing.
use Prim.Native.Nat.{◌+◌}
use mathlib.Core.Path.{sym, ap, ◌∙◌}
use borrow.Author.Tests.{eqb-true, eqb-false}
use Rattle.std.proofs.Common.{Err}
use Rattle.rules.specs.declared.Refusal.TheVariants.{BadLine, OutOfRange}
use Rattle.filing.proofs.Row.{err_is, none_is}
use Rattle.filing.proofs.Ending.{not_whole, whole, refused_test, taken_test, totals_none, totals_few, totals_over, totals_not_last, totals_taken}
use Rattle.filing.proofs.totals.totals_of.Goals as goal

pub returns-in_err-l : goal.returns-in_err-l
returns-in_err-l c =
    let e = c.in_err-l.ensures in
    let none = rw e.ok_part at c.line_of.ensures in
    totals_none _ _ none _ (none_is _ _ _ _ c.from_residual.ensures.1 e.value e.ok_part)

pub returns-in_err-totals : goal.returns-in_err-totals
returns-in_err-totals c =
    let l = rw c.in_ok-l.ensures.ok_part at c.line_of.ensures in
    let few = not_whole c.into_inner.result _ _ c.in_err-totals.ensures c.into_inner.ensures.variant in
    totals_few _ _ _ _ _ l few.0 _ (err_is _ _ c.from_residual-in_err-totals.ensures.1 ∙ ap Err few.1)

pub returns-in_err-ensure : goal.returns-in_err-ensure
returns-in_err-ensure c =
    let l = rw c.in_ok-l.ensures.ok_part at c.line_of.ensures in
    let five = whole c.into_inner.result _ _ _ c.in_ok-totals.ensures c.into_inner.ensures.variant c.into_inner.ensures.ok in
    let f = refused_test _ _ OutOfRange c.args.line _ c.in_err-ensure.ensures in
    totals_over _ _ _ _ _ l five.0 f.0 _ (err_is _ _ c.from_residual-in_err-ensure.ensures.1 ∙ ap Err f.1)

pub returns-in_err-ensure-2 : goal.returns-in_err-ensure-2
returns-in_err-ensure-2 c =
    let l = rw c.in_ok-l.ensures.ok_part at c.line_of.ensures in
    let five = whole c.into_inner.result _ _ _ c.in_ok-totals.ensures c.into_inner.ensures.variant c.into_inner.ensures.ok in
    let fits = taken_test _ OutOfRange c.args.line _ c.in_ok-ensure.ensures in
    let f = refused_test _ _ BadLine (c.args.line + 1) _ c.in_err-ensure-2.ensures in
    totals_not_last _ _ _ _ _ l five.0 fits (eqb-false _ _ (sym c.is_empty.ensures ∙ f.0)) _ (err_is _ _ c.from_residual-in_err-ensure-2.ensures.1 ∙ ap Err f.1)

pub returns : goal.returns
returns c =
    let l = rw c.in_ok-l.ensures.ok_part at c.line_of.ensures in
    let five = whole c.into_inner.result _ _ _ c.in_ok-totals.ensures c.into_inner.ensures.variant c.into_inner.ensures.ok in
    let fits = taken_test _ OutOfRange c.args.line _ c.in_ok-ensure.ensures in
    let last = taken_test _ BadLine (c.args.line + 1) _ c.in_ok-ensure-2.ensures in
    totals_taken _ _ _ _ _ l five.0 fits (eqb-true _ _ (sym c.is_empty.ensures ∙ last)) _ five.1

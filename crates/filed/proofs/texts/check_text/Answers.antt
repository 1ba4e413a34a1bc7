-- `texts::check_text` meets its contract: the file's own refusal, the text's, too many cells, or checked. Assumes nothing.
use mathlib.Core.Path.{refl}
use native.Mathlib.Omega.{arith}
use Rattle.rules.specs.Judge.{refuse}
use Rattle.rules.specs.Refusals.{fault_in}
use Rattle.filing.proofs.Row.{err_is}
use Rattle.filed.specs.Filed.{verdict_on_paper}
use Rattle.filed.proofs.Checks.{rows_most, text_own, text_refused, text_long, text_checked}
use Rattle.filed.proofs.texts.check_text.Goals as goal

pub returns-in_err-w : goal.returns-in_err-w
returns-in_err-w c = text_own _ _ c.in_err-w.ensures _ (err_is _ _ c.from_residual.ensures.1) _

pub returns-in_err-totals : goal.returns-in_err-totals
returns-in_err-totals c =
    text_refused _ _ c.in_ok-w.ensures _ _ _ _ c.read_filing-t.ensures _ c.in_err-totals.was _ (err_is _ _ c.from_residual-in_err-totals.ensures.1)

pub returns-then-t-gt336 : goal.returns-then-t-gt336
unfolding verdict_on_paper refuse fault_in
returns-then-t-gt336 c =
    text_long _ _ c.in_ok-w.ensures _ _ _ _ c.read_filing-t.ensures _ c.in_ok-totals.was c.if-t-gt336.true _ refl

pub against_account-requires : goal.against_account-requires
against_account-requires c = rows_most _ _ c.in_ok-w.ensures

pub returns : goal.returns
returns c =
    text_checked _ _ c.in_ok-w.ensures _ _ _ _ c.read_filing-t.ensures _ c.in_ok-totals.was (omega arith) _ (c.against_account.ensures _ c.in_ok-w.ensures)

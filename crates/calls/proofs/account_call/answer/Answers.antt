-- `calls::account_call::answer` meets its contract: what the face promises of the filled cells is written. Assumes nothing.
use Rattle.calls.specs.Answers.{lent_cells}
use Rattle.calls.proofs.Answers.{account_wrote}
use Rattle.calls.proofs.account_call.answer.Goals as goal

pub returns : goal.returns
unfolding lent_cells
returns c =
    account_wrote _ _ _ _ _ _ _ _ _ _ _ _ _ _ _ c.fill.ensures c.fill-2.ensures c.fill-3.ensures c.doarpezwim_account.ensures c.put_left.ensures

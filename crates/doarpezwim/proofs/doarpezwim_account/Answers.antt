-- `doarpezwim::doarpezwim_account` meets its contract: it hands on what the account and the cells promise. Assumes nothing.
use Rattle.doarpezwim.proofs.Laws.{account_face}
use Rattle.doarpezwim.proofs.doarpezwim_account.Goals as goal

pub returns : goal.returns
returns c = account_face _ _ _ _ _ _ _ _ _ _ c.account-account.ensures c.number.ensures c.answer_cells.ensures

-- `calls::account_call::put_left` meets its contract: four lists of cells, one behind the other. Assumes nothing.
use Rattle.calls.proofs.Puts.{left_wrote}
use Rattle.calls.proofs.account_call.put_left.Goals as goal

pub returns : goal.returns
returns c =
    left_wrote _ _ _ _ _ _ _ _ _ _ _ _ _ c.put_all-a.ensures.wrote c.put_all-r.ensures.wrote c.put_all-c.ensures.wrote c.put_all.ensures.wrote

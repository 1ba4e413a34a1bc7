-- `calls::import_call::put_left` meets its contract: three cells and bytes, one behind the other. Assumes nothing.
use Rattle.law.proofs.Wrote.{wrote_on, wrote_as}
use Rattle.calls.proofs.Puts.{cells_flat}
use Rattle.calls.proofs.import_call.put_left.Goals as goal

pub returns : goal.returns
returns c =
    wrote_on _ _ _ _ _ _ _ _ (wrote_as _ _ _ _ _ _ (cells_flat _ _) c.put_all-at.ensures.wrote) c.put_bytes.ensures.wrote

-- `calls::bytes::put_bytes` meets its contract: the bytes stand between what stood before and behind them. Assumes nothing.
use Rattle.calls.proofs.Puts.{wrote_part}
use Rattle.calls.proofs.bytes.put_bytes.Goals as goal

pub returns-clause-wrote : goal.returns-clause-wrote
returns-clause-wrote c = wrote_part _ _ _ _ c.requires c.copy_from_slice.ensures.after

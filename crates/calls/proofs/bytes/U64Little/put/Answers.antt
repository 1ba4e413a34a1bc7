-- `calls::bytes::U64Little::put` meets its contract: the bytes are those of paper. Assumes nothing.
use Rattle.std.proofs.Common.{◌∙◌}
use Rattle.law.proofs.Wrote.{wrote_as}
use Rattle.calls.proofs.Puts.{u64-little}
use Rattle.calls.proofs.bytes.U64Little.put.Goals as goal

pub returns-clause-wrote : goal.returns-clause-wrote
returns-clause-wrote c = wrote_as _ _ _ _ _ _ (c.to_le_bytes.ensures ∙ u64-little c.args.self) c.put_bytes.ensures.wrote

-- `calls::room` meets its contract: the law goes by the number, and the list is never written out. Assumes nothing.
use Rattle.calls.specs.Sized.{sized}
use Rattle.calls.proofs.room.Goals as goal

pub returns : goal.returns
returns c = sized 1_000_000 0

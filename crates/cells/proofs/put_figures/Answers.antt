-- `cells::put_figures` meets its contract: the figures are written from the front. Assumes nothing.
use Rattle.std.proofs.Common.{arith}
use Rattle.cells.proofs.Parts.{copied}
use Rattle.cells.proofs.put_figures.Goals as goal

pub returns : goal.returns
returns c = copied _ _ _ _ _ c.copy_from_slice.ensures.after (omega arith) c.min-n.ensures

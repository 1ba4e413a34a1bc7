-- `cells::clear_first` meets its contract: the part that is lent comes back cleared. Assumes nothing.
use Rattle.std.proofs.Common.{arith}
use Rattle.cells.proofs.Parts.{cleared}
use Rattle.cells.proofs.clear_first.Goals as goal

pub returns : goal.returns
returns c = cleared _ _ _ _ (c.fill.ensures.after (λ y e. e)) (omega arith) c.min-n.ensures

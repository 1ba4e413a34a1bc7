-- `hours::marks::with_bit` meets its contract. Assumes nothing.
use Rattle.hours.proofs.Marked.{shifted_bit}
use Rattle.hours.proofs.marks.with_bit.Goals as goal

pub returns : goal.returns
returns c = shifted_bit _ _ c.requires

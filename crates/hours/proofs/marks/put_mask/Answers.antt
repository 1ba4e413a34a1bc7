-- `hours::marks::put_mask` meets its contract: past the masks nothing is set. Assumes nothing.
use mathlib.Core.Path.{sym}
use lib.Seq.{set_out}
use Rattle.hours.proofs.marks.put_mask.Goals as goal

pub returns-else-day-masks : goal.returns-else-day-masks
returns-else-day-masks c = sym (set_out _ _ _ c.if-day-masks.false)

-- `walk::turns::walk_records` meets its contract: at each turn the code's state stands for some lines. Assumes nothing.
use mathlib.Core.Path.{◌≡◌}
use Prim.Native.Nat.{◌-◌}
use lib.ListN.{length}
use Rattle.law.specs.Numbers.{most_hours}
use Rattle.walk.specs.Books.{open_in}
use Rattle.walk.specs.Walking.{Going}
use Rattle.walk.proofs.turns.walk_records.Given as goal

abbrev pub invariant-loop-at : goal.invariant-loop-at
invariant-loop-at l =
    Going l.file l.t.view l.t.sums l.at (open_in l.marks l.conc l.flow) l.done × (length l.conc ≡ most_hours) × (length l.flow ≡ most_hours)

abbrev pub decreases-loop-at : goal.decreases-loop-at
decreases-loop-at l = length l.file - l.at

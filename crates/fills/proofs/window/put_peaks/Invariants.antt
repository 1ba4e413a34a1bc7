-- `fills::window::put_peaks` meets its contract. Assumes nothing.
use mathlib.Core.Path.{◌≡◌}
use lib.ListN.{length}
use Rattle.fills.specs.Windows.{Peaked}
use Rattle.fills.proofs.window.put_peaks.Given as goal

abbrev pub invariant-loop-k : goal.invariant-loop-k
invariant-loop-k l = (l.k ≡ length l.peaks.items) × Peaked l.valid l.peaks.items

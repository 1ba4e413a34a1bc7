-- `fills::stretch::filler` meets its contract. Assumes nothing.
use mathlib.Core.Path.{◌≡◌}
use Prim.Native.Nat.{◌≤◌}
use lib.ListN.{length}
use Rattle.law.specs.Words.{over}
use Rattle.fills.specs.Parts.{spot}
use Rattle.fills.proofs.stretch.filler.Given as goal

abbrev pub invariant-loop-k : goal.invariant-loop-k
invariant-loop-k l = (l.k ≤ length l.initial.part) × (length l.part ≡ length l.initial.part) × (l.part ≡ over (spot l.states l.v l.initial.part) l.k l.initial.part)

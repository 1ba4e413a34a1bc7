-- `fills::gaps::gather` meets its contract: what it holds is held in each quantity. Assumes nothing.
use Prim.Native.Nat.{◌≤◌}
use lib.ListN.{length}
use Rattle.fills.proofs.Gathered.{Gathered}
use Rattle.fills.proofs.gaps.gather.Given as goal

abbrev pub invariant-loop-i : goal.invariant-loop-i
invariant-loop-i l =
    (l.i ≤ length l.states) × (l.b ≤ l.i) × Gathered l.states l.concentrations l.initial.cs l.cs l.b l.i × Gathered l.states l.flows l.initial.ls l.ls l.b l.i

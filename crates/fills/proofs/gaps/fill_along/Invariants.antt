-- `fills::gaps::fill_along` meets its contract: what it holds is held in each quantity. Assumes nothing.
use mathlib.Core.Path.{◌≡◌}
use Prim.Native.Nat.{◌-◌, ◌≤◌}
use lib.ListN.{length}
use Rattle.fills.proofs.Stand.{Stand}
use Rattle.fills.specs.Windows.{Peaked}
use Rattle.fills.proofs.gaps.fill_along.Given as goal

abbrev pub invariant-loop-i : goal.invariant-loop-i
invariant-loop-i l =
    (l.empty ≤ l.i) × Stand l.states l.initial.concentrations l.cs l.concentrations (l.i - l.empty) l.i × Stand l.states l.initial.flows l.ls l.flows (l.i - l.empty) l.i
    × Peaked l.cs l.c.peaks.items × Peaked l.ls l.l.peaks.items × (l.c.valid.now ≡ l.cs) × (l.l.valid.now ≡ l.ls)

abbrev pub decreases-loop-i : goal.decreases-loop-i
decreases-loop-i l =
    length l.states - l.i

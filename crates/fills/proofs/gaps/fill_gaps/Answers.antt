-- `fills::gaps::fill_gaps` meets its contract. Assumes nothing.
use mathlib.Core.List.{List}
use Prim.Native.Nat.{ℕ, ◌≤◌}
use native.Mathlib.Omega.{arith}
use lib.ListN.{length, take, length-take}
use Rattle.law.specs.Numbers.{most_hours}
use Rattle.fills.proofs.gaps.fill_gaps.Goals as goal

pub gather-count-requires : goal.gather-count-requires
gather-count-requires c =
    let p = c.requires in
    (p.1, p.2, p.0, p.0)

pub fill_along-requires : goal.fill_along-requires
fill_along-requires c =
    let n = c.gather-count.result in
    let e = c.gather-count.ensures in
    let p = c.requires in
    let few : (s : List ℕ) → length (take n s) ≤ most_hours = λ s. omega (arith, length-take n s, e.0, p.0) in (
      (p.1, p.2, e.1, e.2),
      few c.gather-count.new.cs,
      few c.gather-count.new.ls,
    )

pub returns : goal.returns
returns c = c.fill_along.ensures

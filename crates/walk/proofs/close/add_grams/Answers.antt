-- `walk::close::add_grams` meets its contract: the sum fits, in whichever cell. Assumes nothing.
use Prim.Native.Nat.{ℕ, ◌+◌, ◌-◌, ◌*◌, ◌≤◌}
use mathlib.Core.Path.{refl, ap}
use mathlib.Core.List.{List}
use native.Mathlib.Nat.{add_comm}
use native.Mathlib.Omega.{arith}
use lib.ListN.{get_or, set}
use mir.Syntax.{w64}
use mir.Val.{Fits}
use Rattle.law.specs.Numbers.{most_lines, most_grams}
use Rattle.walk.proofs.close.add_grams.Goals as goal

sum_fits : (totals : List ℕ) (i grams : ℕ) → grams ≤ most_grams → ((k : ℕ) → get_or totals k 0 ≤ most_lines * most_grams) → Fits w64 (get_or totals i 0 + grams)
sum_fits totals i grams g t = omega (arith, g, t i)

pub overflow_add-totals : goal.overflow_add-totals
overflow_add-totals c = sum_fits c.args.totals.now _ c.args.grams c.requires.2 c.requires.3

pub returns : goal.returns
returns c =
    let t = c.args.totals.now in
    let i = c.args.pollutant - 1 in
    rw c.from-i.ensures (ap (set t i) (add_comm (get_or t i 0) c.args.grams))

-- `fills::fill::fill_of` meets its contract. Assumes nothing.
use mathlib.Core.Path.{◌≡◌, ◌∙◌, sym, ap}
use mathlib.Core.List.{List, reverse}
use Prim.Native.Nat.{ℕ, ◌<◌, ◌≤◌}
use native.Mathlib.Omega.{arith}
use lib.ListN.{take, drop}
use Rattle.law.specs.Numbers.{long_window}
use Rattle.law.specs.Words.{largest}
use Rattle.law.proofs.Tests.{pick_le, pick_not_le}
use Rattle.rules.specs.Fill.{window, long, fill, mean_up, same}
use Rattle.fills.proofs.Largest.{largest-before, last_before}
use Rattle.fills.proofs.fill.fill_of.Goals as goal

pub returns-then-gap-le24 : goal.returns-then-gap-le24
unfolding fill
returns-then-gap-le24 c =
    let few : c.args.gap ≤ 24 = omega (arith, c.if-gap-le24.true) in
    (pick_le _ _ _ _ _ few c.short_fill.ensures, c.requires.0)

pub last_720-requires : goal.last_720-requires
last_720-requires c =
    let e = c.put_peaks.ensures in
    rw c.as_slice.ensures.value (e.0, e.1, c.requires.1)

pub returns-then-b-gt0 : goal.returns-then-b-gt0
unfolding fill long window same
returns-then-b-gt0 c =
    let a = c.args in
    let fits = c.requires.1 in
    let v = a.valid.now in
    let more : 24 < a.gap = omega (arith, c.if-gap-le24.false) in
    let last = last_before a.b v c.if-b-gt0.true fits in
    let is = c.last_720.ensures ∙ largest-before long_window a.b v fits ∙ ap (λ (u : List ℕ). largest (take long_window u)) last in
    (pick_not_le _ _ _ _ _ more (is ∙ sym (ap (λ (u : List ℕ). long mean_up same u (drop a.b v)) last)), c.put_peaks.ensures.0)

pub returns : goal.returns
unfolding fill long window same
returns c =
    let a = c.args in
    let v = a.valid.now in
    let more : 24 < a.gap = omega (arith, c.if-gap-le24.false) in
    let none : 0 ≡ a.b = omega (arith, c.if-b-gt0.false) in
    (pick_not_le _ _ _ _ _ more (c.first_720.ensures ∙ ap (λ (k : ℕ). long mean_up same (reverse (take k v)) (drop k v)) none), c.requires.0)

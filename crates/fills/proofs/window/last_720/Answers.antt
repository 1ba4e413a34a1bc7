-- `fills::window::last_720` meets its contract. Assumes nothing.
use mathlib.Core.Path.{◌≡◌, ◌∙◌, ap}
use Prim.Native.Nat.{ℕ, ◌+◌, ◌-◌, ◌*◌, ◌/◌, ◌≤◌}
use native.Mathlib.Omega.{arith}
use Rattle.law.specs.Numbers.{long_window}
use Rattle.fills.specs.Windows.{span}
use Rattle.fills.proofs.Windows.{span-parted, by_peaks}
use Rattle.fills.proofs.window.last_720.Goals as goal

pub returns : goal.returns
returns c =
    let p = c.requires.0 in
    let there = c.requires.1 in
    let v = c.args.valid.now in
    let b = c.args.b in
    let start = c.saturating_sub-start.result in
    let first = c.div_ceil-first.result in
    let last = b / 48 in
    let at : start ≡ b - long_window = c.saturating_sub-start.ensures in
    let up : start ≤ 48 * first = omega (arith, c.div_ceil-first.ensures) in
    let on : first ≤ last = omega (arith, at, c.div_ceil-first.ensures) in
    let back : 48 * last ≤ b = omega arith in
    let middle = c.largest_of-between.ensures ∙ by_peaks v _ p first (last - first) (omega arith) ∙ ap (λ (k : ℕ). span v (48 * first) (48 * k)) (let z : first + (last - first) ≡ last = omega arith in z) in
    omega (arith, c.max-2.ensures, c.max.ensures, c.largest_of-before.ensures, middle, c.largest_of-behind.ensures, span-parted v start (48 * first) b up (omega arith), span-parted v (48 * first) (48 * last) b (omega arith) back)
    ∙ ap (λ (k : ℕ). span v k b) at

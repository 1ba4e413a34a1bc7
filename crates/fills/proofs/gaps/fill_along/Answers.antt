-- `fills::gaps::fill_along` meets its contract: what it holds is held in each quantity. Assumes nothing.
use mathlib.Core.Path.{◌≡◌, ◌∙◌}
use Prim.Native.Nat.{◌+◌, ◌-◌}
use native.Mathlib.Omega.{arith}
use Rattle.fills.proofs.Stand.{stand_start, stand_measured, stand_stopped, stand_gap, stand_end, gap_moves}
use Rattle.fills.proofs.Windows.{no_peak-yet, of_same}
use borrow.Author.Rules.{rules}
use Rattle.fills.proofs.gaps.fill_along.Goals as goal

pub loop-i-init : goal.loop-i-init
loop-i-init c =
    let p = c.requires in
    (search rules, stand_start _ _ _ p.0.0 p.0.2, stand_start _ _ _ p.0.1 p.0.3, no_peak-yet _ _ _ p.1 c.new-c.ensures, no_peak-yet _ _ _ p.2 c.new-l.ensures, c.new-c.ensures.0, c.new-l.ensures.0)

pub loop-i-smaller-then-s-eq-MEASURED : goal.loop-i-smaller-then-s-eq-MEASURED
loop-i-smaller-then-s-eq-MEASURED c =
    let m = c.run_end-i.ensures in
    omega (arith, m.begins, m.ends)

pub loop-i-preserved-then-s-eq-MEASURED : goal.loop-i-preserved-then-s-eq-MEASURED
loop-i-preserved-then-s-eq-MEASURED c =
    let m = c.run_end-i.ensures in
    let l = c.loop-i in
    let end = c.run_end-i.result in
    let from = m.begins in
    let b : end - l.empty ≡ l.i - l.empty + (end - l.i) = omega arith in (
      omega arith,
      stand_measured _ _ _ _ _ l.i end _ c.loop-i-test.true c.if-s-eq-MEASURED.true m b l.invariant.1,
      stand_measured _ _ _ _ _ l.i end _ c.loop-i-test.true c.if-s-eq-MEASURED.true m b l.invariant.2,
      l.invariant.3,
      l.invariant.4,
      l.invariant.5,
      l.invariant.6,
    )

pub fill-requires : goal.fill-requires
fill-requires c =
    let l = c.loop-i in
    let s = c.scan-gap.ensures in
    ((omega (arith, s.begins), s.ends, omega (arith, s.ends)), of_same _ _ _ _ l.invariant.5 l.invariant.3 l.invariant.1.in_kept)

pub fill-requires-then-s-eq-MISSING : goal.fill-requires-then-s-eq-MISSING
fill-requires-then-s-eq-MISSING c =
    let l = c.loop-i in
    let s = c.scan-gap.ensures in
    ((omega (arith, s.begins), s.ends, omega (arith, s.ends)), of_same _ _ _ _ l.invariant.6 l.invariant.4 l.invariant.2.in_kept)

pub overflow_sub-empty : goal.overflow_sub-empty
overflow_sub-empty c =
    let s = c.scan-gap.ensures in
    omega (arith, s.begins)

pub loop-i-smaller-then-s-eq-MISSING : goal.loop-i-smaller-then-s-eq-MISSING
loop-i-smaller-then-s-eq-MISSING c =
    let l = c.loop-i in
    let s = c.scan-gap.ensures in
    let m = gap_moves _ l.i _ c.scan-gap.result.next c.loop-i-test.true c.if-s-eq-MISSING.true s in
    omega (arith, s.ends)

pub loop-i-preserved-then-s-eq-MISSING : goal.loop-i-preserved-then-s-eq-MISSING
loop-i-preserved-then-s-eq-MISSING c =
    let l = c.loop-i in
    let n = c.scan-gap.result.next in
    let s = c.scan-gap.ensures in
    let m = gap_moves _ l.i _ n c.loop-i-test.true c.if-s-eq-MISSING.true s in
    let b : n - (n - (l.i - l.empty)) ≡ l.i - l.empty = omega arith in
    let c₁ = c.fill.ensures in
    let l₁ = c.fill-then-s-eq-MISSING.ensures in (
      omega arith,
      stand_gap _ _ _ _ _ l.i c.loop-i-test.true l.invariant.1 c.if-s-eq-MISSING.true _ n s _ (rw l.invariant.5 at c₁.0) _ b,
      stand_gap _ _ _ _ _ l.i c.loop-i-test.true l.invariant.2 c.if-s-eq-MISSING.true _ n s _ (rw l.invariant.6 at l₁.0) _ b,
      rw l.invariant.5 at c₁.1,
      rw l.invariant.6 at l₁.1,
      c₁.2 ∙ l.invariant.5,
      l₁.2 ∙ l.invariant.6,
    )

pub loop-i-preserved : goal.loop-i-preserved
loop-i-preserved c =
    let l = c.loop-i in
    let b : l.i + 1 - (l.empty + 1) ≡ l.i - l.empty = omega arith in (
      omega arith,
      stand_stopped _ _ _ _ _ l.i c.loop-i-test.true l.invariant.1 c.if-s-eq-MEASURED.false c.if-s-eq-MISSING.false _ b,
      stand_stopped _ _ _ _ _ l.i c.loop-i-test.true l.invariant.2 c.if-s-eq-MEASURED.false c.if-s-eq-MISSING.false _ b,
      l.invariant.3,
      l.invariant.4,
      l.invariant.5,
      l.invariant.6,
    )

pub returns : goal.returns
returns c =
    let l = c.loop-i in
    (stand_end _ _ _ _ _ l.i c.loop-i-test.false l.invariant.1, stand_end _ _ _ _ _ l.i c.loop-i-test.false l.invariant.2)

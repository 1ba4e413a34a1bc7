-- `fills::stretch::scan` meets its contract. Assumes nothing.
use mathlib.Core.Path.{◌≡◌, subst}
use lib.ListN.{length}
use Rattle.fills.specs.Parts.{Scanned}
use native.Mathlib.Omega.{arith}
use Rattle.fills.proofs.Scans.{scanning_start, scanning_missing, scanning_stopped, scanning_hit, scanning_end}
use Rattle.fills.proofs.stretch.scan.Goals as goal
use Rattle.fills.proofs.stretch.scan.Goals.{then-state-eq-MISSING, else-state-eq-MISSING}

pub loop-next-init : goal.loop-next-init
loop-next-init c = scanning_start _ _ (omega arith)

pub returns-then-state-eq-MEASURED : goal.returns-then-state-eq-MEASURED
returns-then-state-eq-MEASURED c =
    scanning_hit _ _ _ _ c.loop-next.invariant c.loop-next-test.true c.if-state-eq-MEASURED.true

pub loop-next-preserved : goal.loop-next-preserved
loop-next-preserved c =
    let l = c.loop-next in
    elim c.if-state-eq-MISSING.branch [
      | then-state-eq-MISSING w ↦ scanning_missing _ _ _ _ l.invariant c.loop-next-test.true w.if-state-eq-MISSING.true _ w.missing-is
      | else-state-eq-MISSING w ↦ scanning_stopped _ _ _ _ l.invariant c.loop-next-test.true c.if-state-eq-MEASURED.false w.if-state-eq-MISSING.false _ w.missing-is
    ]

pub returns : goal.returns
returns c =
    let e : c.loop-next.next ≡ length c.args.states.now = omega arith in
    subst (Scanned c.args.states.now c.args.first c.loop-next.missing) e (scanning_end _ _ _ _ c.loop-next.invariant (omega arith))

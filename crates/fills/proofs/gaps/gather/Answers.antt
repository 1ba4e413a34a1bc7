-- `fills::gaps::gather` meets its contract: what it holds is held in each quantity. Assumes nothing.
use native.Mathlib.Omega.{arith}
use Rattle.fills.proofs.Gathered.{gathered_start, gathered_valid, gathered_empty, gathered_done}
use borrow.Author.Rules.{rules}
use Rattle.fills.proofs.gaps.gather.Goals as goal

pub loop-i-init : goal.loop-i-init
loop-i-init c = (search rules, search rules, gathered_start _ _ _, gathered_start _ _ _)

pub loop-i-preserved-then-states-i-ne-MEASURED : goal.loop-i-preserved-then-states-i-ne-MEASURED
loop-i-preserved-then-states-i-ne-MEASURED c =
    let l = c.loop-i in
    let here = c.loop-i-test.true in
    (search rules, search rules, gathered_empty _ _ _ _ _ l.i here l.invariant.2 c.if-states-i-ne-MEASURED.true, gathered_empty _ _ _ _ _ l.i here l.invariant.3 c.if-states-i-ne-MEASURED.true)

pub loop-i-preserved : goal.loop-i-preserved
loop-i-preserved c =
    let l = c.loop-i in
    let here = c.loop-i-test.true in
    (search rules, search rules, gathered_valid _ _ _ _ _ l.i here l.invariant.2 c.if-states-i-ne-MEASURED.false (omega arith), gathered_valid _ _ _ _ _ l.i here l.invariant.3 c.if-states-i-ne-MEASURED.false (omega arith))

pub returns : goal.returns
returns c =
    let l = c.loop-i in
    let end = c.loop-i-test.false in
    (search rules, gathered_done _ _ _ _ _ l.i end l.invariant.2, gathered_done _ _ _ _ _ l.i end l.invariant.3)

-- `calls::lent::fill` meets its contract: the numbers are written from the front. Assumes nothing.
use Rattle.std.proofs.Common.{ap, ◌∙◌, arith, rules}
use Rattle.calls.proofs.Puts.{filled_none, filled_more}
use Rattle.calls.proofs.lent.fill.Goals as goal

pub loop-cell-init : goal.loop-cell-init
loop-cell-init g c = (filled_none _, search rules)

pub loop-cell-preserved : goal.loop-cell-preserved
loop-cell-preserved g c =
    let l = c.loop-cell in
    let number = l.invariant.1 in
    (filled_more _ l.cells l.cell-index _ (omega (arith, c.loop-cell-test.true, l.auto.cells)) l.invariant.0 (c.of.ensures ∙ ap g.T.Lent.cell number), omega (arith, number))

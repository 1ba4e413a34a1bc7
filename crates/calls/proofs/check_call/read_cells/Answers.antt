-- `calls::check_call::read_cells` meets its contract: the numbers are written from the front. Assumes nothing.
use Rattle.std.proofs.Common.{arith}
use Rattle.calls.specs.Answers.{cells_at}
use Rattle.calls.proofs.Puts.{filled_none, filled_more}
use Rattle.calls.proofs.check_call.read_cells.Goals as goal

pub loop-i-init : goal.loop-i-init
unfolding cells_at
loop-i-init c = filled_none _

pub loop-i-preserved : goal.loop-i-preserved
unfolding cells_at
loop-i-preserved c =
    let l = c.loop-i in
    filled_more _ l.cells l.i _ (omega (arith, c.loop-i-test.true, l.auto.cells)) l.invariant c.u64_at.ensures

-- `input::read_pieces` meets its contract, by what its reads say one behind the other. Assumes nothing.
use Rattle.std.proofs.Common.{arith, rules}
use Rattle.input.proofs.Going.{done_full, done_broke, kept_broke, most_on, going_on, done_end, consumed_end, at_end}
use Rattle.input.proofs.read_pieces.Goals as goal

pub overflow_add-count : goal.overflow_add-count
overflow_add-count g c =
    let most = most_on _ _ _ _ _ _ _ _ _ c.loop-count.invariant _ c.in-Ok.ensures in search rules

pub loop-count-preserved : goal.loop-count-preserved
loop-count-preserved g c = going_on _ _ _ _ _ _ _ _ _ c.loop-count.invariant _ c.in-Ok.ensures (omega (arith, c.in-Ok.n-test))

pub returns-in-Err-clause-delivered : goal.returns-in-Err-clause-delivered
returns-in-Err-clause-delivered g c = done_broke _ _ _ _ _ _ _ _ _ c.loop-count.invariant _ c.in-Err.ensures

pub returns-in-Err-clause-consumed : goal.returns-in-Err-clause-consumed
returns-in-Err-clause-consumed g c = kept_broke _ _ _ _ _ _ _ _ _ c.loop-count.invariant _ c.in-Err.ensures

pub returns-after-loop-count-clause-delivered : goal.returns-after-loop-count-clause-delivered
returns-after-loop-count-clause-delivered g c = done_full _ _ _ _ _ _ _ c.loop-count.invariant c.loop-count-test.false

pub returns-in-Ok-eq0-clause-delivered : goal.returns-in-Ok-eq0-clause-delivered
returns-in-Ok-eq0-clause-delivered g c = done_end _ _ _ _ _ _ _ _ _ c.loop-count.invariant _ c.in-Ok-eq0.ensures c.in-Ok-eq0.field-0-test

pub returns-in-Ok-eq0-clause-consumed : goal.returns-in-Ok-eq0-clause-consumed
returns-in-Ok-eq0-clause-consumed g c = consumed_end _ _ _ _ _ _ _ _ _ c.loop-count.invariant _ c.in-Ok-eq0.ensures c.in-Ok-eq0.field-0-test

pub returns-in-Ok-eq0-clause-ended : goal.returns-in-Ok-eq0-clause-ended
returns-in-Ok-eq0-clause-ended g c no_failure fewer = at_end _ _ _ _ _ _ _ _ _ c.loop-count.invariant _ c.in-Ok-eq0.ensures c.in-Ok-eq0.field-0-test

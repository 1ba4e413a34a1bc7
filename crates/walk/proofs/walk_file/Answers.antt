-- `walk::walk_file` meets its contract: 9, or both work slices are lent on. Assumes nothing.
use Rattle.walk.proofs.Promises.{short_conc, short_flow, promise_9, promise_settled}
use Rattle.walk.proofs.walk_file.Goals as goal

pub returns-then-concentrations-lt2208 : goal.returns-then-concentrations-lt2208
returns-then-concentrations-lt2208 c = promise_9 _ _ _ (short_conc _ _ c.if-concentrations-lt2208.true)

pub returns-then-flows-lt2208 : goal.returns-then-flows-lt2208
returns-then-flows-lt2208 c = promise_9 _ _ _ (short_flow _ _ c.if-concentrations-lt2208.false c.if-flows-lt2208.true)

pub returns : goal.returns
returns c = promise_settled _ _ _ _ _ _ _ c.if-concentrations-lt2208.false c.if-flows-lt2208.false c.settle.ensures

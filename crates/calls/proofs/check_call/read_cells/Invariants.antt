-- `calls::check_call::read_cells`: the cells so far hold their numbers. Assumes nothing.
use Rattle.std.proofs.Common.{◌≡◌, take}
use Rattle.calls.specs.Answers.{cells_at}
use Rattle.calls.proofs.check_call.read_cells.Given as goal

abbrev pub invariant-loop-i : goal.invariant-loop-i
invariant-loop-i l = take l.i l.cells ≡ cells_at l.s l.from l.i

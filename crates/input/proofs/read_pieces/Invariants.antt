-- What came so far, with what the reads from here on deliver, is what all of them deliver. Fewer bytes are left with each read.
use Rattle.std.proofs.Common.{◌-◌, length}
use Rattle.input.proofs.Going.{Going}
use Rattle.input.proofs.read_pieces.Given as goal

abbrev pub invariant-loop-count : goal.invariant-loop-count
invariant-loop-count g l = Going g.R.Read.remaining l.piece l.initial.from l.initial.buf l.from l.buf l.count

abbrev pub decreases-loop-count : goal.decreases-loop-count
decreases-loop-count g l = length l.initial.buf - l.count

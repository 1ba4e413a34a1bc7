-- `filing::read_filing` meets its contract: a row that is taken adds to what the loop holds, and each way out gives the promise. Assumes nothing.
use lib.ListN.{length}
use Rattle.filing.proofs.Reading.{Reading}
use Rattle.filing.proofs.read_filing.Given as goal

abbrev pub invariant-loop-figures : goal.invariant-loop-figures
invariant-loop-figures l = Reading l.text l.initial.rows l.rows l.rest l.line l.count

abbrev pub decreases-loop-figures : goal.decreases-loop-figures
decreases-loop-figures l = length l.rest

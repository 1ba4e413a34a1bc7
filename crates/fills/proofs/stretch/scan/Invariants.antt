-- `fills::stretch::scan` meets its contract. Assumes nothing.
use Rattle.fills.proofs.Scans.{Scanning}
use Rattle.fills.proofs.stretch.scan.Given as goal

abbrev pub invariant-loop-next : goal.invariant-loop-next
invariant-loop-next l = Scanning l.states l.first l.missing l.next

-- `lines::line_of` meets its contract: what is left of the line, behind the numbers that are read, is the whole. Assumes nothing.
use Prim.Native.Nat.{◌-◌}
use lib.ListN.{length}
use Rattle.filing.proofs.Numbering.{Numbering}
use Rattle.filing.proofs.lines.line_of.Given as goal

abbrev pub invariant-loop-rest : goal.invariant-loop-rest
invariant-loop-rest g l = Numbering g.row.N l.text l.numbers.items l.fits l.rest

abbrev pub decreases-loop-rest : goal.decreases-loop-rest
decreases-loop-rest g l = g.row.N - length l.numbers.items

-- `texts::said_of` meets its contract, by the cases of a verdict. Assumes nothing.
use Rattle.rules.specs.Judge.{refuse}
use Rattle.rules.specs.Refusals.{fault_in}
use Rattle.text.specs.Line.{said_line}
use Rattle.filed.specs.Filed.{verdict_on_paper}
use Rattle.filed.specs.Said.{line_by, line_of}
use Rattle.filed.proofs.texts.said_of.Goals as goal

pub returns-in-Ok-Agrees : goal.returns-in-Ok-Agrees
unfolding verdict_on_paper line_of line_by said_line
returns-in-Ok-Agrees c = let e = rw c.in-Ok-Agrees.is at c.in-Ok-Agrees.field-0-is in rw (c.in-Ok-Agrees.is, e)

pub returns-in-Ok-Wrong : goal.returns-in-Ok-Wrong
unfolding verdict_on_paper line_of line_by said_line
returns-in-Ok-Wrong c = let e = rw c.in-Ok-Wrong.is at c.in-Ok-Wrong.field-0-is in rw (c.in-Ok-Wrong.is, e)

pub returns-in-Err : goal.returns-in-Err
unfolding verdict_on_paper line_of line_by said_line refuse fault_in
returns-in-Err c = rw (c.in-Err.is, c.from.ensures)

-- `filing::read_filing` meets its contract: a row that is taken adds to what the loop holds, and each way out gives the promise. Assumes nothing.
use Rattle.filing.proofs.Reading.{reading-start, totals_end, row-refused, row_on}
use Rattle.filing.proofs.read_filing.Goals as goal

pub loop-figures-init : goal.loop-figures-init
loop-figures-init c = reading-start _ _

pub returns-in-Some : goal.returns-in-Some
returns-in-Some c =
    let e = c.in-Some.ensures.cases in
    totals_end _ _ _ _ _ _ c.loop-figures.invariant _ e.0 e.1 e.2 _ c.totals_of.ensures

pub loop-figures-preserved : goal.loop-figures-preserved
loop-figures-preserved c =
    row_on _ _ _ _ _ _ c.loop-figures.invariant c.in_default.ensures.cases _ _ c.in-Ok.ensures _ _ _ c.deref.ensures.0 c.len-count.ensures.value c.put_row.ensures
    c.put_row.auto.rows

pub returns-in-Err : goal.returns-in-Err
returns-in-Err c = row-refused _ _ _ _ _ _ c.loop-figures.invariant c.in_default.ensures.cases _ c.in-Err.ensures

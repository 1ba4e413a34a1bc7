-- `rows::put_row` meets its contract: the part behind the cells before comes back written. Assumes nothing.
use Rattle.filing.proofs.Held.{put_some}
use Rattle.filing.proofs.rows.put_row.Goals as goal

pub returns-then-count-rows : goal.returns-then-count-rows
returns-then-count-rows c =
    let a = c.args in
    put_some a.rows.now a.row.now _ a.count c.put_figures.ensures

-- `line::days::first_missing_day` meets its contract, by the days that have a state. Assumes nothing.
use Rattle.line.proofs.Missing.{first_found, first_none}
use Rattle.line.proofs.days.first_missing_day.Goals as goal

pub returns-in-Some : goal.returns-in-Some
returns-in-Some c =
    let h = c.in-Some.ensures in
    first_found _ _ _ _ c.from.ensures c.min-days.ensures c.in-Some.day h.0 h.1 h.2

pub returns-in-None : goal.returns-in-None
returns-in-None c = first_none _ _ _ _ c.from.ensures c.min-days.ensures c.in-None.ensures

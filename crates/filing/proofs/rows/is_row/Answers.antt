-- `rows::is_row` meets its contract, by its tests in turn. Assumes nothing.
use mathlib.Core.Path.{sym, ◌∙◌}
use Rattle.filing.specs.Filing.{total_word}
use Rattle.filing.proofs.Starts.{starts_is}
use Rattle.filing.proofs.rows.is_row.Goals as goal

pub returns-else-is_full : goal.returns-else-is_full
returns-else-is_full c = rw (sym c.if-is_full.ensures.value) (c.starts_with.ensures.value ∙ starts_is total_word c.args.l.now.rest.now)

-- `fuel::entry_of` meets its contract: paper loses nothing, and no entry of the tables is large. Assumes nothing.
use mathlib.Core.Path.{sym, subst}
use Rattle.rules.proofs.OnPaper.{coefficients_only}
use Rattle.tables.specs.Rows.{Small}
use Rattle.tables.proofs.Bounds.{coefficients_small}
use Rattle.fuel.proofs.entry_of.Goals as goal

pub returns-clause-entry : goal.returns-clause-entry
returns-clause-entry c = coefficients_only _ _ c.coefficients.ensures

pub returns-clause-small : goal.returns-clause-small
returns-clause-small c = subst Small (sym (coefficients_only _ _ c.coefficients.ensures)) (coefficients_small c.args.h)

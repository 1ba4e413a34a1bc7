-- `fills::fill::mean_up` meets its contract. Assumes nothing.
use mathlib.Core.Path.{sym}
use Rattle.law.proofs.Halves.{mean_is}
use Rattle.rules.specs.Fill.{mean_up}
use Rattle.fills.proofs.fill.mean_up.Goals as goal

pub returns : goal.returns
unfolding mean_up
returns c = rw (c.from.ensures, c.from-2.ensures) (sym (mean_is _ _))

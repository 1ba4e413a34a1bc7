-- `walk::walk_unlent` meets its contract: its work tables are clear as they are made. Assumes nothing.
use mathlib.Core.Path.{refl}
use Rattle.rules.specs.Row.{cells}
use Rattle.walk.proofs.Promises.{unlent}
use Rattle.walk.proofs.walk_unlent.Goals as goal

pub walk_records-requires : goal.walk_records-requires
unfolding cells
walk_records-requires c = (refl, refl)

pub returns : goal.returns
returns c = unlent _ _ _ _ c.walk_records.ensures

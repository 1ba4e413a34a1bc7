-- `fills::stretch::run_end` meets its contract: what is passed is measured. Assumes nothing.
use Rattle.law.proofs.Over.{part-whole}
use Rattle.fills.proofs.Scans.{measured_run}
use Rattle.fills.proofs.stretch.run_end.Goals as goal

pub returns : goal.returns
returns c = let m = c.measured_hours.ensures in measured_run _ _ _ _ (part-whole c.args.first c.args.states.now) c.requires m.within m.all

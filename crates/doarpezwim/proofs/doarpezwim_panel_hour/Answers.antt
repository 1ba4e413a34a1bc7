-- `doarpezwim::doarpezwim_panel_hour` meets its contract: an unknown kind leaves the state, and any other hands on what the panel's hour promises. Assumes nothing.
use Rattle.doarpezwim.proofs.Laws.{no_hour, some_hour}
use Rattle.doarpezwim.proofs.doarpezwim_panel_hour.Goals as goal

pub returns-in_default : goal.returns-in_default
returns-in_default c = no_hour _ _ _ _ _ c.in_default.ensures c.from.ensures

pub returns : goal.returns
returns c = some_hour _ _ _ _ _ _ _ c.in-Some.ensures c.hour-refused.ensures c.map_or.ensures

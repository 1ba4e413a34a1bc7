-- `doarpezwim::doarpezwim_governing_survey` meets its contract: a block of 14 bytes is copied out, and any other is the empty part. Assumes nothing.
use Rattle.doarpezwim.proofs.Laws.{part_none, part_found}
use Rattle.doarpezwim.proofs.doarpezwim_governing_survey.Goals as goal

pub returns-in_default : goal.returns-in_default
returns-in_default c = part_none _ _ _ _ _ c.governing_survey.ensures c.in_default.ensures.1

pub returns : goal.returns
returns c = part_found _ _ _ _ _ c.governing_survey.ensures _ c.in-Ok.ensures.1.long c.in-Ok.ensures.1.same

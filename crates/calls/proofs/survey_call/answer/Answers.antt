-- `calls::survey_call::answer` meets its contract: what the face promises is written. Assumes nothing.
use Rattle.calls.proofs.Answers.{part-wrote}
use Rattle.calls.proofs.survey_call.answer.Goals as goal

pub returns : goal.returns
returns c =
    part-wrote _ _ _ _ _ _ c.doarpezwim_governing_survey-n.ensures c.put_counted.ensures

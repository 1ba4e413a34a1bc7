-- `calls::import_call::answer` meets its contract: what the face promises of the filled buffer is written. Assumes nothing.
use Rattle.calls.specs.Answers.{lent_bytes}
use Rattle.calls.proofs.Answers.{import_wrote}
use Rattle.calls.proofs.import_call.answer.Goals as goal

pub returns : goal.returns
unfolding lent_bytes
returns c = import_wrote _ _ _ _ _ _ _ _ _ _ c.fill.ensures c.doarpezwim_import.ensures c.put_left.ensures

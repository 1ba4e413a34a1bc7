-- `calls::filed_call::answer` meets its contract: the line that `filed` promises is written. Assumes nothing.
use Rattle.std.proofs.Common.{ℕ, arith}
use lib.ListN.{length-replicate}
use Rattle.calls.proofs.Answers.{line_wrote}
use Rattle.calls.proofs.filed_call.answer.Goals as goal

pub returns : goal.returns
returns c =
    line_wrote _ _ _ _ _ _ _ _ (omega (arith, length-replicate {A = ℕ} 8_192 0)) c.filed_text-k.ensures.text c.put_counted.ensures

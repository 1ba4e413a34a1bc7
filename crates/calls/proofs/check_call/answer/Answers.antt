-- `calls::check_call::answer` meets its contract: what the face promises of the frame's cells is written. Assumes nothing.
use Rattle.law.proofs.Wrote.{wrote_as}
use Rattle.calls.proofs.Answers.{check_wrote}
use Rattle.calls.proofs.Puts.{cells_flat}
use Rattle.calls.proofs.check_call.answer.Goals as goal

pub returns : goal.returns
returns c =
    check_wrote _ _ _ _ _ _ _ _ _ _ c.read_cells-2.ensures c.read_cells.ensures c.doarpezwim_check.ensures (wrote_as _ _ _ _ _ _ (cells_flat _ _) c.put_all.ensures.wrote)

-- `doarpezwim::doarpezwim_check` meets its contract: it hands on what the check and the cells promise. Assumes nothing.
use native.Mathlib.Omega.{arith}
use Rattle.doarpezwim.proofs.Laws.{said-most, check_face}
use Rattle.doarpezwim.proofs.doarpezwim_check.Goals as goal

pub overflow_cast-result : goal.overflow_cast-result
overflow_cast-result c = omega (arith, said-most _ _ _ _ _ c.check_filed.ensures c.verdict_cells.ensures)

pub returns : goal.returns
returns c = check_face _ _ _ _ _ c.check_filed.ensures c.verdict_cells.ensures

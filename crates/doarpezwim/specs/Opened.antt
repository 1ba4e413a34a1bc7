-- The cells of the answers opened, with what each answer is on paper: who computes them names this.
use Rattle.law.specs.Words.{table}
use Rattle.rules.specs.Refusals.{fault_in, told, answered}
use Rattle.import.specs.Import.{imported}
use Rattle.filed.specs.Filed.{verdict_on_paper}
use Rattle.doarpezwim.specs.Faces.{answer_cells, hour_of_kind, import_cells, verdict_cells_by, verdict_cells}

unfoldable pub faces : Type 0
unfolding table fault_in told answered imported verdict_on_paper answer_cells hour_of_kind import_cells verdict_cells_by verdict_cells
faces = Unit

-- `doarpezwim::doarpezwim_import` meets its contract: it hands on what the import and the cells promise. Assumes nothing.
use Rattle.doarpezwim.proofs.Laws.{import_face}
use Rattle.doarpezwim.proofs.doarpezwim_import.Goals as goal

pub returns : goal.returns
returns c = import_face _ _ _ _ _ _ c.import_days-imported.ensures c.number.ensures c.import_cells.ensures

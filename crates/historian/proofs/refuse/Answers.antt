-- `historian::refuse`: the text that is written stands in its buffer. Assumes nothing.
use Rattle.std.proofs.Common.{sym, length-take-le}
use Rattle.text.proofs.Texts.{text_within}
use Rattle.historian.proofs.refuse.Goals as goal

pub slice_bounds-said-end : goal.slice_bounds-said-end
slice_bounds-said-end g c = text_within _ _ _ _ c.said_text-n.ensures

pub slice_bounds-write_all-end : goal.slice_bounds-write_all-end
slice_bounds-write_all-end g c = sym (length-take-le _ _ (text_within _ _ _ _ c.said_text-n.ensures))

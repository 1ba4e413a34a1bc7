-- `hours::marks::mark_measured` meets its contract. Assumes nothing.
use mathlib.Core.Path.{refl, sym, ◌∙◌}
use Rattle.hours.proofs.Marked.{marked_already, marked_anew, fewer}
use Rattle.hours.proofs.marks.mark_measured.Goals as goal

pub returns-then-bit_of-eq1 : goal.returns-then-bit_of-eq1
returns-then-bit_of-eq1 c =
    rw (← c.from-hour.ensures) (marked_already _ _ _ _ c.mask_at-before.ensures _ refl (sym c.bit_of.ensures ∙ c.if-bit_of-eq1.true))

pub overflow_sub-result : goal.overflow_sub-result
overflow_sub-result c =
    fewer _ _ _ _ _ _ c.with_bit-after.ensures c.missing_hours.ensures c.missing_hours-2.ensures

pub returns : goal.returns
returns c =
    rw (← c.from-hour.ensures)
    (marked_anew c.from-hour.result c.args.runs.now c.args.measured.now c.mask_at-before.result c.mask_at-before.ensures _ _ c.with_bit-after.result _ _ _ c.with_bit-after.ensures
    c.put_mask.ensures refl c.mask_at-run.ensures c.missing_hours.ensures c.missing_hours-2.ensures)

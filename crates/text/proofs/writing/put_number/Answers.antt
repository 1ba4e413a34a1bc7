-- `text::writing::put_number` meets its contract: the digits that `itoa` prints, and the byte behind them. Assumes nothing.
use mathlib.Core.Path.{◌∙◌}
use native.Mathlib.Omega.{arith}
use Rattle.law.proofs.Wrote.{wrote_byte, wrote_on, wrote_as}
use Rattle.text.proofs.Numbers.{decimal-is}
use Rattle.text.proofs.writing.put_number.Goals as goal

pub returns : goal.returns
returns c =
    wrote_on _ _ _ _ _ _ _ _ (wrote_as _ _ _ _ _ _ (c.as_bytes.ensures.value ∙ c.format.ensures.text ∙ decimal-is _ c.ranges.n.fits) c.put_bytes-end.ensures)
    (wrote_byte _ _ _ (omega arith))

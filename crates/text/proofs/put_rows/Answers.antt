-- `text::put_rows` meets its contract: after i rows their texts stand at the start. Assumes nothing.
use native.Mathlib.Omega.{arith}
use mathlib.Core.List.{[]}
use Rattle.text.specs.Numbers.{spaced}
use Rattle.text.proofs.Bytes.{wrote_more}
use Rattle.text.proofs.Rows.{row_ends}
use Rattle.text.proofs.put_rows.Goals as goal

pub loop-row-preserved : goal.loop-row-preserved
loop-row-preserved c = record {
  wrote = wrote_more spaced _ _ [] _ _ _ _ _ _ c.loop-row-test.true c.loop-row.invariant.wrote c.put_spaced-end.ensures;
  below = omega (arith, c.loop-row.invariant.below, row_ends _ _ _ _ _ (c.told-rows _ c.loop-row-test.true) c.put_spaced-end.ensures);
}

-- `text::writing::put_spaced` meets its contract: no numbers are a line feed, and any others end in one behind the last. Assumes nothing.
use Prim.Native.Nat.{ℕ}
use native.Mathlib.Omega.{arith}
use lib.ListN.{length-append}
use Rattle.std.proofs.Common.{rules}
use Rattle.text.proofs.Numbers.{decimal-most}
use Rattle.text.proofs.Bytes.{wrote_more}
use Rattle.text.proofs.Spaced.{with_space, wrote_no_cells, wrote_cells}
use Rattle.text.proofs.writing.put_spaced.Goals as goal

pub returns-in_default : goal.returns-in_default
returns-in_default c = wrote_no_cells _ _ _ _ _ (search rules) c.put_bytes.ensures

pub loop-n-preserved : goal.loop-n-preserved
loop-n-preserved c = record {
  wrote = wrote_more with_space _ _ 0 _ _ _ _ _ _ c.loop-n-test.true c.loop-n.invariant.wrote c.put_number-end.ensures;
  below = omega (arith, c.put_number-end.ensures.ends, c.loop-n.invariant.below, length-append {A = ℕ}, decimal-most);
}

pub returns : goal.returns
returns c = wrote_cells _ _ _ _ _ _ _ _ _ _ (search rules) c.loop-n-test.false c.loop-n.invariant.wrote c.put_number.ensures

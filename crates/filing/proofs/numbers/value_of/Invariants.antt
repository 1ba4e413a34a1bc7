-- `numbers::value_of` meets its contract: the digits that are left, from the number so far on, are the whole. Assumes nothing.
use Prim.Native.Nat.{◌<◌}
use mathlib.Core.Bool.{true}
use mathlib.Core.Path.{◌≡◌}
use lib.ListN.{drop}
use Rattle.law.specs.Digits.{all_digits, value_from, value}
use Rattle.filing.specs.Filing.{filed_limit}
use Rattle.filing.proofs.numbers.value_of.Given as goal

abbrev pub invariant-loop-b : goal.invariant-loop-b
invariant-loop-b l = record {
  each : all_digits (drop l.b-index l.digits) ≡ true;
  below : l.value < filed_limit;
  left : value_from l.value (drop l.b-index l.digits) ≡ value l.digits;
}

-- `numbers::value_of` meets its contract: the digits that are left, from the number so far on, are the whole. Assumes nothing.
use mathlib.Core.Path.{◌∙◌}
use native.Mathlib.Omega.{arith}
use Rattle.filing.proofs.Next.{value_whole, digit_here, digits_left, value_left, value_over, kept_is}
use Rattle.filing.proofs.numbers.value_of.Goals as goal

pub returns-in_err-checked_mul : goal.returns-in_err-checked_mul
returns-in_err-checked_mul c =
    let k = c.loop-b.invariant in
    c.from_residual.ensures ∙ value_over _ _ _ k.each k.left c.loop-b-test.true (omega (arith, c.in_err-checked_mul.ensures))

pub overflow_sub-b : goal.overflow_sub-b
overflow_sub-b c = let k = c.loop-b.invariant in (digit_here _ _ _ k.each k.left c.loop-b-test.true).0

pub returns-in_err-value : goal.returns-in_err-value
returns-in_err-value c =
    let k = c.loop-b.invariant in
    c.from_residual-in_err-value.ensures ∙ value_over _ _ _ k.each k.left c.loop-b-test.true (omega (arith, c.in_err-value.ensures))

pub loop-b-preserved : goal.loop-b-preserved
loop-b-preserved c =
    let k = c.loop-b.invariant in
    record {
      each = digits_left _ _ _ k.each k.left c.loop-b-test.true;
      below = omega (arith, c.in_ok-value.ensures);
      left = value_left _ _ _ k.each k.left c.loop-b-test.true _ (omega (arith, c.in_ok-value.ensures, c.in_ok-checked_mul.ensures));
    }

pub returns : goal.returns
returns c =
    let k = c.loop-b.invariant in
    let e = value_whole _ _ _ k.each k.left c.loop-b-test.false in
    kept_is _ _ e k.below

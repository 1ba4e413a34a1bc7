-- `panel::lawful::is_whole` meets its contract: the bits of the number's cast are those of t exactly where t is lawful, and a lawful t passes the tests.
use Rattle.std.proofs.Common.{ℕ, ◌^◌, ◌≤◌, T, sym, ◌∙◌, subst, not-le_of_lt}
use lib.Ieee.{of_bits, neg, fits, binary64}
use borrow.Author.Tests.{lt-leb}
use Rattle.panel.specs.Lawful.{as_total}
use Rattle.panel.proofs.Whole.{whole-cast, cast_no_nan, same_bits, lawful-above, lawful-below, whole_le, fails}
use Rattle.panel.proofs.lawful.is_whole.Goals.{then-n-le-MOST_TOTAL, else-n-le-MOST_TOTAL, else-t-via-then-t+else-t-2, else-t-via-else-t}
use Rattle.panel.proofs.lawful.is_whole.Goals as goal

pub truncating_f64_to_u64-n-requires : goal.truncating_f64_to_u64-n-requires
unfolding of_bits neg
truncating_f64_to_u64-n-requires c = record { lower_bound = subst T (sym c.if-t.true) tt; upper_bound = subst T (sym c.if-t-2.true) tt }

pub float_to_bits-result : goal.float_to_bits-result
unfolding as_total
float_to_bits-result c = cast_no_nan _ c.if-n-le-MOST_TOTAL.true

pub returns-then-t-2 : goal.returns-then-t-2
unfolding as_total
returns-then-t-2 c =
    let f : T (fits binary64 c.args.t) = subst T (sym c.well_formed.0.1) tt in
    elim c.if-n-le-MOST_TOTAL.branch [
      | then-n-le-MOST_TOTAL w ↦ w.result-is ∙ same_bits _ _ f c.truncating_f64_to_u64-n.ensures w.if-n-le-MOST_TOTAL.true
      | else-n-le-MOST_TOTAL w ↦
          w.result-is ∙ lt-leb _ _ w.if-n-le-MOST_TOTAL.false ∙ fails _ (λ t. not-le_of_lt w.if-n-le-MOST_TOTAL.false
          (subst (λ (n : ℕ). n ≤ 2 ^ 53) (whole-cast _ t ∙ sym c.truncating_f64_to_u64-n.ensures) (whole_le _ f t)))
    ]

pub returns : goal.returns
unfolding of_bits neg
returns c =
    let f : T (fits binary64 c.args.t) = subst T (sym c.well_formed.0.1) tt in
    elim c.else-t.branch [
      | else-t-via-then-t+else-t-2 w ↦ fails _ (λ t. subst T w.if-t-2.false (lawful-below _ f t))
      | else-t-via-else-t w ↦ fails _ (λ t. subst T w.if-t.false (lawful-above _ f t))
    ]

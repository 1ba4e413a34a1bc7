-- `quarter::account` meets its contract: refused by the walk, too few cells for rows, or accepted. Assumes nothing.
use mathlib.Core.Path.{refl, ap}
use mathlib.Core.List.{List, ◌++◌}
use Prim.Native.Nat.{ℕ, ◌*◌}
use native.Mathlib.Omega.{arith}
use lib.ListN.{drop}
use Rattle.rules.specs.Refusals.{answered}
use Rattle.rules.specs.Judge.{refuse}
use Rattle.rules.specs.Account.{refusal}
use Rattle.quarter.proofs.Promises.{lent, rows_most, asked, asked_refused, promise_8, promise_0}
use Rattle.quarter.proofs.account.Goals as goal

pub returns-in-Err : goal.returns-in-Err
returns-in-Err c = asked_refused _ _ _ _ _ _ c.walk_file-walked.ensures _ c.in-Err.is _ refl _

pub overflow_mul-n : goal.overflow_mul-n
unfolding answered
overflow_mul-n c =
    let w = asked _ _ _ _ _ _ c.walk_file-walked.ensures _ c.in-Ok.is in
    omega (arith, rows_most _ _ _ _ _ _ _ w refl)

pub clear_work-requires : goal.clear_work-requires
unfolding answered
clear_work-requires c =
    let l = lent _ _ _ _ _ _ _ (asked _ _ _ _ _ _ c.walk_file-walked.ensures _ c.in-Ok.is) refl in
    (omega (arith, l.0, c.walk_file-walked.auto.concentrations), omega (arith, l.1, c.walk_file-walked.auto.flows))

pub returns-then-rows-n : goal.returns-then-rows-n
unfolding answered refusal refuse
returns-then-rows-n c =
    promise_8 _ _ _ _ _ _ _ (asked _ _ _ _ _ _ c.walk_file-walked.ensures _ c.in-Ok.is) _ refl c.if-rows-n.true _ _ _ c.walk_file-walked.auto.concentrations c.walk_file-walked.auto.flows
    refl c.clear_work.ensures.0 c.clear_work.ensures.1

pub shared_ref_as_front-copy_from_slice : goal.shared_ref_as_front-copy_from_slice
unfolding answered
shared_ref_as_front-copy_from_slice c =
    let w = asked _ _ _ _ _ _ c.walk_file-walked.ensures _ c.in-Ok.is in
    omega (arith, rows_most _ _ _ _ _ _ _ w refl)

pub returns : goal.returns
unfolding answered
returns c =
    promise_0 _ _ _ _ _ _ _ (asked _ _ _ _ _ _ c.walk_file-walked.ensures _ c.in-Ok.is) _ refl _ refl c.if-rows-n.false _
    (ap (λ (t : List ℕ). t ++ drop (7 * c.in-Ok.w.account.lines) c.args.rows.now) c.copy_from_slice.ensures.after)

-- `walk::turns::walk_records` meets its contract: refused at a record, at the file's end inside a line, or ended. Assumes nothing.
use mathlib.Core.Path.{◌≡◌, refl, sym, ap, subst, ◌∙◌}
use native.Mathlib.Omega.{arith}
use Rattle.std.proofs.Common.{rules}
use Rattle.rules.specs.declared.Refused.{Refused}
use Rattle.rules.specs.Refusals.{fault_in}
use Rattle.rules.specs.Walk.{Refused as Refuses}
use Rattle.walk.specs.Views.{behind}
use Rattle.walk.specs.Books.{no_rows}
use Rattle.walk.specs.Walking.{WalkPromise}
use Rattle.walk.proofs.Asked.{err_is, mapped_ok, mapped_err}
use Rattle.walk.proofs.Cleared.{clear_long}
use Rattle.walk.proofs.Going.{going_start, turn_refused, turn_goes, turn_shorter, end_open, end_closed}
use Rattle.walk.proofs.turns.walk_records.Goals as goal

pub loop-at-init : goal.loop-at-init
unfolding no_rows
loop-at-init c =
    let p = c.requires in
    (going_start _ _ _ _ _ refl c.default.ensures.1.1.1.1 refl refl refl refl p.0 p.1 refl refl, clear_long _ p.0, clear_long _ p.1)

pub returns-in_err-map_err : goal.returns-in_err-map_err
returns-in_err-map_err c =
    let i = c.loop-at.invariant in
    let m = mapped_err _ c.step.result c.map_err.result c.map_err.ensures.cases _ c.in_err-map_err.was in
    let q : c.in_err-map_err.field-0.0 ≡ behind c.loop-at.at m.0 = search rules in
    subst (WalkPromise _ _ _) (sym (err_is _ _ c.from_residual.ensures.1))
    (turn_refused _ _ _ _ _ _ i.0 c.loop-at-test.true _ _ _ _ c.step.ensures m.0 m.1 ∙ ap (λ (f : Refused). Refuses (fault_in f)) (sym q))

pub overflow_add-at : goal.overflow_add-at
overflow_add-at c =
    let i = c.loop-at.invariant in
    let g = turn_goes _ _ _ _ _ _ i.0 c.loop-at-test.true _ _ _ _ c.step.ensures (mapped_ok _ c.step.result c.map_err.result c.map_err.ensures.cases _ c.in_ok-map_err.was) in
    omega (arith, g.within, c.size_in.ensures, c)

pub loop-at-smaller : goal.loop-at-smaller
loop-at-smaller c =
    let i = c.loop-at.invariant in
    omega (arith, turn_shorter _ _ _ _ _ _ i.0 c.loop-at-test.true _ _ _ _ c.step.ensures, c.size_in.ensures, c.loop-at-test.true)

pub loop-at-preserved : goal.loop-at-preserved
loop-at-preserved c =
    let i = c.loop-at.invariant in
    let g = turn_goes _ _ _ _ _ _ i.0 c.loop-at-test.true _ _ _ _ c.step.ensures (mapped_ok _ c.step.result c.map_err.result c.map_err.ensures.cases _ c.in_ok-map_err.was) in
    (rw c.size_in.ensures g, c.step.auto.conc ∙ i.1, c.step.auto.flow ∙ i.2)

pub returns-then-t : goal.returns-then-t
returns-then-t c = end_open _ _ _ _ _ _ c.loop-at.invariant.0 c.loop-at-test.false c.if-t.true

pub returns : goal.returns
returns c = end_closed _ _ _ _ _ _ c.loop-at.invariant.0 c.loop-at-test.false c.if-t.false _ refl refl refl

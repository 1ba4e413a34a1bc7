-- `fills::fill_period` meets its contract, by its one test. Assumes nothing.
use mathlib.Core.Bool.{true}
use mathlib.Core.Path.{◌≡◌, refl, sym, ◌∙◌}
use native.Mathlib.Omega.{arith}
use lib.ListN.{length-take}
use Rattle.law.proofs.Tests.{pick_true, pick_false}
use Rattle.fills.specs.Period.{is_filled}
use Rattle.fills.proofs.Period.{guard_is, filled-fits}
use Rattle.fills.proofs.fill_period.Goals as goal

pub slice_bounds-fill_gaps-end : goal.slice_bounds-fill_gaps-end
slice_bounds-fill_gaps-end c =
    let a = c.args in
    let on : is_filled a.method c.first_missing-first.result a.days a.conc.now a.flow.now ≡ true = sym (guard_is _ _ _ _ _ _ _ _ c.from-n.ensures c.min.ensures (omega (arith, c.min-room.ensures))) ∙ c.if-method-n.true in
    let f = filled-fits _ _ _ _ _ on in omega (arith, f.0, c.from-n.ensures)

pub fill_gaps-requires : goal.fill_gaps-requires
fill_gaps-requires c =
    let a = c.args in
    let on : is_filled a.method c.first_missing-first.result a.days a.conc.now a.flow.now ≡ true = sym (guard_is _ _ _ _ _ _ _ _ c.from-n.ensures c.min.ensures (omega (arith, c.min-room.ensures))) ∙ c.if-method-n.true in
    let f = filled-fits _ _ _ _ _ on in
    simp length-take (omega (arith, f.0, c.from-n.ensures), omega (arith, f.1, c.from-n.ensures), omega (arith, f.2, c.from-n.ensures))

pub returns-then-method-n : goal.returns-then-method-n
returns-then-method-n c =
    let a = c.args in
    let on : is_filled a.method c.first_missing-first.result a.days a.conc.now a.flow.now ≡ true = sym (guard_is _ _ _ _ _ _ _ _ c.from-n.ensures c.min.ensures (omega (arith, c.min-room.ensures))) ∙ c.if-method-n.true in
    record {
      first = c.first_missing-first.ensures;
      concentrations = pick_true _ _ _ _ on (rw c.from-n.ensures at c.fill_gaps.ensures.0);
      flows = pick_true _ _ _ _ on (rw c.from-n.ensures at c.fill_gaps.ensures.1);
    }

pub returns-else-method-n : goal.returns-else-method-n
returns-else-method-n c =
    let off = sym (guard_is _ _ _ _ _ _ _ _ c.from-n.ensures c.min.ensures (omega (arith, c.min-room.ensures))) ∙ c.if-method-n.false in
    record { first = c.first_missing-first.ensures; concentrations = pick_false _ _ _ _ off refl; flows = pick_false _ _ _ _ off refl }

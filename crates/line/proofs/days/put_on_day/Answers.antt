-- `line::days::put_on_day` meets its contract: beaten, or put in by `put_at`. Assumes nothing.
use mathlib.Core.Path.{refl}
use Rattle.law.proofs.Tests.{pick_true, pick_false}
use Rattle.line.proofs.Surveys.{nothing-is, put_found}
use Rattle.line.proofs.Missing.{found_on}
use Rattle.line.proofs.days.put_on_day.Goals as goal

pub returns-then-beaten : goal.returns-then-beaten
returns-then-beaten c =
    let on = c.if-beaten.true in
    record {
      weighs = pick_true _ _ _ _ on (nothing-is _ c.default.ensures);
      states_now = pick_true _ _ _ _ on refl;
      conc_now = pick_true _ _ _ _ on refl;
      flow_now = pick_true _ _ _ _ on refl;
    }

pub returns : goal.returns
returns c =
    let off = c.if-beaten.false in
    let y = put_found _ _ _ (found_on _ _ _ _ _ c.from-found.ensures c.lacks_day.ensures c.from.ensures) c.put_at.ensures in
    record {
      weighs = pick_false _ _ _ _ off y.weighs;
      states_now = pick_false _ _ _ _ off y.states_now;
      conc_now = pick_false _ _ _ _ off y.conc_now;
      flow_now = pick_false _ _ _ _ off y.flow_now;
    }

-- `line::surveyed::put_survey` meets its contract: beaten, or put in by `mark_measured` and `put_at`. Assumes nothing.
use mathlib.Core.Path.{refl}
use Rattle.law.proofs.Tests.{pick_true, pick_false}
use Rattle.line.proofs.Surveys.{nothing-is, put_found, tables_are}
use Rattle.line.proofs.surveyed.put_survey.Goals as goal

pub returns-then-beaten : goal.returns-then-beaten
returns-then-beaten c =
    let on = c.if-beaten.true in
    record { weighs = pick_true _ _ _ _ on (nothing-is _ c.default.ensures); tables = pick_true _ _ _ _ on refl }

pub returns : goal.returns
returns c =
    let m = c.mark_measured-found.ensures in
    let off = c.if-beaten.false in
    let y = put_found _ _ _ m.found c.put_at.ensures in
    record {
      weighs = pick_false _ _ _ _ off y.weighs;
      tables = pick_false _ _ _ _ off (tables_are _ _ _ _ _ _ _ _ m.masks y.states_now y.conc_now y.flow_now);
    }

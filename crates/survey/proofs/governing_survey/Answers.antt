-- `survey::governing_survey` meets its contract: the part that is lent is the one of the block that is found. Assumes nothing.
use mathlib.Core.Path.{◌∙◌, sym}
use Rattle.survey.specs.Governing.{here, governing}
use Rattle.survey.proofs.Laws.{lent, found, missed, at-start}
use Rattle.survey.proofs.governing_survey.Goals as goal

pub returns-in-Some : goal.returns-in-Some
unfolding here governing
returns-in-Some c =
    let e = c.args.enforcement in
    let h = c.in-Some.ensures in
    lent e _ ∙ sym (found e _ _ _ _ h.0 h.1 h.2)

pub returns-in-Some-first_block : goal.returns-in-Some-first_block
unfolding here governing
returns-in-Some-first_block c =
    let a = c.args in
    let h = c.in-Some-first_block.ensures in
    lent a.plant _ ∙ sym (missed a.enforcement _ _ _ c.in_default.ensures ∙ found a.plant _ _ _ _ h.0 h.1 h.2)

pub returns : goal.returns
unfolding here governing
returns c =
    let a = c.args in
    sym (missed a.enforcement _ _ _ c.in_default.ensures ∙ missed a.plant _ _ _ c.in_default-first_block.ensures ∙ at-start a.plant)

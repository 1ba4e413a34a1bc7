-- `survey::first_block` meets its contract: what `find` says of the numbers of a range. Assumes nothing.
use Rattle.std.proofs.Common.{rules, ◌≡◌, ◌*◌, true, false}
use Rattle.std.proofs.lemmas.Iterator.{first_from_Range}
use Rattle.survey.specs.Governing.{is_survey}
use Rattle.survey.proofs.Laws.{from_zero}
use Rattle.survey.proofs.first_block.Goals as goal

pub returns : goal.returns
returns c =
    let a = c.args in
    from_zero _ _ (λ k. is_survey a.s.now a.kind a.hour (14 * k) ≡ true) (λ k. is_survey a.s.now a.kind a.hour (14 * k) ≡ false)
    (first_from_Range _ _ _ _ _ _ c.find.ensures.ran (λ x q k. search rules) (λ x q k. search rules))

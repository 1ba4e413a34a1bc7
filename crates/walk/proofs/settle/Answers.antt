-- `walk::settle` meets its contract: a refusal leaves the work cells clear. Assumes nothing.
use mathlib.Core.Path.{sym, ◌∙◌, ap}
use lib.ListN.{replicate}
use Rattle.rules.specs.Row.{cells}
use Rattle.walk.proofs.Promises.{settled_stopped, settled_0}
use Rattle.walk.proofs.settle.Goals as goal

pub walk_records-walked-requires : goal.walk_records-walked-requires
unfolding cells
walk_records-walked-requires c =
    let p = c.requires in
    (c.fill.ensures.after (λ y e. e) ∙ ap (λ n. replicate n 0) p.0, c.fill-2.ensures.after (λ y e. e) ∙ ap (λ n. replicate n 0) p.1)

pub returns-then-is_err : goal.returns-then-is_err
unfolding cells
returns-then-is_err c =
    let p = c.requires in
    settled_stopped _ _ _ _ c.walk_records-walked.ensures (sym c.is_err.ensures.value ∙ c.if-is_err.true) _ _
    (c.fill-then-is_err.ensures.after (λ y e. e) ∙ ap (λ n. replicate n 0) (c.walk_records-walked.auto.conc ∙ c.fill.ensures.len ∙ p.0))
    (c.fill-then-is_err-2.ensures.after (λ y e. e) ∙ ap (λ n. replicate n 0) (c.walk_records-walked.auto.flow ∙ c.fill-2.ensures.len ∙ p.1))

pub returns-else-is_err : goal.returns-else-is_err
returns-else-is_err c = settled_0 _ _ _ _ c.walk_records-walked.ensures (sym c.is_err.ensures.value ∙ c.if-is_err.false)

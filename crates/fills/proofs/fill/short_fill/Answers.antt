-- `fills::fill::short_fill` meets its contract. Assumes nothing.
use mathlib.Core.Path.{◌∙◌}
use Rattle.fills.proofs.Short.{short_both, short_before, short_after, short_neither}
use Rattle.fills.proofs.fill.short_fill.Goals as goal

pub returns-in-Some-Some : goal.returns-in-Some-Some
returns-in-Some-Some c =
    let p = c.split_at.ensures in
    let i = c.in-Some-Some in
    c.mean_up.ensures ∙ short_both _ _ _ _ p.front p.back _ _ i.ensures.value i.ensures'.value

pub returns-in-None-None : goal.returns-in-None-None
returns-in-None-None c =
    let p = c.split_at.ensures in
    let i = c.in-None-None in
    short_neither _ _ _ _ p.front p.back i.ensures.value i.ensures'.value

pub returns-in-Some-None : goal.returns-in-Some-None
returns-in-Some-None c =
    let p = c.split_at.ensures in
    let i = c.in-Some-None in
    short_before _ _ _ _ p.front p.back _ i.ensures.value i.ensures'.value

pub returns-in-None-Some : goal.returns-in-None-Some
returns-in-None-Some c =
    let p = c.split_at.ensures in
    let i = c.in-None-Some in
    short_after _ _ _ _ p.front p.back _ i.ensures.value i.ensures'.value

-- `walk::turns::step` meets its contract: a record is refused by the judge, or taken in, wherever the walk stands. Assumes nothing.
use mathlib.Core.List.{[]}
use native.Mathlib.Omega.{arith}
use Rattle.walk.proofs.Asked.{err_is}
use Rattle.walk.proofs.Takes.{days_lent}
use Rattle.walk.proofs.Going.{refused_step, ready, taken_step}
use Rattle.walk.proofs.turns.step.Goals as goal

pub judged-requires : goal.judged-requires
judged-requires c = let p = c.requires in omega (arith, days_lent [] _ _ _ _ p.stand p.kept, p.kept.long.runs)

pub returns-in_err-judged : goal.returns-in_err-judged
returns-in_err-judged c =
    λ stand kept.
    refused_step stand _ _ _ _ kept _ _ c.read_record-r.ensures _ c.judged.ensures _ c.in_err-judged.was _ (err_is _ _ c.from_residual.ensures.1) _ _ _

pub take_in-requires : goal.take_in-requires
take_in-requires c =
    let p = c.requires in
    record { stand = p.stand; ready = ready p.stand _ _ _ _ p.kept _ _ c.read_record-r.ensures _ c.judged.ensures c.in_ok-judged.was }

pub returns : goal.returns
returns c =
    λ stand kept. taken_step stand _ _ _ _ kept _ _ c.read_record-r.ensures _ c.judged.ensures c.in_ok-judged.was _ _ _ _ c.take_in.ensures

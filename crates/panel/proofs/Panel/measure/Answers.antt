-- `panel::Panel::measure` meets its contract, by the cases of its two readings. Assumes nothing.
use Rattle.std.proofs.Common.{arith}
use Rattle.reading.specs.Reading.{stated, stated_hour, both}
use Rattle.reading.proofs.Laws.{stated-only}
use Rattle.panel.specs.Panel.{unchanged, after_hour}
use Rattle.panel.proofs.Panel.measure.Goals as goal

pub returns-in_err-c : goal.returns-in_err-c
unfolding after_hour both unchanged stated stated_hour
returns-in_err-c c =
    let e = stated-only _ _ c.concentration.ensures in
    grind arith

pub returns-in_err-l : goal.returns-in_err-l
unfolding after_hour both unchanged stated stated_hour
returns-in_err-l c =
    let e = stated-only _ _ c.concentration.ensures in
    let f = stated-only _ _ c.flow.ensures in
    grind arith

pub returns : goal.returns
unfolding after_hour both
returns c =
    let e = stated-only _ _ c.concentration.ensures in
    let f = stated-only _ _ c.flow.ensures in
    grind arith

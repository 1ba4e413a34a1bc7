-- `lines::line_of` meets its contract: what is left of the line, behind the numbers that are read, is the whole. Assumes nothing.
use mathlib.Core.Path.{sym}
use native.Mathlib.Omega.{arith}
use borrow.Author.Tests.{eqb-true}
use Rattle.filing.proofs.Numbering.{numbering_start, numbering_on, malformed, last_lined, too_many, not_full}
use Rattle.filing.proofs.lines.line_of.Goals as goal

pub loop-rest-init : goal.loop-rest-init
loop-rest-init g c = numbering_start _ _ _ c.new-numbers.ensures

pub returns-in_err-n : goal.returns-in_err-n
returns-in_err-n g c =
    let t = c.loop-rest-test.ensures in
    rw c.from_residual.ensures (malformed _ _ _ _ _ c.loop-rest.invariant (not_full _ _ t.value t.fits) c.in_err-n.ensures)

pub returns-then-n : goal.returns-then-n
returns-then-n g c =
    let t = c.loop-rest-test.ensures in
    last_lined _ _ _ _ _ c.loop-rest.invariant (not_full _ _ t.value t.fits) _ _ _ c.in_ok-n.ensures _ c.unwrap_or.ensures _ c.is_some-fits.ensures
    _ c.push.ensures.items c.if-n.true

pub loop-rest-smaller : goal.loop-rest-smaller
loop-rest-smaller g c =
    let t = c.loop-rest-test.ensures in
    omega (arith, not_full _ _ t.value t.fits, c.push.ensures.len)

pub loop-rest-preserved : goal.loop-rest-preserved
loop-rest-preserved g c =
    let t = c.loop-rest-test.ensures in
    numbering_on _ _ _ _ _ c.loop-rest.invariant (not_full _ _ t.value t.fits) _ _ _ c.in_ok-n.ensures _ c.unwrap_or.ensures _ c.is_some-fits.ensures
    _ c.push.ensures.items c.if-n.false

pub returns : goal.returns
returns g c = let t = c.loop-rest-test.ensures in too_many _ _ _ _ _ c.loop-rest.invariant (omega (arith, eqb-true _ _ (sym t.value)))

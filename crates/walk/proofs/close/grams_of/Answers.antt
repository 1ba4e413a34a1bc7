-- `walk::close::grams_of` meets its contract. Assumes nothing.
use mathlib.Core.Path.{◌∙◌, ap}
use native.Mathlib.Nat.{mul-pos}
use native.Mathlib.Omega.{arith}
use Rattle.law.specs.Words.{halves_up}
use Rattle.law.proofs.Halves.{halves_of}
use Rattle.walk.proofs.Closed.{halves_fit, units_are}
use Rattle.walk.proofs.close.grams_of.Goals as goal

pub overflow_mul-half : goal.overflow_mul-half
overflow_mul-half c = rw c.from.ensures (omega (arith, halves_fit c.args.halfgram c.args.n c.requires.2 c.ranges.n.fits))

pub overflow_add-result : goal.overflow_add-result
overflow_add-result c = rw c.from.ensures (omega (arith, c.requires.3, halves_fit c.args.halfgram c.args.n c.requires.2 c.ranges.n.fits))

pub overflow_mul-result : goal.overflow_mul-result
overflow_mul-result c = rw c.from.ensures (omega (arith, halves_fit c.args.halfgram c.args.n c.requires.2 c.ranges.n.fits))

pub nonzero_div-result : goal.nonzero_div-result
nonzero_div-result c = rw c.from.ensures (omega (arith, mul-pos c.requires.1 c.requires.0))

pub returns : goal.returns
returns c = rw c.from.ensures (halves_of _ _ (mul-pos c.requires.1 c.requires.0) ∙ ap (halves_up _) (units_are _ _))

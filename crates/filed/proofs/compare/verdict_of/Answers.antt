-- `compare::verdict_of` meets its contract: a wrong cell in the rows, one in the totals, or none. Assumes nothing.
use mathlib.Core.Path.{refl}
use native.Mathlib.Omega.{arith}
use Rattle.filed.specs.Filed.{verdict_on_paper}
use Rattle.filed.proofs.Compared.{says_row, says-total, says-yes}
use Rattle.filed.proofs.compare.verdict_of.Goals as goal

pub returns-in-Some : goal.returns-in-Some
unfolding verdict_on_paper
returns-in-Some c = let w = c.in-Some.ensures in says_row _ _ _ _ c.requires.0 _ w.1 w.0 _ refl

pub returns-in-Some-first_wrong : goal.returns-in-Some-first_wrong
unfolding verdict_on_paper
returns-in-Some-first_wrong c =
    let l = c.requires.1 in
    let w = c.in-Some-first_wrong.ensures in
    says-total _ _ _ _ c.requires.0 _ c.in_default.ensures (omega arith) _ w.1 l.0 l.1 (omega arith) (omega arith) _ refl

pub returns : goal.returns
unfolding verdict_on_paper
returns c =
    says-yes _ _ _ _ c.requires.0 _ c.in_default.ensures (omega arith) _ c.in_default-first_wrong.ensures (omega arith) _ refl

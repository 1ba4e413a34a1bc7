-- `compare::first_wrong` meets its contract: all cells are alike, or a pair is the first that differs. Assumes nothing.
use mathlib.Core.Path.{◌≡◌, sym}
use borrow.Author.Tests.{eqb-true}
use Rattle.std.proofs.Common.{rules, tests}
use Rattle.std.proofs.lemmas.Iterator.{YieldsList-from_slice, YieldsList-from_zip, IsFirst-from_position}
use Rattle.filed.proofs.Compared.{none_wrong, first_pair}
use Rattle.filed.proofs.compare.first_wrong.Goals as goal

pub returns-then-all_alike : goal.returns-then-all_alike
returns-then-all_alike c = none_wrong _ _ c.requires (eqb-true _ _ (sym c.if-all_alike.ensures))

pub returns : goal.returns
returns c =
    let pairs = YieldsList-from_zip {s = c.zip.result} (YieldsList-from_slice c.args.filed.now cc) (YieldsList-from_slice c.args.right.now cc) in
    first_pair _ _ c.requires _
    (IsFirst-from_position c.position.new.self _ c.position.result (λ p. p.0 ≡ p.1 → ⊥) (λ p. p.0 ≡ p.1) c.position.ensures.ran pairs (λ x q k. search (rules, tests))
    (λ x q k. search (rules, tests)))

-- `compare::all_alike` meets its contract: the bits that differ are gathered over the pairs. Assumes nothing.
use mathlib.Core.Path.{◌≡◌, refl, ap, ◌∙◌}
use mathlib.Core.List.{List}
use Prim.Native.Nat.{ℕ}
use Rattle.std.proofs.Common.{rules}
use Rattle.std.specs.Bool.{nat_eq}
use Rattle.std.specs.List.{fold}
use Rattle.std.proofs.iter.Yields.{fronts}
use Rattle.std.proofs.lemmas.Fn.{fold_over}
use Rattle.std.proofs.lemmas.Iterator.{zips, YieldsList-from_slice, YieldsList-from_zip}
use Rattle.filed.specs.Parts.{with_bits}
use Rattle.filed.proofs.Compared.{bits_on}
use Rattle.filed.proofs.compare.all_alike.Goals as goal

pub returns : goal.returns
returns c =
    let pairs = YieldsList-from_zip {s = c.zip.result} (YieldsList-from_slice c.args.filed.now cc) (YieldsList-from_slice c.args.right.now cc) in
    let e = fold_over (zips fronts fronts) (λ p. (p.0.now, p.1.now)) _ (λ (ys : List (ℕ × ℕ)) (a : ℕ). a ≡ fold with_bits 0 ys) _
    (λ ys a x b f k h. let z : (b ≡ with_bits a (x.0.now, x.1.now)) × (f ≡ _) = search rules in (z.0 ∙ bits_on ys _ a k, z.1))
    c.zip.result _ 0 c.fold-differ.result pairs.runs refl c.fold-differ.ensures.ran in
    ap (λ (bits : ℕ). nat_eq bits 0) e

-- The sum of products as a chain has it. Assumes nothing.
use Rattle.std.specs.Prelude.{fold, sum_by}
use Rattle.std.specs.List.{zip}
use mathlib.Core.Path.{◌≡◌, ◌∙◌}
use mathlib.Core.List.{List, [], ◌∷◌}
use Prim.Native.Nat.{ℕ, ◌+◌, ◌*◌}
use native.Mathlib.Omega.{arith}
use Rattle.fills.specs.Weights.{products}

products-from : (a : ℕ) (cs ls : List ℕ) → fold (λ n (x : ℕ × ℕ). n + x.0 * x.1) a (zip cs ls) ≡ a + products cs ls
unfolding products
products-from a [] ls = omega arith
products-from a (c ∷ cs) [] = omega arith
products-from a (c ∷ cs) (l ∷ ls) = products-from (a + c * l) cs ls ∙ omega arith

pub products-chain : (cs ls : List ℕ) → sum_by (λ (x : ℕ × ℕ). x.0 * x.1) (zip cs ls) ≡ products cs ls
products-chain cs ls = products-from 0 cs ls ∙ omega arith

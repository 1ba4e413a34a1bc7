-- "Sum of c x l": the amounts of hours are the products of their two lists. Assumes nothing.
use mathlib.Core.Path.{◌≡◌, refl, ap}
use mathlib.Core.List.{List, [], ◌∷◌}
use Prim.Native.Nat.{ℕ, ◌+◌, ◌*◌}
use Rattle.law.specs.Words.{sum_of}
use Rattle.rules.specs.Fill.{Values, cs, ls}
use Rattle.rules.specs.Grams.{amount}
use Rattle.fills.specs.Weights.{products}

pub products-amounts : (vs : List Values) → sum_of amount vs ≡ products (cs vs) (ls vs)
unfolding sum_of amount products cs ls
products-amounts [] = refl
products-amounts (v ∷ vs) = ap (λ (n : ℕ). v.c * v.l + n) (products-amounts vs)

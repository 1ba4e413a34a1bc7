-- A row of the code, place by place; and that a row of dashes has no oxides. Assumes nothing.
use Prim.Native.Nat.{ℕ, zero, suc, ◌-◌, ◌≤◌}
use mathlib.Core.List.{List, [], ◌∷◌}
use mathlib.Core.Path.{◌≡◌, refl, ap, ◌∙◌}
use native.Mathlib.Omega.{arith}
use lib.ListN.{get_or}
use Rattle.std.specs.Prelude.{Option, None}
use Rattle.rules.specs.Tables.{at, class, no_class}

from_zero : (i : ℕ) (row : List (Option ℕ)) → at (suc i) row ≡ get_or row i None
unfolding at
from_zero i [] = refl
from_zero zero (x ∷ row) = refl
from_zero (suc i) (x ∷ row) = from_zero i row

pub at_cell : (place : ℕ) (row : List (Option ℕ)) → 1 ≤ place → at place row ≡ get_or row (place - 1) None
at_cell zero row h = grind arith
at_cell (suc i) row h = from_zero i row ∙ ap (λ (j : ℕ). get_or row j None) (let e : i ≡ suc i - 1 = omega arith in e)

-- a row of dashes has no oxides
pub at_no_class : (mark : ℕ) → at mark no_class.oxides ≡ None
unfolding at no_class class
at_no_class zero = refl
at_no_class (suc zero) = refl
at_no_class (suc (suc zero)) = refl
at_no_class (suc (suc (suc zero))) = refl
at_no_class (suc (suc (suc (suc zero)))) = refl
at_no_class (suc (suc (suc (suc (suc i))))) = refl

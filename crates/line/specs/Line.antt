-- The row of a line.
use Rattle.std.specs.Prelude.{ℕ, List, [], ◌∷◌}
use Rattle.rules.specs.declared.View.{View}

-- the row of the open line
abbrev pub row_in : View → ℕ → ℕ → ℕ → List ℕ
row_in v method grams first = v.head.stack ∷ v.head.pollutant ∷ method ∷ grams ∷ v.running ∷ v.missing ∷ first ∷ []

-- Two figures that are not the same. Assumes nothing.
use mathlib.Core.Path.{◌≡◌, sym, ◌∙◌}
use Prim.Native.Nat.{ℕ}

pub differ : (a b m n : ℕ) → a ≡ m → b ≡ n → (m ≡ n → ⊥) → a ≡ b → ⊥
differ a b m n p q h e = h (sym p ∙ e ∙ q)

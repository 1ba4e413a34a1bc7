-- The fill of a short gap by the value just before it and the one just after it. Assumes nothing.
use mathlib.Core.Path.{◌≡◌, refl, ◌∙◌, sym, ap, ap₂}
use mathlib.Core.List.{List, [], ◌∷◌, reverse}
use Prim.Native.Nat.{ℕ, ◌-◌}
use native.Mathlib.Omega.{arith}
use lib.ListN.{length, take, drop}
use lib.Seq.{take-length}
use Rattle.std.proofs.Common.{Some, None, slice_get}
use Rattle.std.proofs.lemmas.Option.{none-some, slice_get-get_or, slice_get_within, get_or_from_slice_get, same_Some}
use Rattle.rules.specs.Fill.{short, mean_up, same}
use Rattle.fills.proofs.Largest.{last_before}

last_some : (x : List ℕ) (v : ℕ) → Some v ≡ slice_get x (length x - 1) → reverse x ≡ v ∷ reverse (take (length x - 1) x)
last_some x v e =
    sym (ap reverse (take-length x)) ∙ last_before (length x) x (omega (arith, slice_get_within x (length x - 1) v (sym e))) (omega arith)
    ∙ ap (λ (k : ℕ). k ∷ reverse (take (length x - 1) x)) (get_or_from_slice_get x (length x - 1) v 0 (sym e))

last_none : (x : List ℕ) → None ≡ slice_get x (length x - 1) → x ≡ []
last_none [] e = refl
last_none (v ∷ x) e = absurd (none-some _ (e ∙ slice_get-get_or (v ∷ x) (length (v ∷ x) - 1) 0 (omega arith)))

first_some : (y : List ℕ) (w : ℕ) → Some w ≡ slice_get y 0 → y ≡ w ∷ drop 1 y
first_some [] w e = absurd (none-some w (sym e))
first_some (u ∷ y) w e = ap (λ (k : ℕ). k ∷ y) (sym (same_Some w u e))

first_none : (y : List ℕ) → None ≡ slice_get y 0 → y ≡ []
first_none [] e = refl
first_none (u ∷ y) e = absurd (none-some u e)

module _ (x y s : List ℕ) (b : ℕ) (front : x ≡ take b s) (back : y ≡ drop b s) where
  parted : short mean_up same (reverse x) y ≡ short mean_up same (reverse (take b s)) (drop b s)
  parted = ap₂ (short mean_up same) (ap reverse front) back

  pub short_both : (v w : ℕ) → Some v ≡ slice_get x (length x - 1) → Some w ≡ slice_get y 0 → mean_up v w ≡ short mean_up same (reverse (take b s)) (drop b s)
  unfolding short
  short_both v w e f = sym (ap₂ (short mean_up same) (last_some x v e) (first_some y w f)) ∙ parted

  pub short_before : (v : ℕ) → Some v ≡ slice_get x (length x - 1) → None ≡ slice_get y 0 → v ≡ short mean_up same (reverse (take b s)) (drop b s)
  unfolding short same
  short_before v e f = sym (ap₂ (short mean_up same) (last_some x v e) (first_none y f)) ∙ parted

  pub short_after : (w : ℕ) → None ≡ slice_get x (length x - 1) → Some w ≡ slice_get y 0 → w ≡ short mean_up same (reverse (take b s)) (drop b s)
  unfolding short same
  short_after w e f = sym (ap₂ (short mean_up same) (ap reverse (last_none x e)) (first_some y w f)) ∙ parted

  pub short_neither : None ≡ slice_get x (length x - 1) → None ≡ slice_get y 0 → 0 ≡ short mean_up same (reverse (take b s)) (drop b s)
  unfolding short
  short_neither e f = sym (ap₂ (short mean_up same) (ap reverse (last_none x e)) (first_none y f)) ∙ parted

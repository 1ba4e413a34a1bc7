-- No fill passes a limit that the valid values keep, so no cell does, and a sum of products is at most so many times the product of the limits. That a
-- list keeps a limit M is said as `largest s ≤ M`. Assumes nothing.
use mathlib.Core.Path.{◌≡◌, refl, ◌∙◌, sym, ap, subst}
use mathlib.Core.List.{List, [], ◌∷◌, ◌++◌, reverse, reverse-cons}
use Prim.Native.Nat.{ℕ, suc, ◌+◌, ◌*◌, ◌<◌, ◌≤◌, max}
use native.Mathlib.Nat.{mul-le-mul, suc-mul}
use native.Mathlib.Omega.{arith}
use lib.ListN.{length, get_or, take, drop, take-append-drop}
use lib.Dec.{eqb}
use Rattle.law.specs.Words.{largest}
use Rattle.law.proofs.Tests.{pick_case}
use Rattle.law.proofs.Tabled.{table_at}
use Rattle.rules.specs.Slots.{Slot, valid, missing, stopped, valids, entry}
use Rattle.fills.specs.Gaps.{slot_at, row, fill_at, cell_at, filled_cells}
use Rattle.fills.specs.Weights.{products}
use Rattle.fills.proofs.Largest.{largest-append}
use Rattle.fills.proofs.Limits.{fill_most}
use Rattle.fills.proofs.States.{row-length, slot_holds}
use Rattle.fills.proofs.Filled.{filled_at}

-- ---- a list keeps a limit where each of it does
pub largest-each : (M : ℕ) (s : List ℕ) → ((k : ℕ) → k < length s → get_or s k 0 ≤ M) → largest s ≤ M
unfolding largest
largest-each M [] p = omega arith
largest-each M (v ∷ s) p =
    let first = p 0 (omega arith) in
    omega (arith, largest-each M s (λ k l. p (suc k) (omega arith)))

-- ---- the valid values of a part of the hours
valids_append : {A : Type 0} (s t : List (Slot A)) → valids (s ++ t) ≡ valids s ++ valids t
unfolding valids
valids_append [] t = refl
valids_append {A} (valid v ∷ s) t = ap (λ (u : List A). v ∷ u) (valids_append s t)
valids_append (missing ∷ s) t = valids_append s t
valids_append (stopped ∷ s) t = valids_append s t

most_append : (s t : List (Slot ℕ)) → largest (valids (s ++ t)) ≡ max (largest (valids s)) (largest (valids t))
most_append s t = ap largest (valids_append s t) ∙ largest-append (valids s) (valids t)

most_reverse : (s : List (Slot ℕ)) → largest (valids (reverse s)) ≡ largest (valids s)
most_reverse [] = refl
most_reverse (x ∷ s) =
    ap (λ (t : List (Slot ℕ)). largest (valids t)) (reverse-cons x s)
    ∙ most_append (reverse s) (x ∷ [])
    ∙ omega (arith, most_reverse s, most_append (x ∷ []) s)

module _ (M : ℕ) where
  pub valids_each : (slots : List (Slot ℕ)) → ((h v : ℕ) → h < length slots → get_or slots h stopped ≡ valid v → v ≤ M) → largest (valids slots) ≤ M
  unfolding valids largest
  valids_each [] p = omega arith
  valids_each (valid v ∷ s) p =
      let first = p 0 v (omega arith) refl in
      omega (arith, valids_each s (λ h w l e. p (suc h) w (omega arith) e))
  valids_each (missing ∷ s) p = valids_each s (λ h w l e. p (suc h) w (omega arith) e)
  valids_each (stopped ∷ s) p = valids_each s (λ h w l e. p (suc h) w (omega arith) e)

  -- ---- the fill of an hour
  pub fill_at-most : (slots : List (Slot ℕ)) (h : ℕ) → largest (valids slots) ≤ M → fill_at slots h ≤ M
  unfolding fill_at entry
  fill_at-most slots h p =
      let split : (k : ℕ) → largest (valids slots) ≡ max (largest (valids (take k slots))) (largest (valids (drop k slots))) = λ k. ap (λ (t : List (Slot ℕ)). largest (valids t)) (sym (take-append-drop k slots)) ∙ most_append (take k slots) (drop k slots) in
      fill_most M _ _ _ (omega (arith, most_reverse (take h slots), split h)) (omega (arith, split (h + 1)))

  -- ---- every cell, where every cell kept the limit
  pub filled-most : (states values : List ℕ) → ((k : ℕ) → k < length states → get_or values k 0 ≤ M)
      → (k : ℕ) → k < length states → get_or (filled_cells states values) k 0 ≤ M
  unfolding cell_at
  filled-most states values p k l =
      let valid_most : largest (valids (row states values)) ≤ M =
      valids_each (row states values) (λ h v m e. let i : h < length states = omega (arith, row-length states values) in subst (λ (x : ℕ). x ≤ M) (sym (slot_holds states values h v (sym (table_at (slot_at states values) (length states) h stopped i) ∙ e))) (p h i)) in
      subst (λ (x : ℕ). x ≤ M) (sym (filled_at states values k l))
      (pick_case (λ (v : ℕ). v ≤ M) (eqb (get_or states k 0) 1) _ _ (λ t. fill_at-most (row states values) k valid_most) (λ t. p k l))

-- ---- sums of products, over the limits of both quantities
module _ (M N : ℕ) where
  pub products-most : (xs ys : List ℕ) → largest xs ≤ M → largest ys ≤ N → products xs ys ≤ length xs * (M * N)
  unfolding products largest
  products-most [] ys x y = omega arith
  products-most (v ∷ xs) [] x y = omega arith
  products-most (v ∷ xs) (w ∷ ys) x y =
      let one : v * w ≤ M * N = mul-le-mul (omega arith) (omega arith) in
      let more = products-most xs ys (omega arith) (omega arith) in
      omega (arith, suc-mul (length xs) (M * N))

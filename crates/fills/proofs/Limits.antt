-- The fill of a gap passes no limit that the valid values keep; that a list keeps a limit M is said as `largest s ≤ M`. Assumes nothing.
use mathlib.Core.List.{List, [], ◌∷◌}
use Prim.Native.Nat.{ℕ, zero, suc, ◌≤◌}
use native.Mathlib.Nat.{le_trans}
use native.Mathlib.Omega.{arith}
use lib.ListN.{take}
use lib.Dec.{leb}
use Rattle.law.specs.Numbers.{short_gap}
use Rattle.law.specs.Words.{largest}
use Rattle.law.proofs.Tests.{pick_case}
use Rattle.law.proofs.Halves.{mean_is}
use Rattle.rules.specs.Fill.{window, short, long, fill, mean_up, same}

largest-take : (n : ℕ) (s : List ℕ) → largest (take n s) ≤ largest s
unfolding largest
largest-take zero s = omega arith
largest-take (suc n) [] = omega arith
largest-take (suc n) (v ∷ s) = omega (arith, largest-take n s)

module _ (M : ℕ) where
  window-most : (n : ℕ) (before after : List ℕ) → largest before ≤ M → largest after ≤ M → largest (window n before after) ≤ M
  unfolding window
  window-most n [] after b a = le_trans (largest-take n after) a
  window-most n (x ∷ before) after b a = le_trans (largest-take n (x ∷ before)) b

  short_most : (before after : List ℕ) → largest before ≤ M → largest after ≤ M → short mean_up same before after ≤ M
  unfolding short largest same mean_up
  short_most [] [] b a = omega arith
  short_most [] (y ∷ after) b a = omega arith
  short_most (x ∷ before) [] b a = omega arith
  short_most (x ∷ before) (y ∷ after) b a = omega (arith, mean_is x y)

  long_most : (before after : List ℕ) → largest before ≤ M → largest after ≤ M → long mean_up same before after ≤ M
  unfolding long same
  long_most before after b a = window-most 720 before after b a

  pub fill_most : (gap : ℕ) (before after : List ℕ) → largest before ≤ M → largest after ≤ M → fill mean_up same gap before after ≤ M
  unfolding fill
  fill_most gap before after b a =
      pick_case (λ (v : ℕ). v ≤ M) (leb gap short_gap) _ _ (λ t. short_most before after b a) (λ t. long_most before after b a)

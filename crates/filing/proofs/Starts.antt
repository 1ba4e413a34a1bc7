-- The word of the totals at the start of a text, as std's methods of slices have it. Assumes nothing.
use mathlib.Core.Path.{◌≡◌, refl, sym, ap, ap₂}
use mathlib.Core.Bool.{Bool, true, false, ◌&&◌}
use mathlib.Core.List.{List, [], ◌∷◌}
use Prim.Native.Nat.{ℕ, ◌≤◌}
use native.Mathlib.Omega.{arith}
use lib.Dec.{eqb}
use lib.ListN.{length, take}
use borrow.Author.Tests.{eq-eqb, ne_eqb, eqb-true, eqb-false}
use Rattle.std.specs.Cmp.Lexicographic.{pointwise}
use Rattle.law.proofs.Tests.{both_true, false_true}
use Rattle.filing.specs.Filing.{starts_with}

-- a text that starts with a word is as long at least
pub starts_long : (word s : List ℕ) → starts_with word s ≡ true → length word ≤ length s
unfolding starts_with
starts_long [] s e = omega arith
starts_long (w ∷ ws) [] e = absurd (false_true e)
starts_long (w ∷ ws) (b ∷ bs) e = omega (arith, starts_long ws bs (both_true (eqb b w) _ e).1)

-- `strip_prefix`
pub strip_is : (word s : List ℕ) → pointwise eqb (take (length word) s) word ≡ starts_with word s
unfolding starts_with
strip_is [] s = refl
strip_is (w ∷ ws) [] = refl
strip_is (w ∷ ws) (b ∷ bs) = ap (λ (t : Bool). eqb b w && t) (strip_is ws bs)

-- `starts_with`
turned : (a b : ℕ) (t : Bool) → eqb b a ≡ t → eqb a b ≡ t
turned a b true e = eq-eqb a b (sym (eqb-true b a e))
turned a b false e = ne_eqb a b (λ q. eqb-false b a e (sym q))

pub starts_is : (word s : List ℕ) → pointwise eqb word (take (length word) s) ≡ starts_with word s
unfolding starts_with
starts_is [] s = refl
starts_is (w ∷ ws) [] = refl
starts_is (w ∷ ws) (b ∷ bs) = ap₂ (λ (x y : Bool). x && y) (turned w b (eqb b w) refl) (starts_is ws bs)

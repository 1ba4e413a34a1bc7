-- A claim on each element of a list. Assumes nothing.
use Prim.Native.Nat.{ℕ, zero, suc, ◌+◌, ◌<◌}
use mathlib.Core.List.{List, [], ◌∷◌, ◌++◌}
use mathlib.Core.Path.{◌≡◌, subst}
use native.Mathlib.Omega.{arith}
use Rattle.law.specs.Words.{joined}

module _ {A : Type 0} where
  pub data Each (P : A → Type 0) : List A → Type 0 where
    each_none : Each P []
    each_more : {x : A} {xs : List A} → P x → Each P xs → Each P (x ∷ xs)

  module _ (P : A → Type 0) where
    pub each_append : {xs ys : List A} → Each P xs → Each P ys → Each P (xs ++ ys)
    each_append each_none q = q
    each_append (each_more p ps) q = each_more p (each_append ps q)

    pub each_joined : (f : ℕ → List A) (i n : ℕ) → ((k : ℕ) → k < i + n → Each P (f k)) → Each P (joined f i n)
    unfolding joined
    each_joined f i zero e = each_none
    each_joined f i (suc n) e = each_append (e i (omega arith)) (each_joined f (suc i) n (λ k l. e k (omega arith)))

    pub each_first : (xs ys : List A) → Each P (xs ++ ys) → Each P xs
    each_first [] ys e = each_none
    each_first (x ∷ xs) ys (each_more p e) = each_more p (each_first xs ys e)

    pub each_last : (xs ys : List A) → Each P (xs ++ ys) → Each P ys
    each_last [] ys e = e
    each_last (x ∷ xs) ys (each_more p e) = each_last xs ys e

    -- a claim that follows from it
    pub each_so : (Q : A → Type 0) → ((x : A) → P x → Q x) → {xs : List A} → Each P xs → Each Q xs
    each_so Q f each_none = each_none
    each_so Q f (each_more {x} p ps) = each_more (f x p) (each_so Q f ps)

    -- one in the midst of others
    each_mid : (before behind : List A) (x : A) → Each P (before ++ (x ∷ behind)) → P x
    each_mid [] behind x (each_more p ps) = p
    each_mid (y ∷ before) behind x (each_more p ps) = each_mid before behind x ps

    pub each_at : (xs before behind : List A) (x : A) → Each P xs → xs ≡ before ++ (x ∷ behind) → P x
    each_at xs before behind x ps e = each_mid before behind x (subst (Each P) e ps)

-- What `?` hands on. Assumes nothing.
use Rattle.std.specs.Prelude.{Result, Ok, Err, IsErrAnd, MatchResult}
use mathlib.Core.Path.{◌≡◌, refl, sym, ap, subst, ◌∙◌}
use Prim.Native.Nat.{ℕ}
use native.Mathlib.Omega.{arith}
use Rattle.rules.specs.declared.Refused.{Refused}

module _ {A : Type 0} where
  pub err_is : (r : Result A Refused) (f : Refused) → IsErrAnd r (λ e. e ≡ f) → r ≡ Err f
  err_is (Ok a) f p = absurd p
  err_is (Err e) f p = ap Err p

  -- a refusal is none of the answers that accept
  pub refused_none : (f : Refused) (a : A) → ◌≡◌ {A = Result A Refused} (Err f) (Ok a) → ⊥
  refused_none f a e = let z : ◌≡◌ {A = ℕ} 0 1 = cc in omega arith

  -- what a refusal that is mapped was before
  module _ (P : Refused → Refused → Type 0) where
    pub mapped_ok : (r m : Result A Refused) → MatchResult r (λ x. m ≡ Ok x) (λ g. IsErrAnd m (P g)) → (a : A) → m ≡ Ok a → r ≡ Ok a
    mapped_ok (Ok x) m c a e = sym c ∙ e
    mapped_ok (Err g) m c a e = absurd (subst (λ (z : Result A Refused). IsErrAnd z (P g)) e c)

    pub mapped_err : (r m : Result A Refused) → MatchResult r (λ x. m ≡ Ok x) (λ g. IsErrAnd m (P g)) → (f : Refused) → m ≡ Err f → (g : Refused) × (r ≡ Err g) × P g f
    mapped_err (Ok x) m c f e = absurd (refused_none f x (sym e ∙ c))
    mapped_err (Err g) m c f e = (g, refl, subst (λ (z : Result A Refused). IsErrAnd z (P g)) e c)

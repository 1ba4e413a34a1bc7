-- Where the bytes that a reader has left are known and no read fails, they alone say what `read_pieces` delivers: as many of the first of them as the buffer
-- holds. So of equal bytes left and buffers of equal length no second count or bytes meet the promise. Assumes nothing.
use Rattle.std.proofs.Common.{◌≡◌, ℕ, ◌≤◌, ◌<◌, List, ◌++◌, false, Option, Some, None, Result, Ok, Err, sym, ap, ◌∙◌, subst, ⊎_elim, arith, append-nil, length, length-take-le, take, take_all}
use Rattle.std.proofs.lemmas.Bool.{cases_lt, true≢false}
use lib.Seq.{take_at}
use Rattle.std.specs.Io.KnownBytes.{Consumes, IsAtEnd}
use Rattle.input.specs.declared.ReadFailed.{ReadFailed}
use Rattle.input.specs.Got.{Got, got}

-- paper loses nothing of an answer
pub got_only : (a b : Result ℕ ReadFailed) → (got b).count ≡ (got a).count → (got b).failed ≡ (got a).failed → a ≡ b
got_only (Ok n) (Ok m) e f = ap Ok (sym e)
got_only (Err a) (Err b) e f = ap (λ (n : ℕ). Err (record { count = n })) (sym e)
got_only (Ok n) (Err b) e f = absurd (true≢false f)
got_only (Err a) (Ok m) e f = absurd (true≢false (sym f))

-- the first bytes of a buffer, of the bytes that were known
front : (xs new : List ℕ) (rest : Option (List ℕ)) (count : ℕ) → count ≤ length new → Consumes (Some xs) rest (take count new) → (count < length new → IsAtEnd rest)
    → take count new ≡ take (length new) xs
front xs new None count m k e = absurd k
front xs new (Some ys) count m k e =
    ⊎_elim
    (λ h.
    let all : xs ≡ take count new = k ∙ ap (λ (t : List ℕ). take count new ++ t) (e h) ∙ append-nil (take count new) in
    sym all ∙ sym (take_all (length new) xs (omega (arith, ap length all, length-take-le count new m, m))))
    (λ h. sym (ap (take (length new)) k ∙ take_at (take count new) ys (length new) (omega (arith, length-take-le count new m, h, m))))
    (cases_lt count (length new))

module _ {R : Type 0} (remaining : R → Option (List ℕ)) where
  -- the clauses of `read_pieces` that say so
  pub record Known (reader reader' : R) (new : List ℕ) (got : Got) : Type 0 where
    pub most : got.count ≤ length new
    pub consumed : Consumes (remaining reader) (remaining reader') (take got.count new)
    pub ended : got.failed ≡ false → got.count < length new → IsAtEnd (remaining reader')

  pub delivers : (reader reader' : R) (xs new : List ℕ) (got : Got) → Known reader reader' new got → remaining reader ≡ Some xs → got.failed ≡ false
      → take got.count new ≡ take (length new) xs
  delivers reader reader' xs new got k is f =
      front xs new (remaining reader') got.count k.most (subst (λ (o : Option (List ℕ)). Consumes o (remaining reader') (take got.count new)) is k.consumed) (k.ended f)

  pub read_pieces : (r₁ r₁' r₂ r₂' : R) (xs new₁ new₂ : List ℕ) (a b : Result ℕ ReadFailed) → Known r₁ r₁' new₁ (got a) → Known r₂ r₂' new₂ (got b)
      → remaining r₁ ≡ Some xs → remaining r₂ ≡ Some xs → length new₁ ≡ length new₂ → (got a).failed ≡ false → (got b).failed ≡ false
      → (a ≡ b) × (take (got a).count new₁ ≡ take (got b).count new₂)
  read_pieces r₁ r₁' r₂ r₂' xs new₁ new₂ a b k₁ k₂ is₁ is₂ l f₁ f₂ =
      let same : take (got a).count new₁ ≡ take (got b).count new₂ =
      delivers r₁ r₁' xs new₁ (got a) k₁ is₁ f₁ ∙ ap (λ (n : ℕ). take n xs) l ∙ sym (delivers r₂ r₂' xs new₂ (got b) k₂ is₂ f₂) in
      let count : (got b).count ≡ (got a).count =
      sym (length-take-le (got b).count new₂ k₂.most) ∙ sym (ap length same) ∙ length-take-le (got a).count new₁ k₁.most in
      (got_only a b count (f₂ ∙ sym f₁), same)

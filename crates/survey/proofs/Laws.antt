-- The part at the block that a search gives, and what the governing part can be. Assumes nothing.
use mathlib.Core.Path.{◌≡◌, ◌∙◌, ap}
use mathlib.Core.Logic.{◌⊎◌, inl, inr, ⊎_elim}
use mathlib.Core.Bool.{true, false}
use mathlib.Core.List.{List, []}
use Prim.Native.Nat.{ℕ, ◌+◌, ◌-◌, ◌*◌, ◌/◌, ◌≤◌, ◌<◌}
use native.Mathlib.Nat.{add-zero, min-eq_left}
use native.Mathlib.Omega.{arith}
use lib.ListN.{length, take, drop, length-take, length-drop}
use denote.Ref.{Bor}
use Rattle.law.proofs.Seek.{seek_agree, seek_first, seek_none}
use Rattle.std.specs.Prelude.{Option, Some, None, MatchOption}
use Rattle.survey.specs.Governing.{is_survey, Part, part, survey_or, governing}

-- ---- parts
-- the part that is lent from a to a + 14 of a slice
pub lent : (r : Bor (List ℕ)) (a : ℕ) → ◌≡◌ {A = Part} (record { block = r.ref_ptr.0; offset = a + r.ref_ptr.1; bytes = take (a + 14 - a) (drop a r.now) }) (part r a 14)
unfolding part
lent r a =
    let p : a + r.ref_ptr.1 ≡ r.ref_ptr.1 + a = omega arith in
    let q : a + 14 - a ≡ 14 = omega arith in
    λ i. record { block = r.ref_ptr.0; offset = p i; bytes = take (q i) (drop a r.now) }

-- the empty part at the start of a slice
pub at-start : (r : Bor (List ℕ)) → ◌≡◌ {A = Part} (part r 0 0) (record { block = r.ref_ptr.0; offset = r.ref_ptr.1; bytes = [] })
unfolding part
at-start r i = record { block = r.ref_ptr.0; offset = add-zero r.ref_ptr.1 i; bytes = [] }

-- ---- the first survey of an hour in a slice
-- a search over a range from 0 on
pub from_zero : (r : Option ℕ) (n : ℕ) (Yes No : ℕ → Type 0) → MatchOption r ((k : ℕ) → 0 ≤ k → k < n → No k) (λ i. (0 ≤ i) × (i < n) × Yes i × ((k : ℕ) → 0 ≤ k → k < i → No k))
    → MatchOption r ((k : ℕ) → k < n → No k) (λ i. (i < n) × Yes i × ((k : ℕ) → k < i → No k))
from_zero None n Yes No h = λ k l. h k (omega arith) l
from_zero (Some i) n Yes No h = (h.1, h.2, λ k l. h.3 k (omega arith) l)

-- what the block says of the part
module _ (r : Bor (List ℕ)) (kind hour : ℕ) (other : Part) where
  pub found : (b : ℕ) → b < length r.now / 14 → is_survey r.now kind hour (14 * b) ≡ true → ((k : ℕ) → k < b → is_survey r.now kind hour (14 * k) ≡ false)
      → survey_or r kind hour other ≡ part r (14 * b) 14
  unfolding survey_or
  found b l t before =
      seek_first (λ i. is_survey r.now kind hour (14 * i)) (λ i. part r (14 * i) 14) other (length r.now / 14) b l t before

  pub missed : ((k : ℕ) → k < length r.now / 14 → is_survey r.now kind hour (14 * k) ≡ false) → survey_or r kind hour other ≡ other
  unfolding survey_or
  missed none =
      seek_none (λ i. is_survey r.now kind hour (14 * i)) (λ i. part r (14 * i) 14) other (length r.now / 14) none

-- a survey's part has 14 bytes
survey-shape : (r : Bor (List ℕ)) (kind hour : ℕ) (other : Part) → (length (survey_or r kind hour other).bytes ≡ 14) ⊎ (survey_or r kind hour other ≡ other)
unfolding survey_or part
survey-shape r kind hour other =
    ⊎_elim (λ w. inl (ap (λ (x : Part). length x.bytes) w.2 ∙ simp (length-take, length-drop) (min-eq_left (let h : 14 ≤ length r.now - 14 * w.0 = omega arith in h)))) (λ w. inr w.0)
    (seek_agree (λ i. is_survey r.now kind hour (14 * i)) (λ i. part r (14 * i) 14) other (λ i. i) 0 0 (length r.now / 14))

-- the governing part has 14 bytes, or is empty
pub governing-shape : (e p : Bor (List ℕ)) (hour : ℕ) → (length (governing e p hour).bytes ≡ 14) ⊎ ((governing e p hour).bytes ≡ [])
unfolding governing part
governing-shape e p hour =
    ⊎_elim inl (λ q. ⊎_elim (λ (w : length (survey_or p 4 hour (part p 0 0)).bytes ≡ 14). inl (ap (λ (x : Part). length x.bytes) q ∙ w)) (λ w. inr (ap (λ (x : Part). x.bytes) (q ∙ w))) (survey-shape p 4 hour (part p 0 0)))
    (survey-shape e 3 hour (survey_or p 4 hour (part p 0 0)))

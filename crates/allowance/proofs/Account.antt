-- The allowance of methods 1 and 2, for every fill rule, unit of a reading and divisor of a gram: the values are whole units, and the exact values stand
-- in units of 1 / P. Another scale or edition puts in other numbers. Assumes nothing.
use mathlib.Core.Path.{◌≡◌, subst, subst₂}
use Prim.Native.Nat.{ℕ, ◌+◌, ◌*◌, ◌<◌}
use native.Mathlib.Nat.{one-mul, mul-zero, mul_comm}
use native.Mathlib.Omega.{arith}
use mathlib.Core.List.{List, [], Forall₂}
use Rattle.law.specs.Words.{sum_of, halves_up}
use Rattle.law.proofs.Halves.{Within, spread, hour_off, grams-off}
use Rattle.rules.specs.Slots.{Slot, entries}
use Rattle.rules.specs.Fill.{Values, zeroes}
use Rattle.rules.specs.Grams.{amount}
use Rattle.allowance.specs.Exact.{twice, twice_both}
use Rattle.allowance.specs.Allowance.{of_measured}
use Rattle.rules.proofs.Alike.{Alike, list_self}
use Rattle.allowance.proofs.Sums.{sum-times, list_off, line_off}

-- what a fill rule gives for a gap and the valid hours before and after it
abbrev pub Rule : Type 0 → Type 0
Rule A = ℕ → List Values → List Values → A

module _ (P : ℕ) where
  -- the value c is within half a unit of the exact value v
  abbrev pub Half : ℕ → ℕ → Type 0
  Half c v = Within P (2 * v) (2 * (P * c))

  abbrev pub Halves : Values → Values → Type 0
  Halves p q = Half p.c q.c × Half p.l q.l

  -- an hour's values p and its exact amount x, in units of 1 / (4 * P * P): within the allowance a
  abbrev pub Off : ℕ → ℕ → Values → Type 0
  Off a x p = Within (P * P * a) x (4 * (P * P) * amount p)

  measured_off : (p q : Values) → Halves p q → Off (of_measured p) (amount (twice_both q)) p
  unfolding of_measured amount twice_both twice
  measured_off p q h =
      subst (λ (a : ℕ). Off a (amount (twice_both q)) p) (one-mul (of_measured p))
      (hour_off P 1 p.c p.l (2 * q.c) (2 * q.l) (omega arith) (omega arith))

  -- ---- method 1, by any rule whose fills are within their allowance
  abbrev pub FillsOff : Rule Values → Rule Values → Rule ℕ → Type 0
  FillsOff rule exact slack =
      (g : ℕ) (b a y x : List Values) → Forall₂ Halves b y → Forall₂ Halves a x → Off (slack g b a) (amount (exact g y x)) (rule g b a)

  module _ (rule exact : Rule Values) (slack : Rule ℕ) (fills : FillsOff rule exact slack) where
    pub automatic-off : (U : ℕ) (c x : List (Slot Values)) → 0 < U → Forall₂ (Alike Halves) c x
        → Within (P * P * (2 * U + sum_of (λ n. n) (entries of_measured slack 0 [] c))) (4 * (P * P) * (U * halves_up (sum_of amount (entries (λ v. v) rule zeroes [] c)) U)) (sum_of amount (entries twice_both exact zeroes [] x))
    unfolding amount zeroes
    automatic-off U c x u h =
        simp one-mul at
        (grams-off P U 1 (sum_of amount (entries (λ v. v) rule zeroes [] c)) (sum_of amount (entries twice_both exact zeroes [] x)) (sum_of (λ n. n) (entries of_measured slack 0 [] c)) u
        (line_off (P * P) (4 * (P * P)) amount (λ v. v) rule zeroes amount twice_both exact zeroes of_measured slack measured_off fills (omega (arith, mul-zero (P * P), mul-zero (4 * (P * P)))) h))

  -- ---- method 2: the sum over the surveyed hours, times r running hours, over D
  twice-amount : (q : Values) → amount (twice_both q) ≡ 4 * amount q
  unfolding amount twice_both twice
  twice-amount q = simp spread (omega arith)

  module _ {A : Type 0} (values exact : A → Values) (halves : (a : A) → Halves (values a) (exact a)) where
    surveys-off : (s : List A) → Within (P * P * sum_of (λ a. of_measured (values a)) s) (4 * sum_of (λ a. amount (exact a)) s) (4 * (P * P) * sum_of (λ a. amount (values a)) s)
    surveys-off s =
        subst (λ (e : ℕ). Within (P * P * sum_of (λ a. of_measured (values a)) s) e (4 * (P * P) * sum_of (λ a. amount (values a)) s)) (sum-times 4 (λ a. amount (exact a)) s)
        (list_off (P * P) (4 * (P * P)) (λ a. amount (values a)) (λ a. of_measured (values a)) (λ a. 4 * amount (exact a)) (λ a b h. rw twice-amount at (measured_off (values a) (exact b) h)) (list_self (λ a b. Halves (values a) (exact b)) halves s))

    pub manual-off : (D r : ℕ) (s : List A) → 0 < D
        → Within (P * P * (2 * D + r * sum_of (λ a. of_measured (values a)) s)) (4 * (P * P) * (D * halves_up (sum_of (λ a. amount (values a)) s * r) D)) (4 * (sum_of (λ a. amount (exact a)) s * r))
    manual-off D r s p =
        let c = sum_of (λ a. amount (values a)) s in
        let x = sum_of (λ a. amount (exact a)) s in
        let a = sum_of (λ a. of_measured (values a)) s in
        subst₂ (λ (n e : ℕ). Within (P * P * (2 * D + r * a)) (4 * (P * P) * (D * halves_up n D)) e) (mul_comm r c) (simp spread) (grams-off P D r c (4 * x) a p (surveys-off s))

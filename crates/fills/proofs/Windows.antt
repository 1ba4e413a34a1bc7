-- The largest of the values from a place up to another, and by the peaks of each 48 values. Assumes nothing.
use mathlib.Core.Path.{◌≡◌, refl, ◌∙◌, sym, ap, ap₂, subst}
use mathlib.Core.Logic.{⊎_elim}
use mathlib.Core.List.{List, [], ◌∷◌, ◌++◌}
use Prim.Native.Nat.{ℕ, zero, suc, ◌+◌, ◌-◌, ◌*◌, ◌<◌, ◌≤◌, max}
use native.Mathlib.Nat.{eq-or-lt_of_le}
use native.Mathlib.Omega.{arith}
use lib.ListN.{length, get_or, take, drop}
use lib.Seq.{take-add, drop-drop, drop-cons}
use Rattle.std.proofs.lemmas.List.{length_push, get_or_at, get_or_append_left}
use Rattle.law.specs.Numbers.{most_hours}
use Rattle.law.specs.Words.{largest}
use Rattle.fills.specs.Windows.{span, Peaked}
use Rattle.fills.proofs.Largest.{largest-append}

module _ (s : List ℕ) where
  -- parted at a place between
  pub span-parted : (a m b : ℕ) → a ≤ m → m ≤ b → span s a b ≡ max (span s a m) (span s m b)
  span-parted a m b p q =
      ap (λ (k : ℕ). largest (take k (drop a s))) (let z : b - a ≡ m - a + (b - m) = omega arith in z)
      ∙ ap largest (take-add (m - a) (b - m) (drop a s))
      ∙ largest-append (take (m - a) (drop a s)) (take (b - m) (drop (m - a) (drop a s)))
      ∙ ap (λ (t : List ℕ). max (span s a m) (largest (take (b - m) t))) (drop-drop (m - a) a s ∙ ap (λ (k : ℕ). drop k s) (let z : a + (m - a) ≡ m = omega arith in z))

  span_none : (a : ℕ) → span s a a ≡ 0
  unfolding largest
  span_none a = ap (λ (k : ℕ). largest (take k (drop a s))) (let z : a - a ≡ 0 = omega arith in z)

pub no_peak : (s : List ℕ) → length s ≤ most_hours → Peaked s []
no_peak s few = record { few = few; inside = omega arith; each = λ k l. absurd (omega arith) }

module _ (s peaks : List ℕ) (p : Peaked s peaks) where
  -- the next one
  pub peak_more : (v : ℕ) → 48 * length peaks + 48 ≤ length s → v ≡ span s (48 * length peaks) (48 * length peaks + 48) → Peaked s (peaks ++ v ∷ [])
  peak_more v fits e =
      let size : length (peaks ++ v ∷ []) ≡ length peaks + 1 = length_push peaks v in
      record {
        few = p.few;
        inside = omega (arith, size);
        each =
            λ k l. ⊎_elim
            (λ (here : k ≡ length peaks). ap (λ (i : ℕ). get_or (peaks ++ v ∷ []) i 0) here ∙ get_or_at peaks v [] 0 (length peaks) refl ∙ e ∙ sym (ap₂ (span s) (ap (λ (i : ℕ). 48 * i) here) (ap (λ (i : ℕ). 48 * i + 48) here)))
            (λ (less : k < length peaks). get_or_append_left peaks (v ∷ []) 0 k less ∙ p.each k less)
            (eq-or-lt_of_le (let z : k ≤ length peaks = omega (arith, size) in z));
      }

  -- the largest of some peaks is that of their values
  pub by_peaks : (a c : ℕ) → a + c ≤ length peaks → largest (take c (drop a peaks)) ≡ span s (48 * a) (48 * (a + c))
  unfolding largest
  by_peaks a zero l = sym (span_none s (48 * a)) ∙ ap (span s (48 * a)) (let z : 48 * a ≡ 48 * (a + 0) = omega arith in z)
  by_peaks a (suc c) l =
      let first = p.each a (omega arith) in
      let next : 48 * suc a ≡ 48 * a + 48 = omega arith in
      let rest = by_peaks (suc a) c (omega arith) in
      let far : 48 * (suc a + c) ≡ 48 * (a + suc c) = omega arith in
      ap (λ (t : List ℕ). largest (take (suc c) t)) (drop-cons peaks a 0 (omega arith))
      ∙ ap₂ max first (rest ∙ ap₂ (span s) next far)
      ∙ sym (span-parted s (48 * a) (48 * a + 48) (48 * (a + suc c)) (omega arith) (omega arith))

-- what is held of the valid values is held of a list that is the same
pub of_same : (v s peaks : List ℕ) (b : ℕ) → v ≡ s → Peaked s peaks → b ≤ length s → Peaked v peaks × (b ≤ length v)
of_same v s peaks b e p l = (subst (λ (t : List ℕ). Peaked t peaks) (sym e) p, subst (λ (t : List ℕ). b ≤ length t) (sym e) l)

pub no_peak-yet : (v s peaks : List ℕ) → length s ≤ most_hours → (v ≡ s) × (peaks ≡ []) → Peaked s peaks
no_peak-yet v s peaks l e = subst (Peaked s) (sym e.1) (no_peak s l)

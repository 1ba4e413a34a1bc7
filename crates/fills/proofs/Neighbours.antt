-- What an hour sees: the hours before it, `reverse (take h slots)`, and those from it on, `drop h slots`, hour by hour; and that every missing hour of a
-- gap sees the same. Assumes nothing.
use mathlib.Core.Path.{◌≡◌, refl, ◌∙◌, sym, ap, ap₂}
use mathlib.Core.Logic.{◌⊎◌, inl, inr}
use mathlib.Core.List.{List, [], ◌∷◌, reverse, reverse-append}
use Prim.Native.Nat.{ℕ, zero, suc, ◌+◌, ◌<◌, ◌≤◌}
use native.Mathlib.Numerals.{add-one}
use native.Mathlib.Omega.{arith}
use lib.ListN.{length, get_or, take, drop, drop_of_length-le}
use lib.Seq.{take-suc, drop-cons}
use Rattle.rules.specs.Slots.{Slot, valid, missing, stopped, run, valids, entry}
use Rattle.rules.specs.Fill.{fill, mean_up, same}
use Rattle.fills.specs.Gaps.{fill_at}

-- what one hour does to a run and to the valid values
module _ {A : Type 0} where
  abbrev pub longer : Slot A → ℕ → ℕ
  longer (valid v) m = 0
  longer missing m = suc m
  longer stopped m = m

  abbrev pub joined : Slot A → List A → List A
  joined (valid v) vs = v ∷ vs
  joined missing vs = vs
  joined stopped vs = vs

  run_cons : (x : Slot A) (s : List (Slot A)) → run (x ∷ s) ≡ longer x (run s)
  unfolding run
  run_cons (valid v) s = refl
  run_cons missing s = refl
  run_cons stopped s = refl

  valids_cons : (x : Slot A) (s : List (Slot A)) → valids (x ∷ s) ≡ joined x (valids s)
  unfolding valids
  valids_cons (valid v) s = refl
  valids_cons missing s = refl
  valids_cons stopped s = refl

module _ {A : Type 0} (slots : List (Slot A)) where
  -- the hours before hour k, nearest first, and those from it on
  abbrev pub before : ℕ → List (Slot A)
  before k = reverse (take k slots)

  abbrev pub from : ℕ → List (Slot A)
  from k = drop k slots

  -- hour k is x
  abbrev pub At : ℕ → Slot A → Type 0
  At k x = get_or slots k stopped ≡ x

  before_step : (k : ℕ) (x : Slot A) → k < length slots → At k x → before (k + 1) ≡ x ∷ before k
  before_step k x l e =
      ap before (add-one k)
      ∙ ap reverse (take-suc slots k stopped l)
      ∙ reverse-append (take k slots) (get_or slots k stopped ∷ [])
      ∙ ap (λ (y : Slot A). y ∷ before k) e

  from_step : (k : ℕ) (x : Slot A) → k < length slots → At k x → from k ≡ x ∷ from (k + 1)
  from_step k x l e =
      drop-cons slots k stopped l ∙ ap₂ (λ (y : Slot A) (j : ℕ). y ∷ from j) e (sym (add-one k))

  -- hour k, which is x, passed
  pub run_before : (k : ℕ) (x : Slot A) → k < length slots → At k x → run (before (k + 1)) ≡ longer x (run (before k))
  run_before k x l e = ap run (before_step k x l e) ∙ run_cons x (before k)

  pub run_from : (k : ℕ) (x : Slot A) → k < length slots → At k x → run (from k) ≡ longer x (run (from (k + 1)))
  run_from k x l e = ap run (from_step k x l e) ∙ run_cons x (from (k + 1))

  pub valids_before : (k : ℕ) (x : Slot A) → k < length slots → At k x → valids (before (k + 1)) ≡ joined x (valids (before k))
  valids_before k x l e = ap valids (before_step k x l e) ∙ valids_cons x (before k)

  pub valids_from : (k : ℕ) (x : Slot A) → k < length slots → At k x → valids (from k) ≡ joined x (valids (from (k + 1)))
  valids_from k x l e = ap valids (from_step k x l e) ∙ valids_cons x (from (k + 1))

  -- past the last hour, and before the first
  pub run_end : (k : ℕ) → length slots ≤ k → run (from k) ≡ 0
  unfolding run
  run_end k l = ap run (drop_of_length-le slots l)

  pub valids_end : (k : ℕ) → length slots ≤ k → valids (from k) ≡ []
  unfolding valids
  valids_end k l = ap valids (drop_of_length-le slots l)

  pub none_before : (run (before 0) ≡ 0) × (valids (before 0) ≡ [])
  unfolding run valids
  none_before = (refl, refl)

  -- two hours see the same where no valid hour stands between them
  abbrev pub Alike : ℕ → ℕ → Type 0
  Alike k i =
      (run (before k) + run (from k) ≡ run (before i) + run (from i))
      × (valids (before k) ≡ valids (before i))
      × (valids (from k) ≡ valids (from i))

  abbrev pub Empty : ℕ → Type 0
  Empty k = At k missing ⊎ At k stopped

  pub alike_step : (k : ℕ) → k < length slots → Empty k → Alike (k + 1) k
  alike_step k l (inl e) =
      let p : run (before (k + 1)) ≡ suc (run (before k)) = run_before k missing l e in
      let q : run (from k) ≡ suc (run (from (k + 1))) = run_from k missing l e in
      (omega arith, valids_before k missing l e, sym (valids_from k missing l e))
  alike_step k l (inr e) =
      let p : run (before (k + 1)) ≡ run (before k) = run_before k stopped l e in
      let q : run (from k) ≡ run (from (k + 1)) = run_from k stopped l e in
      (omega arith, valids_before k stopped l e, sym (valids_from k stopped l e))

  alike_over : (k j i : ℕ) → j ≡ k → Alike k i → Alike j i
  alike_over k j i e a =
      (ap (λ (h : ℕ). run (before h) + run (from h)) e ∙ a.0, ap (λ (h : ℕ). valids (before h)) e ∙ a.1, ap (λ (h : ℕ). valids (from h)) e ∙ a.2)

  pub alike : (i d : ℕ) → i + d ≤ length slots → ((k : ℕ) → i ≤ k → k < i + d → Empty k) → Alike (i + d) i
  alike i zero l h = alike_over i (i + 0) i (omega arith) (refl, refl, refl)
  alike i (suc d) l h =
      let a = alike i d (omega arith) (λ k p q. h k p (omega arith)) in
      let b = alike_step (i + d) (omega arith) (h (i + d) (omega arith) (omega arith)) in
      alike_over (i + d + 1) (i + suc d) i (omega arith) (b.0 ∙ a.0, b.1 ∙ a.1, b.2 ∙ a.2)

-- so a missing hour is filled as its gap is, seen from any hour of it
pub fill_alike : (slots : List (Slot ℕ)) (k i : ℕ) → k < length slots → At slots k missing → Alike slots k i
    → fill_at slots k ≡ fill mean_up same (run (before slots i) + run (from slots i)) (valids (before slots i)) (valids (from slots i))
unfolding fill_at entry
fill_alike slots k i l e a =
    let q : run (from slots k) ≡ suc (run (from slots (k + 1))) = run_from slots k missing l e in
    let g : run (before slots k) + 1 + run (from slots (k + 1)) ≡ run (before slots i) + run (from slots i) = omega (arith, a.0) in
    ap (λ (m : ℕ). fill mean_up same m (valids (before slots k)) (valids (from slots (k + 1)))) g
    ∙ ap₂ (fill mean_up same (run (before slots i) + run (from slots i))) a.1 (sym (valids_from slots k missing l e) ∙ a.2)

-- all hours of a gap agree: two missing hours with none but missing and stopped ones between them have one fill
pub gap_agrees : (slots : List (Slot ℕ)) (i d : ℕ) → i + d < length slots → At slots i missing → At slots (i + d) missing → ((k : ℕ) → i ≤ k → k < i + d → Empty slots k)
    → fill_at slots (i + d) ≡ fill_at slots i
gap_agrees slots i d l e f h =
    fill_alike slots (i + d) i l f (alike slots i d (omega arith) h)
    ∙ sym (fill_alike slots i i (omega arith) e (refl, refl, refl))

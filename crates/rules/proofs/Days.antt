-- Lists to which each day of a line adds its hours or its masks, where of the days the newest stands first: how long they are, and what stands in them at
-- an hour of the period. Assumes nothing.
use mathlib.Core.Path.{◌≡◌, refl, ◌∙◌, sym, ap, ap₂}
use mathlib.Core.List.{List, [], ◌∷◌, ◌++◌}
use mathlib.Core.Logic.{⊎_elim}
use Prim.Native.Nat.{ℕ, suc, ◌+◌, ◌-◌, ◌*◌, ◌/◌, ◌%◌, ◌<◌, ◌≤◌}
use native.Mathlib.Nat.{zero-add, suc-add, mod-lt, zero-lt-suc, mul-zero, mul-suc, mul-one, mul-add, mul-le-mul_left, le_of_suc-le-suc, eq-or-lt_of_le, not-suc-le-zero}
use native.Mathlib.Omega.{arith}
use lib.ListN.{length, get_or, set, length-append, get_or-append, get_or-eq_default}
use lib.Seq.{get_or-append-add, set-append_left}
use lib.Dec.{eqb}
use borrow.Author.Tests.{eqb-true, eqb-false}
use Rattle.law.specs.Numbers.{hours_of_day}
use Rattle.law.specs.Words.{table}
use Rattle.law.proofs.Tests.{pick_case}
use Rattle.law.proofs.Tabled.{table_length, table_at}
use Rattle.rules.specs.declared.Pair.{Pair}
use Rattle.rules.specs.Records.{Day}
use Rattle.rules.specs.Slots.{Slot, stopped}
use Rattle.rules.specs.Hours.{slot_of, slots_of, run_masks, measured_masks}
use Rattle.rules.specs.Lines.{at_day}

set-append_add : {A : Type 0} (xs ys : List A) (i : ℕ) (a : A) → set (xs ++ ys) (length xs + i) a ≡ xs ++ set ys i a
set-append_add [] ys i a = ap (λ (k : ℕ). set ys k a) (zero-add i)
set-append_add {A} (x ∷ xs) ys i a = ap (λ (k : ℕ). set (x ∷ (xs ++ ys)) k a) (suc-add (length xs) i) ∙ ap (λ (r : List A). x ∷ r) (set-append_add xs ys i a)

-- a list to which each day adds n elements at its end: how long it is, and what stands in it at place h of day k
module _ {A : Type 0} (g : Day → ℕ → A) (n : ℕ) where
  unfoldable rows : List Day → List A
  rows [] = []
  rows (d ∷ ds) = rows ds ++ table (g d) n

  length-rows : (ds : List Day) → length (rows ds) ≡ n * length ds
  unfolding rows
  length-rows [] = sym (mul-zero n)
  length-rows (d ∷ ds) =
      length-append (rows ds) (table (g d) n) ∙ ap₂ (λ (x y : ℕ). x + y) (length-rows ds) (table_length (g d) n) ∙ sym (mul-suc n (length ds))

  row_at : (ds : List Day) (k h : ℕ) (e : Day) (a : A) → k < length ds → h < n → get_or (rows ds) (n * k + h) a ≡ g (get_or ds (length ds - 1 - k) e) h
  unfolding rows
  row_at [] k h e a l m = absurd (not-suc-le-zero l)
  row_at (d ∷ ds) k h e a l m =
      ⊎_elim
      (λ q.
      let w : n * k + h ≡ length (rows ds) + h = ap (λ (x : ℕ). x + h) (ap (λ (x : ℕ). n * x) q ∙ sym (length-rows ds)) in
      let z : 0 ≡ suc (length ds) - 1 - k = omega arith in
      ap (λ (x : ℕ). get_or (rows ds ++ table (g d) n) x a) w ∙ get_or-append-add (rows ds) (table (g d) n) h a ∙ table_at (g d) n h a m
      ∙ ap (λ (x : ℕ). g (get_or (d ∷ ds) x e) h) z)
      (λ q.
      let w : n * (k + 1) ≤ n * length ds = mul-le-mul_left n (let j : k + 1 ≤ length ds = omega arith in j) in
      let v : n * k + h < length (rows ds) = omega (arith, simp (mul-add, mul-one) at w, length-rows ds) in
      let z : suc (length ds - 1 - k) ≡ suc (length ds) - 1 - k = omega arith in
      get_or-append (rows ds) (table (g d) n) a (n * k + h) v ∙ row_at ds k h e a q m ∙ ap (λ (x : ℕ). g (get_or (d ∷ ds) x e) h) z)
      (eq-or-lt_of_le (le_of_suc-le-suc l))

  -- day k changed: where its own elements stay all stay, and where one of them moves that one alone moves
  rows_same : (change : Day → Day) → ((d : Day) → table (g (change d)) n ≡ table (g d) n) → (ds : List Day) (k : ℕ) → rows (at_day k change ds) ≡ rows ds
  unfolding rows at_day
  rows_same change e [] k = refl
  rows_same change e (d ∷ ds) k =
      pick_case (λ (t : List Day). rows t ≡ rows ds ++ table (g d) n) (eqb k (length ds)) (change d ∷ ds) (d ∷ at_day k change ds)
      (λ _. ap (λ (t : List A). rows ds ++ t) (e d)) (λ _. ap (λ (t : List A). t ++ table (g d) n) (rows_same change e ds k))

  rows_set : (change : Day → Day) (i : ℕ) (f : A → A) (a : A) → i < n → ((d : Day) → table (g (change d)) n ≡ set (table (g d) n) i (f (g d i))) → (ds : List Day) (k : ℕ) → k < length ds
      → rows (at_day k change ds) ≡ set (rows ds) (n * k + i) (f (get_or (rows ds) (n * k + i) a))
  unfolding rows at_day
  rows_set change i f a m e [] k l = absurd (omega arith)
  rows_set change i f a m e (d ∷ ds) k l =
      let own = table (g d) n in
      pick_case (λ (t : List Day). rows t ≡ set (rows ds ++ own) (n * k + i) (f (get_or (rows ds ++ own) (n * k + i) a))) (eqb k (length ds)) (change d ∷ ds) (d ∷ at_day k change ds)
      (λ t.
      let w : n * k + i ≡ length (rows ds) + i = ap (λ (x : ℕ). x + i) (ap (λ (x : ℕ). n * x) (eqb-true k (length ds) t) ∙ sym (length-rows ds)) in
      let v : get_or (rows ds ++ own) (length (rows ds) + i) a ≡ g d i = get_or-append-add (rows ds) own i a ∙ table_at (g d) n i a m in
      ap (λ (s : List A). rows ds ++ s) (e d) ∙ sym (set-append_add (rows ds) own i (f (g d i)))
      ∙ ap (λ (x : A). set (rows ds ++ own) (length (rows ds) + i) (f x)) (sym v)
      ∙ ap (λ (x : ℕ). set (rows ds ++ own) x (f (get_or (rows ds ++ own) x a))) (sym w))
      (λ t.
      let q : k < length ds = let z = eqb-false k (length ds) t in omega arith in
      let w : n * (k + 1) ≤ n * length ds = mul-le-mul_left n (let j : k + 1 ≤ length ds = omega arith in j) in
      let v : n * k + i < length (rows ds) = omega (arith, simp (mul-add, mul-one) at w, length-rows ds) in
      ap (λ (s : List A). s ++ own) (rows_set change i f a m e ds k q) ∙ sym (set-append_left (rows ds) own (n * k + i) (f (get_or (rows ds) (n * k + i) a)) v)
      ∙ ap (λ (x : A). set (rows ds ++ own) (n * k + i) (f x)) (sym (get_or-append (rows ds) own a (n * k + i) v)))

-- a day past the last: its masks are 0
unfoldable pub no_day_lem : Day
no_day_lem = record { masks = record { day = 0; run = 0; measured = 0 }; pairs = [] }

-- the day of an hour of the period
unfoldable pub day_at : List Day → ℕ → Day
day_at ds h = get_or ds (length ds - 1 - h / hours_of_day) no_day_lem

slots-rows : (ds : List Day) → slots_of ds ≡ rows slot_of 24 ds
unfolding slots_of rows
slots-rows [] = refl
slots-rows (d ∷ ds) = ap (λ (t : List (Slot Pair)). t ++ table (slot_of d) 24) (slots-rows ds)

runs_rows : (ds : List Day) → run_masks ds ≡ rows (λ d h. d.masks.run) 1 ds
unfolding run_masks rows table
runs_rows [] = refl
runs_rows (d ∷ ds) = ap (λ (t : List ℕ). t ++ (d.masks.run ∷ [])) (runs_rows ds)

measured_rows : (ds : List Day) → measured_masks ds ≡ rows (λ d h. d.masks.measured) 1 ds
unfolding measured_masks rows table
measured_rows [] = refl
measured_rows (d ∷ ds) = ap (λ (t : List ℕ). t ++ (d.masks.measured ∷ [])) (measured_rows ds)

-- how long they are
pub length-slots : (ds : List Day) → length (slots_of ds) ≡ hours_of_day * length ds
length-slots ds = ap length (slots-rows ds) ∙ length-rows slot_of 24 ds

pub length_runs : (ds : List Day) → length (run_masks ds) ≡ length ds
length_runs ds = ap length (runs_rows ds) ∙ length-rows (λ d h. d.masks.run) 1 ds ∙ omega arith

pub length-measured : (ds : List Day) → length (measured_masks ds) ≡ length ds
length-measured ds = ap length (measured_rows ds) ∙ length-rows (λ d h. d.masks.measured) 1 ds ∙ omega arith

-- day k changed
module _ (k : ℕ) (change : Day → Day) where
  pub runs_at-day : ((d : Day) → (change d).masks.run ≡ d.masks.run) → (ds : List Day) → run_masks (at_day k change ds) ≡ run_masks ds
  unfolding table
  runs_at-day e ds =
      runs_rows (at_day k change ds) ∙ rows_same (λ d h. d.masks.run) 1 change (λ d. ap (λ (m : ℕ). m ∷ []) (e d)) ds k ∙ sym (runs_rows ds)

  pub measured_stay : ((d : Day) → (change d).masks.measured ≡ d.masks.measured) → (ds : List Day) → measured_masks (at_day k change ds) ≡ measured_masks ds
  unfolding table
  measured_stay e ds =
      measured_rows (at_day k change ds) ∙ rows_same (λ d h. d.masks.measured) 1 change (λ d. ap (λ (m : ℕ). m ∷ []) (e d)) ds k ∙ sym (measured_rows ds)

  pub measured_at-day : (f : ℕ → ℕ) → ((d : Day) → (change d).masks.measured ≡ f d.masks.measured) → (ds : List Day) → k < length ds
      → measured_masks (at_day k change ds) ≡ set (measured_masks ds) k (f (get_or (measured_masks ds) k 0))
  unfolding table
  measured_at-day f e ds l =
      measured_rows (at_day k change ds) ∙ rows_set (λ d h. d.masks.measured) 1 change 0 f 0 (zero-lt-suc 0) (λ d. ap (λ (m : ℕ). m ∷ []) (e d)) ds k l
      ∙ ap₂ (λ (i : ℕ) (t : List ℕ). set t i (f (get_or t i 0))) (let z : 1 * k + 0 ≡ k = omega arith in z) (sym (measured_rows ds))

  pub slots-at_day : (i : ℕ) (o : Slot Pair) → i < hours_of_day → ((d : Day) → table (slot_of (change d)) hours_of_day ≡ set (table (slot_of d) hours_of_day) i o) → (ds : List Day) → k < length ds
      → slots_of (at_day k change ds) ≡ set (slots_of ds) (hours_of_day * k + i) o
  slots-at_day i o m e ds l =
      slots-rows (at_day k change ds) ∙ rows_set slot_of 24 change i (λ _. o) stopped m e ds k l ∙ ap (λ (t : List (Slot Pair)). set t (hours_of_day * k + i) o) (sym (slots-rows ds))

-- what stands in them at hour h of the period, and past its end
module _ (ds : List Day) (h : ℕ) where
  module _ (l : h < hours_of_day * length ds) where
    pub slot_day : get_or (slots_of ds) h stopped ≡ slot_of (day_at ds h) (h % hours_of_day)
    unfolding day_at
    slot_day =
        let e : h ≡ hours_of_day * (h / hours_of_day) + h % hours_of_day = omega arith in
        let k : h / hours_of_day < length ds = omega arith in
        ap₂ (λ (t : List (Slot Pair)) (x : ℕ). get_or t x stopped) (slots-rows ds) e ∙ row_at slot_of 24 ds (h / hours_of_day) (h % hours_of_day) no_day_lem stopped k (mod-lt h (zero-lt-suc 23))

    mask_day : (f : Day → ℕ) → get_or (rows (λ d k. f d) 1 ds) (h / hours_of_day) 0 ≡ f (day_at ds h)
    unfolding day_at
    mask_day f =
        let e : h / hours_of_day ≡ 1 * (h / hours_of_day) + 0 = omega arith in
        let k : h / hours_of_day < length ds = omega arith in
        ap (λ (x : ℕ). get_or (rows (λ d k. f d) 1 ds) x 0) e ∙ row_at (λ d k. f d) 1 ds (h / hours_of_day) 0 no_day_lem 0 k (zero-lt-suc 0)

    pub run_day : get_or (run_masks ds) (h / hours_of_day) 0 ≡ (day_at ds h).masks.run
    run_day = ap (λ (t : List ℕ). get_or t (h / hours_of_day) 0) (runs_rows ds) ∙ mask_day (λ d. d.masks.run)

    pub measured_day : get_or (measured_masks ds) (h / hours_of_day) 0 ≡ (day_at ds h).masks.measured
    measured_day = ap (λ (t : List ℕ). get_or t (h / hours_of_day) 0) (measured_rows ds) ∙ mask_day (λ d. d.masks.measured)

  module _ (l : hours_of_day * length ds ≤ h) where
    pub slot_past : get_or (slots_of ds) h stopped ≡ stopped
    slot_past = get_or-eq_default (slots_of ds) stopped (let j : length (slots_of ds) ≤ h = omega (arith, length-slots ds) in j)

    pub run_past : get_or (run_masks ds) (h / hours_of_day) 0 ≡ 0
    run_past = get_or-eq_default (run_masks ds) 0 (let j : length (run_masks ds) ≤ h / hours_of_day = omega (arith, length_runs ds) in j)

    pub measured_past : get_or (measured_masks ds) (h / hours_of_day) 0 ≡ 0
    measured_past = get_or-eq_default (measured_masks ds) 0 (let j : length (measured_masks ds) ≤ h / hours_of_day = omega (arith, length-measured ds) in j)

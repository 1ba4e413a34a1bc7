-- The masks of the open line stand at the front of the arrays that keep them: what stands behind is not read. The states of its hours are those that the
-- masks say. Assumes nothing.
use mathlib.Core.Path.{◌≡◌, refl, ◌∙◌, sym, ap, ap₂}
use mathlib.Core.Bool.{Bool}
use mathlib.Core.List.{List, [], ◌∷◌, ◌++◌, append-nil, append_assoc}
use Prim.Native.Nat.{ℕ, zero, suc, ◌+◌, ◌-◌, ◌*◌, ◌/◌, ◌%◌, ◌<◌, ◌≤◌}
use native.Mathlib.Omega.{arith}
use lib.ListN.{length, take, drop, get_or, set, length-append, length-take}
use lib.Seq.{get_or-take, take_at, take-set-lt, get_or-set_same, get_or-set_other}
use lib.Dec.{eqb}
use Rattle.law.specs.Numbers.{hours_of_day}
use Rattle.law.specs.Words.{pick, table, seek}
use Rattle.law.proofs.Tabled.{table_length, table_same, table_set}
use Rattle.rules.specs.Hours.{bit, missing_of, lacks_at, first_missing}
use Rattle.rules.specs.Lines.{with_bit}
use Rattle.hours.specs.States.{state_of, state_at, period_states}
use Rattle.hours.specs.Marks.{mask_of, with_measured, found_by}
use Rattle.hours.proofs.Laws.{state_day}
use Rattle.hours.proofs.Marked.{state_own, state_other}
use Rattle.walk.specs.Books.{put_from}

mask_kept : (n : ℕ) (masks own : List ℕ) (h : ℕ) → take n masks ≡ own → h < hours_of_day * n → get_or masks (h / hours_of_day) 0 ≡ get_or own (h / hours_of_day) 0
mask_kept n masks own h e l = sym (get_or-take n masks (h / hours_of_day) 0 (omega arith)) ∙ ap (λ (t : List ℕ). get_or t (h / hours_of_day) 0) e

seek_same : (hit hit' : ℕ → Bool) (answer : ℕ → ℕ) (none i n : ℕ) → ((h : ℕ) → h < i + n → hit h ≡ hit' h) → seek hit answer none i n ≡ seek hit' answer none i n
unfolding seek
seek_same hit hit' answer none i zero e = refl
seek_same hit hit' answer none i (suc n) e =
    ap₂ (λ (b : Bool) (r : ℕ). pick b (answer i) r) (e i (omega arith)) (seek_same hit hit' answer none (suc i) n (λ h l. e h (omega arith)))

module _ (n : ℕ) (runs measured r m : List ℕ) (kr : take n runs ≡ r) (km : take n measured ≡ m) where
  pub states_kept : period_states runs measured n ≡ period_states r m n
  unfolding state_at
  states_kept = table_same (state_at runs measured) (state_at r m) (hours_of_day * n) (λ h l. ap₂ (λ (i j : ℕ). state_of i j (h % hours_of_day)) (mask_kept n runs r h kr l) (mask_kept n measured m h km l))

  pub first-kept : first_missing runs measured n ≡ first_missing r m n
  unfolding first_missing lacks_at
  first-kept = seek_same (lacks_at runs measured) (lacks_at r m) (λ h. h + 1) 0 0 (hours_of_day * n) (λ h l. ap₂ (λ (i j : ℕ). eqb (bit (h % hours_of_day) i - bit (h % hours_of_day) j) 1) (mask_kept n runs r h kr (omega arith)) (mask_kept n measured m h km (omega arith)))

-- ---- a day more: its masks are set, and its states are put behind those of the days before
table_add : (f : ℕ → ℕ) (n c : ℕ) → table f (n + c) ≡ table f n ++ table (λ k. f (n + k)) c
unfolding table
table_add f n zero = ap (table f) (let z : n + 0 ≡ n = omega arith in z) ∙ sym (append-nil (table f n))
table_add f n (suc c) =
    ap (table f) (let z : n + suc c ≡ suc (n + c) = omega arith in z) ∙ ap (λ (t : List ℕ). t ++ (f (n + c) ∷ [])) (table_add f n c)
    ∙ append_assoc (table f n) (table (λ k. f (n + k)) c) (f (n + c) ∷ [])

module _ (runs measured : List ℕ) (n r m : ℕ) (lr : n < length runs) (lm : n < length measured) where
  abbrev after : ℕ → ℕ
  after = state_at (set runs n r) (set measured n m)

  old_state : (h : ℕ) → h < hours_of_day * n → state_at runs measured h ≡ after h
  unfolding state_at
  old_state h l =
      let other : h / hours_of_day ≡ n → ⊥ = λ e. omega arith in
      sym (ap₂ (λ (i j : ℕ). state_of i j (h % hours_of_day)) (get_or-set_other runs n (h / hours_of_day) r 0 other) (get_or-set_other measured n (h / hours_of_day) m 0 other))

  own_state : (k : ℕ) → k < hours_of_day → state_of r m k ≡ after (hours_of_day * n + k)
  own_state k l =
      sym (ap₂ (λ (i j : ℕ). state_of i j k) (get_or-set_same runs n r 0 lr) (get_or-set_same measured n m 0 lm)) ∙ state_day (set runs n r) (set measured n m) n k l

  pub states_day : (states : List ℕ) → hours_of_day * n ≤ length states → take (hours_of_day * n) states ≡ period_states runs measured n
      → take (hours_of_day * suc n) (put_from (state_of r m) hours_of_day (hours_of_day * n) states) ≡ period_states (set runs n r) (set measured n m) (suc n)
  states_day states ls kept =
      let front = take (hours_of_day * n) states in
      let own = table (state_of r m) hours_of_day in
      let rest = drop hours_of_day (drop (hours_of_day * n) states) in
      let size : length front ≡ hours_of_day * n = simp length-take (omega arith) in
      let long : length (front ++ own) ≡ hours_of_day * suc n = length-append front own ∙ omega (arith, table_length (state_of r m) hours_of_day) in
      ap (take (hours_of_day * suc n)) (sym (append_assoc front own rest)) ∙ take_at (front ++ own) rest (hours_of_day * suc n) long
      ∙ ap₂ ◌++◌ (kept ∙ table_same (state_at runs measured) after (hours_of_day * n) old_state) (table_same (state_of r m) (λ k. after (hours_of_day * n + k)) hours_of_day own_state)
      ∙ sym (ap (table after) (let z : hours_of_day * suc n ≡ hours_of_day * n + hours_of_day = omega arith in z) ∙ table_add after (hours_of_day * n) hours_of_day)

-- ---- a survey more: its hour is marked
module _ (runs measured states : List ℕ) (n h : ℕ) (l : h < hours_of_day * n) (few : n ≤ length measured) where
  in_masks : h / hours_of_day < length measured
  in_masks = omega arith

  pub states_marked : take (hours_of_day * n) states ≡ period_states runs measured n → take (hours_of_day * n) (set states h 2) ≡ period_states runs (with_measured h measured) n
  states_marked kept =
      take-set-lt (hours_of_day * n) states h 2 l ∙ ap (λ (t : List ℕ). set t h 2) kept
      ∙ table_set (state_at runs measured) (state_at runs (with_measured h measured)) (hours_of_day * n) h 2 0 l (state_own runs measured h in_masks) (λ k m e. state_other runs measured h in_masks k e)

  pub masks_marked : (own : List ℕ) → take n measured ≡ own → take n (with_measured h measured) ≡ set own (h / hours_of_day) (with_bit (h % hours_of_day) (get_or own (h / hours_of_day) 0))
  masks_marked own kept =
      take-set-lt n measured (h / hours_of_day) (with_bit (h % hours_of_day) (mask_of h measured)) (omega arith)
      ∙ ap₂ (λ (t : List ℕ) (m : ℕ). set t (h / hours_of_day) (with_bit (h % hours_of_day) m)) kept (mask_kept n measured own h kept l)

-- how many missing hours it finds, by the masks of the line's own days
pub found_kept : (n h : ℕ) (runs measured r m : List ℕ) → take n runs ≡ r → take n measured ≡ m → h < hours_of_day * n → found_by h runs measured ≡ found_by h r m
found_kept n h runs measured r m kr km l =
    ap₂ (λ (i j : ℕ). missing_of i j - missing_of i (with_bit (h % hours_of_day) j)) (mask_kept n runs r h kr l) (mask_kept n measured m h km l)

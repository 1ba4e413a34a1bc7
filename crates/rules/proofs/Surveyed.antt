-- A mask with a bit set, and a survey put into its day: what it does to the hours, the masks and the counts of a line's days. Assumes nothing.
use mathlib.Core.Path.{◌≡◌, refl, ◌∙◌, sym, ap, ap₂}
use mathlib.Core.List.{List, [], ◌∷◌, ◌++◌}
use Prim.Native.Nat.{ℕ, zero, suc, ◌+◌, ◌-◌, ◌*◌, ◌/◌, ◌%◌, ◌^◌, ◌<◌, ◌≤◌, max}
use native.Mathlib.Nat.{div-one, mod-lt, zero-lt-suc, le_of_suc-le-suc, div-eq_of_lt, one-mul, pow-suc, mul-mod_left}
use native.Mathlib.Omega.{arith}
use native.Mathlib.Decide.{dec_lt}
use lib.Arith.{digits_mod}
use native.Mathlib.Numerals.{one-add}
use lib.Bits.{bit_or, or_shr, or_step, or_zero_r, shifted_half, shifted_even}
use lib.Pow.{pow-lt, pow-add, shl-shr, shr-shr}
use lib.ListN.{length, get_or, set, get_or-append}
use lib.Seq.{get_or-append_seam}
use lib.Dec.{eqb}
use borrow.Author.Tests.{eq-eqb, ne_eqb, eqb-true, eqb-false}
use Rattle.law.specs.Numbers.{hours_of_day}
use Rattle.law.specs.Words.{pick, table, sum_of}
use Rattle.law.proofs.Tests.{pick_case}
use Rattle.law.proofs.Tabled.{table_at, table_set}
use Rattle.law.proofs.Tallies.{tally-mono}
use Rattle.rules.specs.declared.Pair.{Pair}
use Rattle.rules.specs.declared.Survey.{Survey}
use Rattle.rules.specs.Records.{Day}
use Rattle.rules.specs.Slots.{valid, missing, stopped}
use Rattle.rules.specs.Hours.{bit, pair_at, slot_of, slots_of, run_masks, measured_masks, missing_of, lacking}
use Rattle.rules.specs.Lines.{StackLine, besides, surveyed, with_bit, with_pair, measured_with, at_day, put_survey, put_surveys, days_after}
use Rattle.rules.proofs.Days.{length_runs, length-measured, runs_at-day, measured_at-day, slots-at_day}

-- ---- a bit
pub bit-most : (h m : ℕ) → bit h m ≤ 1
unfolding bit
bit-most h m = le_of_suc-le-suc (mod-lt (m / 2 ^ h) (zero-lt-suc 1))

bit-or : (a b h : ℕ) → bit h (bit_or a b) ≡ max (bit h a) (bit h b)
unfolding bit
bit-or a b h =
    ap (λ (x : ℕ). x % 2) (or_shr a b h ∙ or_step (a / 2 ^ h) (b / 2 ^ h))
    ∙ digits_mod (bit_or (a / 2 ^ h / 2) (b / 2 ^ h / 2)) (let l : max (bit h a) (bit h b) < 2 = omega (arith, bit-most h a, bit-most h b) in l)

-- the bits of 2 ^ h: the one of its own hour, and no other
power_own : (h : ℕ) → bit h (2 ^ h) ≡ 1
unfolding bit
power_own h = ap (λ (x : ℕ). x / 2 ^ h % 2) (sym (one-mul (2 ^ h))) ∙ ap (λ (x : ℕ). x % 2) (shl-shr 1 h)

power_above : (k h : ℕ) → h < k → bit k (2 ^ h) ≡ 0
unfolding bit
power_above k h l = ap (λ (x : ℕ). x % 2) (div-eq_of_lt (pow-lt l))

power_below : (k h : ℕ) → k < h → bit k (2 ^ h) ≡ 0
unfolding bit
power_below k h l =
    let j = h - k - 1 in
    let e : h ≡ suc j + k = omega arith in
    ap (λ (x : ℕ). 2 ^ x / 2 ^ k % 2) e ∙ ap (λ (x : ℕ). x / 2 ^ k % 2) (pow-add 2 (suc j) k) ∙ ap (λ (x : ℕ). x % 2) (shl-shr (2 ^ suc j) k)
    ∙ ap (λ (x : ℕ). x % 2) (pow-suc 2 j) ∙ mul-mod_left (2 ^ j) 2

power_other : (k h : ℕ) → (k ≡ h → ⊥) → bit k (2 ^ h) ≡ 0
power_other k h n = by (dec_lt k h)
  where
    by : Dec (k < h) → bit k (2 ^ h) ≡ 0
    by (yes l) = power_below k h l
    by (no l) = power_above k h (omega arith)

pub with_own : (h m : ℕ) → bit h (with_bit h m) ≡ 1
unfolding with_bit
with_own h m = bit-or m (2 ^ h) h ∙ omega (arith, power_own h, bit-most h m)

pub with_other : (k h m : ℕ) → (k ≡ h → ⊥) → bit k (with_bit h m) ≡ bit k m
unfolding with_bit
with_other k h m n = bit-or m (2 ^ h) k ∙ omega (arith, power_other k h n)

with_least : (k h m : ℕ) → bit k m ≤ bit k (with_bit h m)
unfolding with_bit
with_least k h m = omega (arith, bit-or m (2 ^ h) k)

-- a bit that is set already
pub with_same : (h m : ℕ) → bit h m ≡ 1 → with_bit h m ≡ m
unfolding with_bit bit
with_same zero m e =
    or_step m 1 ∙ ap (λ (x : ℕ). x * 2 + max (m % 2) 1) (or_zero_r (m / 2)) ∙ omega (arith, ap (λ (x : ℕ). x % 2) (sym (div-one m)) ∙ e)
with_same (suc h) m e =
    or_step m (2 ^ suc h)
    ∙ ap₂ (λ (x y : ℕ). bit_or (m / 2) x * 2 + max (m % 2) y) (ap (λ (x : ℕ). x / 2) (sym (one-mul (2 ^ suc h))) ∙ shifted_half 1 h ∙ one-mul (2 ^ h)) (ap (λ (x : ℕ). x % 2) (sym (one-mul (2 ^ suc h))) ∙ shifted_even 1 h)
    ∙ ap (λ (x : ℕ). x * 2 + max (m % 2) 0) (with_same h (m / 2) (ap (λ (x : ℕ). x % 2) (shr-shr m 1 h ∙ ap (λ (x : ℕ). m / 2 ^ x) (one-add h)) ∙ e)) ∙ omega arith

-- a surveyed hour takes none of a day's running hours for missing
pub missing_with : (run h m : ℕ) → missing_of run (with_bit h m) ≤ missing_of run m
unfolding missing_of
missing_with run h m =
    tally-mono (λ k. bit k run - bit k (with_bit h m)) (λ k. bit k run - bit k m) hours_of_day
    (λ k l. let e : bit k run - bit k (with_bit h m) ≤ bit k run - bit k m = omega (arith, with_least k h m) in e)

-- ---- a day
module _ (h : ℕ) (p : Pair) (d : Day) where
  pair-own : h < hours_of_day → pair_at (measured_with h p d) h ≡ p
  unfolding pair_at measured_with with_pair pick
  pair-own l = table_at (λ k. pick (eqb k h) p (pair_at d k)) hours_of_day h _ l ∙ rw (eq-eqb h h refl)

  pair-other : (k : ℕ) → k < hours_of_day → (k ≡ h → ⊥) → pair_at (measured_with h p d) k ≡ pair_at d k
  unfolding pair_at measured_with with_pair pick
  pair-other k l n = table_at (λ i. pick (eqb i h) p (pair_at d i)) hours_of_day k _ l ∙ rw (ne_eqb k h n)

  slot_own : h < hours_of_day → slot_of (measured_with h p d) h ≡ valid p
  unfolding slot_of measured_with pick
  slot_own l =
      ap₂ (λ (b : ℕ) (q : Pair). pick (eqb b 1) (valid q) (pick (eqb (bit h d.masks.run) 1) missing stopped)) (with_own h d.masks.measured) (pair-own l)

  slot_other : (k : ℕ) → k < hours_of_day → (k ≡ h → ⊥) → slot_of (measured_with h p d) k ≡ slot_of d k
  unfolding slot_of measured_with
  slot_other k l n =
      ap₂ (λ (b : ℕ) (q : Pair). pick (eqb b 1) (valid q) (pick (eqb (bit k d.masks.run) 1) missing stopped)) (with_other k h d.masks.measured n) (pair-other k l n)

  pub slots-of : h < hours_of_day → table (slot_of (measured_with h p d)) hours_of_day ≡ set (table (slot_of d) hours_of_day) h (valid p)
  slots-of l = sym (table_set (slot_of d) (slot_of (measured_with h p d)) hours_of_day h (valid p) stopped l (slot_own l) slot_other)

-- ---- a survey put in
module _ (s : Survey) where
  abbrev day : ℕ
  day = s.hour / hours_of_day

  abbrev hour : ℕ
  hour = s.hour % hours_of_day

  hour_of-day : hour < hours_of_day
  hour_of-day = mod-lt s.hour (zero-lt-suc 23)

  at_length : (k : ℕ) (change : Day → Day) (ds : List Day) → length (at_day k change ds) ≡ length ds
  unfolding at_day
  at_length k change [] = refl
  at_length k change (d ∷ ds) =
      pick_case (λ (t : List Day). length t ≡ suc (length ds)) (eqb k (length ds)) (change d ∷ ds) (d ∷ at_day k change ds) (λ _. refl) (λ _. ap suc (at_length k change ds))

  pub put_length : (ds : List Day) → length (put_survey s ds) ≡ length ds
  unfolding put_survey
  put_length ds = at_length day (measured_with hour s.pair) ds

  pub put_runs : (ds : List Day) → run_masks (put_survey s ds) ≡ run_masks ds
  unfolding put_survey measured_with
  put_runs ds = runs_at-day day (measured_with hour s.pair) (λ d. refl) ds

  module _ (ds : List Day) (l : s.hour < hours_of_day * length ds) where
    in_days : day < length ds
    in_days = omega arith

    -- its bit is set in the measured mask of its day
    pub put_measured : measured_masks (put_survey s ds) ≡ set (measured_masks ds) day (with_bit hour (get_or (measured_masks ds) day 0))
    unfolding put_survey measured_with
    put_measured = measured_at-day day (measured_with hour s.pair) (with_bit hour) (λ d. refl) ds in_days

    -- its hour is valid, with its pair
    pub put_slots : slots_of (put_survey s ds) ≡ set (slots_of ds) s.hour (valid s.pair)
    unfolding put_survey
    put_slots =
        slots-at_day day (measured_with hour s.pair) hour (valid s.pair) hour_of-day (λ d. slots-of hour s.pair d hour_of-day) ds in_days
        ∙ ap (λ (i : ℕ). set (slots_of ds) i (valid s.pair)) (let e : hours_of_day * day + hour ≡ s.hour = omega arith in e)

  -- the missing hours: those of its day are counted anew
  lacking-at : (ds : List Day) (k : ℕ) → k < length ds
      → lacking (at_day k (measured_with hour s.pair) ds) + missing_of (get_or (run_masks ds) k 0) (get_or (measured_masks ds) k 0)
      ≡ lacking ds + missing_of (get_or (run_masks ds) k 0) (with_bit hour (get_or (measured_masks ds) k 0))
  unfolding at_day lacking sum_of measured_with run_masks measured_masks
  lacking-at [] k l = absurd (omega arith)
  lacking-at (d ∷ ds) k l =
      pick_case
      (λ (t : List Day). lacking t + missing_of (get_or (run_masks ds ++ (d.masks.run ∷ [])) k 0) (get_or (measured_masks ds ++ (d.masks.measured ∷ [])) k 0)
      ≡ missing_of d.masks.run d.masks.measured + lacking ds + missing_of (get_or (run_masks ds ++ (d.masks.run ∷ [])) k 0) (with_bit hour (get_or (measured_masks ds ++ (d.masks.measured ∷ [])) k 0)))
      (eqb k (length ds)) _ _
      (λ t.
      let z = eqb-true k (length ds) t in
      let r : get_or (run_masks ds ++ (d.masks.run ∷ [])) k 0 ≡ d.masks.run = ap (λ (i : ℕ). get_or (run_masks ds ++ (d.masks.run ∷ [])) i 0) (z ∙ sym (length_runs ds)) ∙ get_or-append_seam (run_masks ds) d.masks.run [] 0 in
      let m : get_or (measured_masks ds ++ (d.masks.measured ∷ [])) k 0 ≡ d.masks.measured = ap (λ (i : ℕ). get_or (measured_masks ds ++ (d.masks.measured ∷ [])) i 0) (z ∙ sym (length-measured ds)) ∙ get_or-append_seam (measured_masks ds) d.masks.measured [] 0 in
      rw (r, m) (omega arith))
      (λ t.
      let q : k < length ds = let z = eqb-false k (length ds) t in omega arith in
      let r = get_or-append (run_masks ds) (d.masks.run ∷ []) 0 k (omega (arith, length_runs ds)) in
      let m = get_or-append (measured_masks ds) (d.masks.measured ∷ []) 0 k (omega (arith, length-measured ds)) in
      rw (r, m) (omega (arith, lacking-at ds k q)))

  -- it finds no more than are missing
  pub found_most : (ds : List Day) → s.hour < hours_of_day * length ds
      → missing_of (get_or (run_masks ds) day 0) (get_or (measured_masks ds) day 0) - missing_of (get_or (run_masks ds) day 0) (with_bit hour (get_or (measured_masks ds) day 0)) ≤ lacking ds
  found_most ds l = omega (arith, lacking-at ds day (omega arith))

  pub put_lacking : (ds : List Day) → s.hour < hours_of_day * length ds
      → lacking (put_survey s ds) ≡ lacking ds - (missing_of (get_or (run_masks ds) day 0) (get_or (measured_masks ds) day 0) - missing_of (get_or (run_masks ds) day 0) (with_bit hour (get_or (measured_masks ds) day 0)))
  unfolding put_survey
  put_lacking ds l = omega (arith, lacking-at ds day (omega arith), missing_with (get_or (run_masks ds) day 0) hour (get_or (measured_masks ds) day 0))

  no_more : (ds : List Day) → lacking (at_day day (measured_with hour s.pair) ds) ≤ lacking ds
  unfolding at_day lacking sum_of measured_with
  no_more [] = omega arith
  no_more (d ∷ ds) =
      pick_case (λ (t : List Day). lacking t ≤ missing_of d.masks.run d.masks.measured + lacking ds) (eqb day (length ds)) _ _
      (λ _. omega (arith, missing_with d.masks.run hour d.masks.measured)) (λ _. omega (arith, no_more ds))

  -- a survey never adds a missing hour, wherever it lies
  pub put_no_more : (ds : List Day) → lacking (put_survey s ds) ≤ lacking ds
  unfolding put_survey
  put_no_more ds = no_more ds

-- ---- the surveys of a line
pub puts_length : (ss : List Survey) (ds : List Day) → length (put_surveys ss ds) ≡ length ds
unfolding put_surveys
puts_length [] ds = refl
puts_length (s ∷ ss) ds = put_length s (put_surveys ss ds) ∙ puts_length ss ds

puts_runs : (ss : List Survey) (ds : List Day) → run_masks (put_surveys ss ds) ≡ run_masks ds
unfolding put_surveys
puts_runs [] ds = refl
puts_runs (s ∷ ss) ds = put_runs s (put_surveys ss ds) ∙ puts_runs ss ds

puts_no_more : (ss : List Survey) (ds : List Day) → lacking (put_surveys ss ds) ≤ lacking ds
unfolding put_surveys
puts_no_more [] ds = omega arith
puts_no_more (s ∷ ss) ds = omega (arith, put_no_more s (put_surveys ss ds), puts_no_more ss ds)

module _ (x : StackLine) where
  pub days_length : length (days_after x) ≡ length x.days
  unfolding days_after
  days_length = puts_length (surveyed x) x.days

  pub days_runs : run_masks (days_after x) ≡ run_masks x.days
  unfolding days_after
  days_runs = puts_runs (surveyed x) x.days

  -- no survey adds a missing hour to a line
  pub days_no_more : lacking (days_after x) ≤ lacking x.days
  unfolding days_after
  days_no_more = puts_no_more (surveyed x) x.days

  -- before the first survey the days are as they were measured
  pub days_early : x.enforcement ≡ [] → x.plant ≡ [] → days_after x ≡ x.days
  unfolding days_after surveyed besides put_surveys
  days_early e q = rw (e, q)

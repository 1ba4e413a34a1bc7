-- A day record of the import, read as the account reads it: its kind and size, its masks, its pairs and its hours. Assumes nothing.
use mathlib.Core.Path.{◌≡◌, refl, sym, ap, ap₂, ◌∙◌}
use mathlib.Core.List.{List, ◌++◌}
use Prim.Native.Nat.{ℕ, zero, suc, ◌+◌, ◌*◌, ◌/◌, ◌%◌, ◌^◌, ◌<◌, ◌≤◌}
use native.Mathlib.Nat.{mul-one, mul_comm, mul_left_comm, pow-suc}
use native.Mathlib.Numerals.{one-add}
use native.Mathlib.Omega.{arith}
use lib.Pow.{shr-shr}
use lib.ListN.{length, length-append}
use lib.Dec.{eqb}
use borrow.Author.Tests.{le-leb}
use Rattle.law.specs.Numbers.{hours_of_day, per_mg, per_cubic_metre}
use Rattle.law.specs.Words.{need, pick, table, tally}
use Rattle.law.proofs.Tests.{pick_eq, pick_not_eq, pick_case}
use Rattle.law.proofs.Tabled.{table_length, table_at, table_same}
use Rattle.law.proofs.Tallies.{tally-front}
use Rattle.field.specs.Field.{u8, u16, u32}
use Rattle.field.specs.Bytes.{u32_bytes}
use Rattle.field.proofs.Laws.{u32-from}
use Rattle.field.proofs.Puts.{u32-sized, cells-sized, four_back, cell_back}
use Rattle.rules.specs.declared.Masks.{Masks}
use Rattle.rules.specs.declared.Pair.{Pair}
use Rattle.rules.specs.declared.Record.TheVariants.{OfDay}
use Rattle.rules.specs.Records.{Day, pair_of, masks_of, day_of, body_of, size_in, record_in}
use Rattle.rules.specs.Hours.{bit, pair_at, slot_of}
use Rattle.rules.specs.Slots.{valid, missing, stopped}
use Rattle.import.specs.Nearest.{ToNearest}
use Rattle.import.proofs.Back.{hundredths_back, whole_back}
use Rattle.import.specs.Line.{concentration_of, flow_of}
use Rattle.import.specs.Import.{line_from, run_bit, measured_bit, mask_of, concentration_cell, flow_cell, pattern_of, patterns_of, day_record}
use Rattle.import.proofs.Texts.{Sound, SoundDay, concentration-near, flow-near}
use Rattle.demands.specs.Imports.{HourKept}

-- ---- a number by its bits, each 0 or 1
bits_twice : (f : ℕ → ℕ) (n : ℕ) → tally (λ h. f h * 2 ^ suc h) n ≡ 2 * tally (λ h. f h * 2 ^ h) n
unfolding tally
bits_twice f zero = refl
bits_twice f (suc n) =
    let e : f n * 2 ^ suc n ≡ 2 * (f n * 2 ^ n) = ap (λ (x : ℕ). f n * x) (pow-suc 2 n) ∙ simp (mul_comm, mul_left_comm) in
    omega (arith, bits_twice f n, e)

bits_front : (f : ℕ → ℕ) (n : ℕ) → tally (λ h. f h * 2 ^ h) (suc n) ≡ f 0 + 2 * tally (λ h. f (suc h) * 2 ^ h) n
bits_front f n = tally-front (λ h. f h * 2 ^ h) n ∙ ap₂ (λ (x y : ℕ). x + y) (mul-one (f 0)) (bits_twice (λ h. f (suc h)) n)

bits_below : (f : ℕ → ℕ) (n : ℕ) → ((h : ℕ) → f h ≤ 1) → tally (λ h. f h * 2 ^ h) n < 2 ^ n
unfolding tally
bits_below f zero m = omega arith
bits_below f (suc n) m = omega (arith, bits_front f n, m 0, bits_below (λ h. f (suc h)) n (λ h. m (suc h)), pow-suc 2 n)

bit-half : (h m : ℕ) → bit h (m / 2) ≡ bit (suc h) m
unfolding bit
bit-half h m = ap (λ (x : ℕ). x % 2) (shr-shr m 1 h ∙ ap (λ (x : ℕ). m / 2 ^ x) (one-add h))

bits_at : (f : ℕ → ℕ) (n k : ℕ) → ((h : ℕ) → f h ≤ 1) → k < n → bit k (tally (λ h. f h * 2 ^ h) n) ≡ f k
unfolding bit
bits_at f zero k m l = absurd (omega arith)
bits_at f (suc n) zero m l = omega (arith, bits_front f n, m 0)
bits_at f (suc n) (suc k) m l =
    sym (bit-half k (tally (λ h. f h * 2 ^ h) (suc n)))
    ∙ ap (bit k) (let e : tally (λ h. f h * 2 ^ h) (suc n) / 2 ≡ tally (λ h. f (suc h) * 2 ^ h) n = omega (arith, bits_front f n, m 0) in e)
    ∙ bits_at (λ h. f (suc h)) n k (λ h. m (suc h)) (omega arith)

pub run_most : (s : List ℕ) → run_bit s ≤ 1
unfolding run_bit
run_most s = pick_case (λ (n : ℕ). n ≤ 1) _ 0 1 (λ _. omega arith) (λ _. omega arith)

pub measured_most : (s : List ℕ) → measured_bit s ≤ 1
unfolding measured_bit
measured_most s = pick_case (λ (n : ℕ). n ≤ 1) _ 1 0 (λ _. omega arith) (λ _. omega arith)

module _ (bit_of : List ℕ → ℕ) (most : (s : List ℕ) → bit_of s ≤ 1) (s : List ℕ) where
  pub mask_below : mask_of bit_of s < 2 ^ 24
  unfolding mask_of
  mask_below = bits_below (λ h. bit_of (line_from h s)) hours_of_day (λ h. most (line_from h s))

  pub mask_bit : (h : ℕ) → h < hours_of_day → bit h (mask_of bit_of s) ≡ bit_of (line_from h s)
  unfolding mask_of
  mask_bit h l = bits_at (λ k. bit_of (line_from k s)) hours_of_day h (λ k. most (line_from k s)) l

-- ---- the record of a day, with what stands behind it
abbrev pub masks_as : ℕ → List ℕ → Masks
masks_as day s = record { day = day; run = mask_of run_bit s; measured = mask_of measured_bit s }

abbrev pub pair_as : (ℕ → ℕ → ℕ) → List ℕ → Pair
pair_as near l = record { concentration = concentration_cell near l; flow = flow_cell near l }

unfoldable pub day_as : (ℕ → ℕ → ℕ) → ℕ → List ℕ → Day
day_as near day s = record { masks = masks_as day s; pairs = table (λ h. pair_as near (line_from h s)) hours_of_day }

pub record_long : (near : ℕ → ℕ → ℕ) (day : ℕ) (s : List ℕ) → length (day_record near day s) ≡ 205
unfolding day_record u32_bytes patterns_of
record_long near day s = omega (arith, cells-sized u32_bytes 4 u32-sized (patterns_of near s), table_length (pattern_of near s) 48)

module _ (near : ℕ → ℕ → ℕ) (day : ℕ) (s rest : List ℕ) where
  pub masks_read : masks_of (day_record near day s ++ rest) ≡ masks_as day s
  unfolding masks_of day_record u32_bytes u32 u16 u8
  masks_read = λ i. record {
    day = day;
    run = four_back (mask_of run_bit s) (omega (arith, mask_below run_bit run_most s)) i;
    measured = four_back (mask_of measured_bit s) (omega (arith, mask_below measured_bit measured_most s)) i;
  }

  pub size_read : size_in (day_record near day s ++ rest) ≡ 205
  unfolding size_in day_record u16 u8
  size_read = refl

  pub record_read : record_in (day_record near day s ++ rest) ≡ OfDay (masks_of (day_record near day s ++ rest))
  unfolding record_in size_in body_of need pick day_record u16 u8
  record_read =
      let r = day_record near day s ++ rest in
      let n : 205 ≤ length r = omega (arith, length-append (day_record near day s) rest, record_long near day s) in
      rw (le-leb 4 (length r) (omega arith), le-leb 205 (length r) n)

-- the pairs of a day whose lines are sound
module _ (near : ℕ → ℕ → ℕ) (is : ToNearest near) (room from : ℕ) (s : List ℕ) (sound : SoundDay room from s) (day : ℕ) (rest : List ℕ) where
  pattern_fits : (k : ℕ) → k < 48 → pattern_of near s k < 2 ^ 32
  unfolding pattern_of concentration_cell flow_cell
  pattern_fits k l =
      let P : ℕ → Type 0 = λ n. n < 2 ^ 32 in
      let h = sound (k / 2) (omega arith) in
      pick_case P (eqb (k % 2) 0) _ _
      (λ _. pick_case P _ _ 0 (λ _. omega (arith, (concentration-near near is room _ _ h).finite)) (λ _. omega arith))
      (λ _. pick_case P _ _ 0 (λ _. omega (arith, (flow-near near is room _ _ h).finite)) (λ _. omega arith))

  cell_read : (k : ℕ) → k < 48 → u32 (day_record near day s ++ rest) (13 + 4 * k) ≡ pattern_of near s k
  unfolding day_record u32_bytes patterns_of
  cell_read k l =
      let is = table_at (pattern_of near s) 48 k 0 l in
      sym (u32-from 13 (day_record near day s ++ rest) (4 * k))
      ∙ cell_back (patterns_of near s) rest k (omega (arith, table_length (pattern_of near s) 48)) (omega (arith, is, pattern_fits k l))
      ∙ is

  pair_read : (h : ℕ) → h < hours_of_day → pair_of (day_record near day s ++ rest) (13 + 8 * h) ≡ pair_as near (line_from h s)
  unfolding pair_of pattern_of
  pair_read h l =
      let r = day_record near day s ++ rest in
      let even : (2 * h) / 2 ≡ h = omega arith in
      let odd : (2 * h + 1) / 2 ≡ h = omega arith in
      let c : u32 r (13 + 8 * h) ≡ concentration_cell near (line_from h s) =
      ap (u32 r) (let e : 13 + 8 * h ≡ 13 + 4 * (2 * h) = omega arith in e) ∙ cell_read (2 * h) (omega arith)
      ∙ sym (pick_eq _ _ _ ((2 * h) % 2) 0 (omega arith) refl) ∙ ap (λ (k : ℕ). concentration_cell near (line_from k s)) even in
      let f : u32 r (13 + 8 * h + 4) ≡ flow_cell near (line_from h s) =
      ap (u32 r) (let e : 13 + 8 * h + 4 ≡ 13 + 4 * (2 * h + 1) = omega arith in e) ∙ cell_read (2 * h + 1) (omega arith)
      ∙ sym (pick_not_eq _ _ _ ((2 * h + 1) % 2) 0 (λ z. omega arith) refl) ∙ ap (λ (k : ℕ). flow_cell near (line_from k s)) odd in
      λ i. record { concentration = c i; flow = f i }

  pub day_read : day_of (day_record near day s ++ rest) ≡ day_as near day s
  unfolding day_of day_as
  day_read = λ i. record { masks = masks_read near day s rest i; pairs = table_same _ _ hours_of_day pair_read i }

-- ---- the hours of the day
module _ (near : ℕ → ℕ → ℕ) (day : ℕ) (s : List ℕ) (h : ℕ) (l : h < hours_of_day) where
  pub pair-as : pair_at (day_as near day s) h ≡ pair_as near (line_from h s)
  unfolding pair_at day_as
  pair-as = table_at (λ k. pair_as near (line_from k s)) hours_of_day h (record { concentration = 0; flow = 0 }) l

  pub measured_as : bit h (day_as near day s).masks.measured ≡ measured_bit (line_from h s)
  unfolding day_as
  measured_as = mask_bit measured_bit measured_most s h l

  pub run_as : bit h (day_as near day s).masks.run ≡ run_bit (line_from h s)
  unfolding day_as
  run_as = mask_bit run_bit run_most s h l

  slot_as : slot_of (day_as near day s) h
      ≡ pick (eqb (measured_bit (line_from h s)) 1) (valid (pair_as near (line_from h s))) (pick (eqb (run_bit (line_from h s)) 1) missing stopped)
  unfolding slot_of
  slot_as = rw (pair-as, measured_as, run_as)

  pub hour_kept : ToNearest near → (room i : ℕ) → Sound room i (line_from h s) → HourKept (line_from h s) (slot_of (day_as near day s) h)
  unfolding measured_bit run_bit concentration_cell flow_cell pick
  hour_kept is room i sound =
      let t = line_from h s in
      let c = concentration-near near is room i t sound in
      let f = flow-near near is room i t sound in
      let p : Pair = record { concentration = near (concentration_of t) per_mg; flow = near (flow_of t) per_cubic_metre } in
      record {
        measured = λ e. (p, slot_as ∙ rw e, c, f, hundredths_back _ _ sound.concentration c, whole_back _ _ sound.flow f);
        lacking = λ e. slot_as ∙ rw e;
        idle = λ e. slot_as ∙ rw e;
      }

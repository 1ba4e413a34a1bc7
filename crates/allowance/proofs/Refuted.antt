-- What the edits in must-fail/ say is not only refused but false, each of a line of Cases.antt, by computation. Those of stacks the account accepts
-- (`taken_in`). Assumes nothing.
use mathlib.Core.Bool.{Bool, true, false}
use mathlib.Core.List.{List, [], map}
use mathlib.Core.Path.{◌≡◌, refl}
use Prim.Native.Nat.{ℕ, ◌+◌, ◌*◌, ◌/◌, ◌^◌}
use lib.ListN.{length}
use lib.Dec.{leb}
use Rattle.law.specs.Numbers.{per_gram, per_gram_of_water}
use Rattle.law.specs.Words.{sum_of, apart}
use Rattle.reading.specs.Reading.{reading, exact}
use Rattle.rules.specs.declared.Pair.{Pair}
use Rattle.rules.specs.Slots.{Slot, map_slot, entries}
use Rattle.rules.specs.Hours.{slots_of}
use Rattle.rules.specs.Lines.{StackLine, hours, surveyed}
use Rattle.rules.specs.Measured.{Measured, of_stack, of_outfall}
use Rattle.rules.specs.Fill.{Values, zeroes, filled, unfilled, fill_both}
use Rattle.rules.specs.Tables.{coefficients_of}
use Rattle.rules.specs.Grams.{slots, hourly, amount, survey_values, fuel_top, fuel_bottom, grams, outfall_grams}
use Rattle.allowance.specs.Exact.{exact_of, twice, twice_mean, twice_both, exact_fill, exact_automatic, exact_manual}
use Rattle.allowance.specs.Allowance.{of_measured, of_filled, in_air, in_water, automatic_allowance, manual_allowance}
use Rattle.allowance.specs.Opened.{allowances}
use Rattle.allowance.proofs.Cases.{cases, high, low, overruled, manually, coal, water}

-- method 1 with other units of a gram, other grams, another X, other than 2 halves of a gram and another allowance: whether the inequality holds
near : ℕ → ℕ → ℕ → ℕ → ℕ → Bool
near units G X halves allowance = leb (4 * apart (units * G * 2 ^ 300) X) ((halves * units + allowance) * 2 ^ 300)

-- method 2 with another n on the right and another allowance
near_manual : Measured → ℕ → ℕ → ℕ → Bool
near_manual m G n allowance = leb (4 * apart (length m.surveys * m.units * G * 2 ^ 298) (exact_manual m)) ((2 * (n * m.units) + allowance) * 2 ^ 298)

-- another allowance of a measured and of a filled hour
allowing : (Values → ℕ) → (Values → ℕ) → StackLine → ℕ
allowing measured fill x = sum_of (λ n. n) (entries measured (λ gap before after. fill (filled gap before after)) 0 [] (slots (of_stack x)))

-- another exact value of a pair, another mean, other hours
figure : (Pair → Values) → (ℕ → ℕ → ℕ) → List (Slot Pair) → ℕ
figure value mean slots = sum_of amount (entries twice_both (λ gap before after. fill_both mean twice gap before after) zeroes [] (map (map_slot value) slots))

tenths : Pair → Values
tenths p = record { c = 10 * exact (reading p.concentration); l = exact (reading p.flow) }

-- a line's hours as they were before step 1
unreplaced : StackLine → Measured
unreplaced x = record { units = per_gram; after = slots_of x.days; surveys = surveyed x; ran = (of_stack x).ran }

-- X and the allowance as they are
exact_air : StackLine → ℕ
exact_air x = exact_automatic exact_fill (of_stack x)

allowed_air : StackLine → ℕ
allowed_air x = automatic_allowance in_air (of_stack x)

-- with nothing altered each holds
record Sound : Type 0 where
  of_high : near per_gram (grams high) (figure exact_of twice_mean (hours high)) 2 (allowing of_measured of_filled high) ≡ true
  of_low : near per_gram (grams low) (figure exact_of twice_mean (hours low)) 2 (allowing of_measured of_filled low) ≡ true
  of_overruled : near per_gram (grams overruled) (figure exact_of twice_mean (hours overruled)) 2 (allowing of_measured of_filled overruled) ≡ true
  of_manually : near_manual (of_stack manually) (grams manually) (length (surveyed manually)) (manual_allowance (of_stack manually)) ≡ true
  of_water : near per_gram_of_water (outfall_grams water) (exact_automatic unfilled (of_outfall water)) 2 (automatic_allowance in_water (of_outfall water)) ≡ true

sound : Sound
unfolding cases allowances near near_manual allowing figure
sound = record { of_high = refl; of_low = refl; of_overruled = refl; of_manually = refl; of_water = refl }

-- and each edit alters one thing
record Refuted : Type 0 where
  filled-half : near per_gram (grams high) (exact_air high) 2 (allowing of_measured (λ v. 2 * (v.c + v.l + 1)) high) ≡ false
  filled-as_measured : near per_gram (grams high) (exact_air high) 2 (allowing of_measured of_measured high) ≡ false
  measured_less : near per_gram (grams low) (exact_air low) 2 (allowing (λ v. 2 * (v.c + v.l) + 0) of_filled low) ≡ false
  quarter_for_half : near per_gram (grams high) (exact_air high) 1 (allowed_air high) ≡ false
  grams-down : near per_gram (sum_of amount (hourly filled (of_stack overruled)) / per_gram) (exact_air overruled) 2 (allowed_air overruled) ≡ false
  exact-mean_one_sided : near per_gram (grams high) (figure exact_of (λ b a. b + b) (hours high)) 2 (allowed_air high) ≡ false
  exact-tenths : near per_gram (grams high) (figure tenths twice_mean (hours high)) 2 (allowed_air high) ≡ false
  survey-ignored : near per_gram (grams overruled) (exact_automatic exact_fill (unreplaced overruled)) 2 (automatic_allowance in_air (unreplaced overruled)) ≡ false
  manual-hours : near_manual (of_stack manually) (grams manually) 1 (manual_allowance (of_stack manually)) ≡ false
  manual-running : near_manual (of_stack manually) (grams manually) (length (surveyed manually)) (1 * sum_of (λ s. of_measured (survey_values s)) (surveyed manually))
      ≡ false
  quarter_gram : leb (4 * apart (fuel_bottom (coefficients_of coal.head) * grams coal) (fuel_top (coefficients_of coal.head) coal.batches)) (fuel_bottom (coefficients_of coal.head)) ≡ false
  water_air_units : near per_gram (outfall_grams water) (exact_automatic unfilled (of_outfall water)) 2 (automatic_allowance in_water (of_outfall water)) ≡ false

refuted : Refuted
unfolding cases allowances near near_manual allowing figure tenths unreplaced exact_air allowed_air
refuted =
    record {
      filled-half = refl;
      filled-as_measured = refl;
      measured_less = refl;
      quarter_for_half = refl;
      grams-down = refl;
      exact-mean_one_sided = refl;
      exact-tenths = refl;
      survey-ignored = refl;
      manual-hours = refl;
      manual-running = refl;
      quarter_gram = refl;
      water_air_units = refl;
    }

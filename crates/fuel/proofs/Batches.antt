-- A line's batches, taken in one by one, the newest first: the kg, the largest sulphur and the sum of kg x ash stay in range, and are enough for the
-- figures. Assumes nothing.
use mathlib.Core.Path.{◌≡◌, refl}
use mathlib.Core.List.{List, [], ◌∷◌}
use Prim.Native.Nat.{ℕ, ◌+◌, ◌*◌, ◌≤◌}
use native.Mathlib.Nat.{mul-le-mul_left, mul_comm, mul-add, mul-zero}
use native.Mathlib.Omega.{arith}
use Rattle.law.specs.Numbers.{most_sulphur, most_fuel}
use Rattle.law.specs.Words.{sum_of, largest}
use Rattle.law.proofs.Halves.{spread}
use Rattle.std.specs.Prelude.{Option, Some, None}
use Rattle.rules.specs.declared.Batch.{Batch}
use Rattle.rules.specs.declared.Coefficients.{Coefficients}
use Rattle.rules.specs.declared.Coefficients.TheVariants.{Balance, Oxides, Dust}
use Rattle.rules.specs.Lines.{fuel}
use Rattle.rules.specs.Grams.{sulphur_of, fuel_top}
use Rattle.fuel.specs.Fuel.{ash_of, top_of, InRange}

-- ---- no batch, and a batch more
pub in_range_none : InRange []
unfolding fuel sulphur_of ash_of sum_of largest
in_range_none = record { kg = omega arith; sulphur = omega arith; ash = omega arith }

pub in_range_more : (b : Batch) (batches : List Batch) → InRange batches → b.kg + fuel batches ≤ most_fuel → b.sulphur ≤ most_sulphur → b.ash ≤ 10_000 → InRange (b ∷ batches)
unfolding fuel sulphur_of ash_of sum_of largest
in_range_more b batches r l s a =
    record {
      kg = l;
      sulphur = omega (arith, r.sulphur);
      ash = omega (arith, r.ash, mul-le-mul_left b.kg a, mul-add 10_000 b.kg (fuel batches), mul_comm b.kg 10_000);
    }

-- ---- the sums are enough
-- a batch more, over the sums of the others
dust_step : (a b kg ash weighted burnt top : ℕ) → a * weighted + 100 * b * burnt ≡ top → a * (kg * ash + weighted) + 100 * b * (kg + burnt) ≡ kg * (a * ash + 100 * b) + top
dust_step a b kg ash weighted burnt top e = simp spread (omega (arith, simp spread at e))

dust_top : (a b : ℕ) (batches : List Batch) → a * ash_of batches + 100 * b * fuel batches ≡ fuel_top (Some (Dust a b)) batches
unfolding ash_of fuel fuel_top sum_of
dust_top a b [] = simp mul-zero
dust_top a b (x ∷ batches) = dust_step a b x.kg x.ash (ash_of batches) (fuel batches) (fuel_top (Some (Dust a b)) batches) (dust_top a b batches)

pub top_is : (entry : Option Coefficients) (batches : List Batch) → top_of entry (fuel batches) (sulphur_of batches) (ash_of batches) ≡ fuel_top entry batches
unfolding top_of fuel_top
top_is (Some (Balance q k)) batches = refl
top_is (Some (Oxides coefficient)) batches = refl
top_is (Some (Dust a b)) batches = dust_top a b batches
top_is None batches = refl

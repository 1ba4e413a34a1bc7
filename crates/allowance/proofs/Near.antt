-- DEMAND 3: the grams of every line are within the stated allowance of the exact figure, by one law for air and water. Acceptance is not needed for it: a
-- reading's rounded value is within half a unit of its exact one, whatever the bit pattern. Assumes nothing.
use mathlib.Core.Path.{◌≡◌, ap, ◌∙◌}
use Prim.Native.Nat.{ℕ, ◌+◌, ◌*◌, ◌^◌, ◌<◌, ◌≤◌}
use native.Mathlib.Nat.{one-mul, mul-pos}
use native.Mathlib.Omega.{arith}
use mathlib.Core.List.{map}
use lib.ListN.{length}
use lib.Pow.{pow-add}
use Rattle.law.specs.Words.{halves_up, apart}
use Rattle.law.proofs.Halves.{Within, spread, halves_within}
use Rattle.reading.specs.Reading.{reading}
use Rattle.reading.proofs.Laws.{half_a_unit}
use Rattle.rules.specs.declared.Pair.{Pair}
use Rattle.rules.specs.Slots.{map_slot}
use Rattle.rules.specs.Lines.{StackLine}
use Rattle.rules.specs.Outfalls.{OutfallLine, Line, OfStack, OfOutfall}
use Rattle.rules.specs.Measured.{Measured, of_stack, of_outfall}
use Rattle.rules.specs.Method.{method}
use Rattle.rules.specs.Tables.{coefficients_of}
use Rattle.rules.specs.Grams.{values_of, slots, hourly, automatic, survey_values, manual, fuel_top, fuel_bottom, fuel_grams, grams, outfall_grams}
use Rattle.allowance.specs.Exact.{exact_of, exact_hourly, exact_automatic, exact_survey, exact_manual}
use Rattle.allowance.specs.Allowance.{Filling, in_air, in_water, automatic_allowance, manual_allowance}
use Rattle.allowance.specs.Allowance.{AutomaticNear, ManualNear, FuelNear, StackNear, OutfallNear, Near, EveryLineNear}
use Rattle.rules.proofs.Alike.{slots-alike, slots-self}
use Rattle.allowance.proofs.Account.{Halves, FillsOff, automatic-off, manual-off}
use Rattle.allowance.proofs.Fills.{fills_off, unfilled-off}
use Rattle.rules.proofs.Grams.{bottom_some}
use Rattle.rules.proofs.Methods.{grams-automatic, grams-manual, grams-fuel, manual-surveyed, outfall_grams-automatic, outfall_grams-manual, outfall_surveyed}

-- ---- the readings, in units of 2^-149
halves_of : (p : Pair) → Halves (2 ^ 149) (values_of p) (exact_of p)
unfolding values_of exact_of
halves_of p = (half_a_unit _ (reading p.concentration), simp one-mul at (half_a_unit 1 (reading p.flow)))

-- ---- from a distance in units of Q to the statement, at W = 2^300 and at W = 2^298: G are the stated grams, H the method's, b is the allowance
at-300 : (Q W D G H X b : ℕ) → W ≡ 4 * Q → G ≡ H → Within (Q * b) (4 * Q * (D * H)) X → 4 * apart (D * G * W) X ≤ b * W
unfolding apart
at-300 Q W D G H X b w g h = rw (w, g) (simp spread (omega (arith, simp spread at h.0, simp spread at h.1)))

at-298 : (Q W D G H X b : ℕ) → W ≡ Q → G ≡ H → Within (Q * b) (4 * Q * (D * H)) (4 * X) → 4 * apart (D * G * W) X ≤ b * W
unfolding apart
at-298 Q W D G H X b w g h = rw (w, g) (simp spread (omega (arith, simp spread at h.0, simp spread at h.1)))

-- ---- method 1, for every unit of a gram and every filling within its allowance
pub automatic-near : (f : Filling) (m : Measured) (G : ℕ) → FillsOff (2 ^ 149) f.values f.exactly f.allows → 0 < m.units → G ≡ automatic f.values m
    → AutomaticNear f m G
unfolding AutomaticNear automatic_allowance exact_automatic exact_hourly automatic hourly slots
automatic-near f m G fills u g =
    at-300 (2 ^ 149 * 2 ^ 149) (2 ^ 300) m.units G (automatic f.values m) (exact_automatic f.exactly m) (2 * m.units + automatic_allowance f m)
    (pow-add 2 2 298 ∙ ap (λ (w : ℕ). 4 * w) (pow-add 2 149 149)) g
    (automatic-off (2 ^ 149) f.values f.exactly f.allows fills m.units (slots m) (map (map_slot exact_of) m.after) u
    (slots-alike (Halves (2 ^ 149)) values_of exact_of (λ p q h. h) (slots-self (λ p q. Halves (2 ^ 149) (values_of p) (exact_of q)) halves_of m.after)))

-- ---- method 2
pub manual-near : (m : Measured) (G : ℕ) → 0 < m.units → 0 < length m.surveys → G ≡ manual m → ManualNear m G
unfolding ManualNear manual_allowance exact_manual exact_survey manual survey_values
manual-near m G u n g =
    let D = length m.surveys * m.units in
    at-298 (2 ^ 149 * 2 ^ 149) (2 ^ 298) D G (manual m) (exact_manual m) (2 * D + manual_allowance m) (pow-add 2 149 149) g
    (manual-off (2 ^ 149) survey_values exact_survey (λ s. halves_of s.pair) D m.ran m.surveys (mul-pos n u))

-- ---- methods 3 and 4
half_a_gram : (N D G : ℕ) → 0 < D → G ≡ halves_up N D → 2 * apart (D * G) N ≤ D
unfolding apart
half_a_gram N D G p g = let h = halves_within N D p in rw g (omega (arith, h.0, h.1))

fuel-near : (x : StackLine) → (method x ≡ 1 → ⊥) → (method x ≡ 2 → ⊥) → FuelNear x
unfolding FuelNear fuel_grams
fuel-near x a b =
    let entry = coefficients_of x.head in
    half_a_gram (fuel_top entry x.batches) (fuel_bottom entry) (grams x) (bottom_some entry) (grams-fuel x a b)

-- ---- every line there is, and so every line of every accepted file
pub stack_near : (x : StackLine) → StackNear x
stack_near x =
    record {
      automatic = λ m. automatic-near in_air (of_stack x) (grams x) (fills_off (2 ^ 149)) (omega arith) (grams-automatic x m);
      manual = λ m. manual-near (of_stack x) (grams x) (omega arith) (manual-surveyed x m) (grams-manual x m);
      balance = λ m. fuel-near x (λ h. omega arith) (λ h. omega arith);
      coefficient = λ m. fuel-near x (λ h. omega arith) (λ h. omega arith);
    }

pub outfall_near : (x : OutfallLine) → OutfallNear x
outfall_near x =
    record {
      automatic = λ m. automatic-near in_water (of_outfall x) (outfall_grams x) (unfilled-off (2 ^ 149)) (omega arith) (outfall_grams-automatic x m);
      manual = λ m. manual-near (of_outfall x) (outfall_grams x) (omega arith) (outfall_surveyed x m) (outfall_grams-manual x m);
    }

pub near : (x : Line) → Near x
near (OfStack x) = stack_near x
near (OfOutfall x) = outfall_near x

pub every_line_near : EveryLineNear
every_line_near file lines accepted x among = near x

-- "G the grams, c and l the rounded or filled values": how far the grams may lie from the exact figure, stated over demand 2's own definitions.
use Rattle.std.specs.Prelude.{ℕ, ◌+◌, ◌*◌, ◌^◌, ◌≤◌, ◌≡◌, length}
use mathlib.Core.List.{List, [], Memᴰ}
use Rattle.law.specs.Words.{sum_of, apart}
use Rattle.rules.specs.Slots.{entries}
use Rattle.rules.specs.Lines.{StackLine}
use Rattle.rules.specs.Outfalls.{OutfallLine, Line, OfStack, OfOutfall}
use Rattle.rules.specs.Measured.{Measured, of_stack, of_outfall}
use Rattle.rules.specs.Method.{method, outfall_method}
use Rattle.rules.specs.Fill.{Values, filled, unfilled}
use Rattle.rules.specs.Tables.{coefficients_of}
use Rattle.rules.specs.Grams.{slots, survey_values, fuel_top, fuel_bottom, grams, outfall_grams}
use Rattle.rules.specs.Walk.{Accepted, outcome}
use Rattle.allowance.specs.Exact.{exact_fill, exact_automatic, exact_manual}

-- "2(c + l) + 1 for each measured hour"
unfoldable pub of_measured : Values → ℕ
of_measured v = 2 * (v.c + v.l) + 1

-- "4(c + l + 1) for each filled one"
unfoldable pub of_filled : Values → ℕ
of_filled v = 4 * (v.c + v.l + 1)

-- the allowance of a fill, by its gap and the valid hours before and after it
unfoldable pub of_fill : ℕ → List Values → List Values → ℕ
of_fill gap before after = of_filled (filled gap before after)

-- what a missing hour or day holds: its values, its exact values, its allowance
pub record Filling : Type 0 where
  pub values : ℕ → List Values → List Values → Values
  pub exactly : ℕ → List Values → List Values → Values
  pub allows : ℕ → List Values → List Values → ℕ

-- of a stack the fill; of an outfall nothing: "no day is filled"
abbrev pub in_air : Filling
in_air = record { values = filled; exactly = exact_fill; allows = of_fill }

abbrev pub in_water : Filling
in_water = record { values = unfilled; exactly = unfilled; allows = λ gap before after. 0 }

-- method 1: the allowance of every hour or day, added up
unfoldable pub automatic_allowance : Filling → Measured → ℕ
automatic_allowance f m = sum_of (λ n. n) (entries of_measured f.allows 0 [] (slots m))

-- method 2: "running times the sum of 2(c + l) + 1 over surveyed hours"
unfoldable pub manual_allowance : Measured → ℕ
manual_allowance m = m.ran * sum_of (λ s. of_measured (survey_values s)) m.surveys

-- "4 x |100,000 G - X| is at most 200,000, plus ..", times 2^300; of water with "100 for 100,000, 200 for 200,000"
unfoldable pub AutomaticNear : Filling → Measured → ℕ → Type 0
AutomaticNear f m G =
    4 * apart (m.units * G * 2 ^ 300) (exact_automatic f.exactly m) ≤ (2 * m.units + automatic_allowance f m) * 2 ^ 300

-- "4n x |100,000 G - X| is at most 200,000 n plus ..", times 2^298
unfoldable pub ManualNear : Measured → ℕ → Type 0
ManualNear m G =
    4 * apart (length m.surveys * m.units * G * 2 ^ 298) (exact_manual m) ≤ (2 * (length m.surveys * m.units) + manual_allowance m) * 2 ^ 298

-- "methods 3 and 4: half a gram"
unfoldable pub FuelNear : StackLine → Type 0
FuelNear x =
    2 * apart (fuel_bottom (coefficients_of x.head) * grams x) (fuel_top (coefficients_of x.head) x.batches) ≤ fuel_bottom (coefficients_of x.head)

-- the allowance of a line of a stack, by its method
pub record StackNear (x : StackLine) : Type 0 where
  pub automatic : method x ≡ 1 → AutomaticNear in_air (of_stack x) (grams x)
  pub manual : method x ≡ 2 → ManualNear (of_stack x) (grams x)
  pub balance : method x ≡ 3 → FuelNear x
  pub coefficient : method x ≡ 4 → FuelNear x

-- of a line of an outfall, which has no other method
pub record OutfallNear (x : OutfallLine) : Type 0 where
  pub automatic : outfall_method x ≡ 1 → AutomaticNear in_water (of_outfall x) (outfall_grams x)
  pub manual : outfall_method x ≡ 2 → ManualNear (of_outfall x) (outfall_grams x)

-- of either
abbrev pub Near : Line → Type 0
Near (OfStack x) = StackNear x
Near (OfOutfall x) = OutfallNear x

-- demand 3: every line of every accepted file
abbrev pub EveryLineNear : Type 0
EveryLineNear = (file : List ℕ) (lines : List Line) → outcome file ≡ Accepted lines → (x : Line) → Memᴰ x lines → Near x

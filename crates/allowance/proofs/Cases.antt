-- The theorem is not empty: the line of document 01's example, and lines of stacks and outfalls whose errors all push the same way, so that hardly
-- anything of the allowance is left; the walk accepts those of stacks. Every number is computed from the definitions. Assumes nothing.
use mathlib.Core.List.{List, [], ◌∷◌, ◌++◌, reverse}
use mathlib.Core.Path.{◌≡◌, refl}
use Prim.Native.Nat.{ℕ, zero, suc, ◌+◌, ◌*◌, ◌/◌, ◌%◌, ◌^◌}
use lib.ListN.{length, replicate}
use Rattle.law.specs.Words.{apart}
use Rattle.rules.specs.declared.Head.{Head}
use Rattle.rules.specs.declared.Pair.{Pair}
use Rattle.rules.specs.declared.WaterDay.{WaterDay}
use Rattle.rules.specs.declared.Survey.{Survey}
use Rattle.rules.specs.declared.Batch.{Batch}
use Rattle.rules.specs.Records.{Day}
use Rattle.rules.specs.Lines.{StackLine}
use Rattle.rules.specs.Outfalls.{OutfallLine, OfStack}
use Rattle.rules.specs.Measured.{Measured, of_stack, of_outfall}
use Rattle.rules.specs.Method.{method, outfall_method}
use Rattle.rules.specs.Tables.{coefficients_of}
use Rattle.rules.specs.Grams.{fuel_top, fuel_bottom, grams, outfall_grams}
use Rattle.rules.specs.Walk.{Accepted, outcome}
use Rattle.allowance.specs.Exact.{exact_automatic, exact_manual}
use Rattle.allowance.specs.Allowance.{Filling, in_air, in_water, automatic_allowance, manual_allowance}
use Rattle.allowance.specs.Opened.{allowances}

-- ---- what a case computes: the method, the grams, the exact figure, the allowance, and both sides of the inequality
record Automatic (f : Filling) (m : Measured) (way stated G X allowance left right : ℕ) : Type 0 where
  by : way ≡ 1
  states : stated ≡ G
  figure : exact_automatic f.exactly m ≡ X
  allows : automatic_allowance f m ≡ allowance
  off : 4 * apart (m.units * stated * 2 ^ 300) (exact_automatic f.exactly m) ≡ left
  bound : (2 * m.units + automatic_allowance f m) * 2 ^ 300 ≡ right

record Manual (m : Measured) (way stated G X allowance left right : ℕ) : Type 0 where
  by : way ≡ 2
  states : stated ≡ G
  figure : exact_manual m ≡ X
  allows : manual_allowance m ≡ allowance
  off : 4 * apart (length m.surveys * m.units * stated * 2 ^ 298) (exact_manual m) ≡ left
  bound : (2 * (length m.surveys * m.units) + manual_allowance m) * 2 ^ 298 ≡ right

-- of a stack and of an outfall
abbrev Air : StackLine → ℕ → ℕ → ℕ → ℕ → ℕ → Type 0
Air x = Automatic in_air (of_stack x) (method x) (grams x)

abbrev Water : OutfallLine → ℕ → ℕ → ℕ → ℕ → ℕ → Type 0
Water x = Automatic in_water (of_outfall x) (outfall_method x) (outfall_grams x)

abbrev ManualAir : StackLine → ℕ → ℕ → ℕ → ℕ → ℕ → Type 0
ManualAir x = Manual (of_stack x) (method x) (grams x)

abbrev ManualWater : OutfallLine → ℕ → ℕ → ℕ → ℕ → ℕ → Type 0
ManualWater x = Manual (of_outfall x) (outfall_method x) (outfall_grams x)

record Fuel (x : StackLine) (G top left right : ℕ) : Type 0 where
  by : method x ≡ 4
  states : grams x ≡ G
  figure : fuel_top (coefficients_of x.head) x.batches ≡ top
  off : 2 * apart (fuel_bottom (coefficients_of x.head) * grams x) (fuel_top (coefficients_of x.head) x.batches) ≡ left
  bound : fuel_bottom (coefficients_of x.head) ≡ right

-- ---- lines of one day: 300 MW, furnace 1, coal 4, mark 1, nitrogen oxides
unfoldable pub pair : ℕ → ℕ → Pair
pair concentration flow = record { concentration = concentration; flow = flow }

unfoldable pub survey : ℕ → ℕ → ℕ → Survey
survey hour concentration flow = record { hour = hour; pair = pair concentration flow }

-- the stack, automatic required or not, the masks of the hours that run and that are measured, the readings, enforcement surveys and batches
unfoldable pub line : ℕ → ℕ → ℕ → ℕ → List Pair → List Survey → List Batch → StackLine
line stack required run measured pairs enforcement batches =
    record {
      head = record { stack = stack; pollutant = 2; required = required; furnace = 1; coal = 4; mw = 300; mark = 1; days = 1 };
      days = record { masks = record { day = 0; run = run; measured = measured }; pairs = pairs } ∷ [];
      enforcement = enforcement;
      plant = [];
      batches = batches;
    }

-- document 01's example: 20, 30, 41 mg/m3 and 1000000, 1000000, 1000001 m3/h at hours 0, 1, 3, hour 2 missing
unfoldable pub example : StackLine
example =
    line 1 1 0b1111 0b1011 ((pair 0x41a00000 0x49742400 ∷ pair 0x41f00000 0x49742400 ∷ pair 0 0 ∷ pair 0x42240000 0x49742410 ∷ []) ++ replicate 20 (pair 0 0)) [] []

-- every reading on the half that goes up, 20.125, 30.125, 40.875 mg/m3 and 1026796.5, 999999.5, 1000000.5 m3/h: both means end in a half, and so do the grams
unfoldable pub high : StackLine
high =
    line 2 1 0b1111 0b1011 ((pair 0x41a10000 0x497aaec8 ∷ pair 0x41f10000 0x497423f8 ∷ pair 0 0 ∷ pair 0x42238000 0x49742408 ∷ []) ++ replicate 20 (pair 0 0)) [] []

-- every reading the last below a half: 23 hours under 4.995 mg/m3 and 501.5 m3/h, one under 0.025 and 11.5; 57.49999 g become 57
unfoldable pub low : StackLine
low = line 3 1 0xffffff 0xffffff (replicate 23 (pair 0x409fd70a 0x43fabfff) ++ (pair 0x3ccccccc 0x4137ffff ∷ [])) [] []

-- a measured hour with 1 mg/m3 and 1 m3/h, replaced by a survey with 3 and 300; 0.9 g become 1
unfoldable pub overruled : StackLine
overruled =
    line 4 1 0b1 0b1 (pair 0x3f800000 0x3f800000 ∷ replicate 23 (pair 0 0)) (survey 0 0x40400000 0x43960000 ∷ []) []

-- three running hours, all missing, two of them surveyed with 0.875 mg/m3 and 6249.5 m3/h, both on the half; 16.5 g become 17
unfoldable pub manually : StackLine
manually =
    line 5 0 0b111 0 (replicate 24 (pair 0 0)) (survey 1 0x3f600000 0x45c34c00 ∷ survey 0 0x3f600000 0x45c34c00 ∷ []) []

-- one running hour, missing, and 50 kg of coal at 8.01 kg/t; 400.5 g become 401
unfoldable pub coal : StackLine
coal = line 6 1 0b1 0 (replicate 24 (pair 0 0)) [] (record { kg = 50; sulphur = 0; ash = 0 } ∷ [])

-- ---- lines of outfalls, chemical oxygen demand
unfoldable pub water_day : ℕ → ℕ → ℕ → ℕ → WaterDay
water_day day state concentration flow = record { day = day; state = state; pair = pair concentration flow }

-- the outfall, its days, enforcement surveys and the plant's; in each list the newest stands first
unfoldable pub outfall : ℕ → List WaterDay → List Survey → List Survey → OutfallLine
outfall number days enforcement plant =
    record { head = record { outfall = number; pollutant = 4; days = length days }; days = days; enforcement = enforcement; plant = plant }

-- day 0 measured with 45.125 mg/L and 1200.5 m3, day 1 stopped, day 2 missing, but surveyed with 38.625 and 1098.5: all on the half, as are the grams
unfoldable pub water : OutfallLine
water =
    outfall 1 (water_day 2 1 0 0 ∷ water_day 1 0 0 0 ∷ water_day 0 2 0x42348000 0x44961000 ∷ []) (survey 2 0x421a8000 0x44895000 ∷ []) []

-- three running days, all missing, days 0 and 1 surveyed, on the half; the plant's survey of day 0 does not speak; 147,880.5 g become 147,881
unfoldable pub water_manually : OutfallLine
water_manually =
    outfall 2 (water_day 2 1 0 0 ∷ water_day 1 1 0 0 ∷ water_day 0 1 0 0 ∷ []) (survey 0 0x42348000 0x44961000 ∷ [])
    (survey 1 0x421a8000 0x448f9000 ∷ survey 0 0x3f800000 0x3f800000 ∷ [])

-- the lines opened
unfoldable pub cases : Type 0
unfolding pair survey line example high low overruled manually coal water_day outfall water water_manually
cases = Unit

-- ---- each case with both sides of its inequality
record Computed : Type 0 where
  -- X is 12,650,005,875 units of 0.01 mg, and 100,000 G 5,875 less
  of_example : Air example 126_500 (12_650_005_875 * 2 ^ 300) 10_032_413 (23_500 * 2 ^ 300) (10_232_413 * 2 ^ 300)
  -- X is 12,716,428,493.75, and the grams are too high: 10,286,025 of 10,286,039
  of_high : Air high 127_190 (50_865_713_975 * 2 ^ 298) 10_086_039 (10_286_025 * 2 ^ 300) (10_286_039 * 2 ^ 300)
  -- X is near 5,761,511.02, and the grams are too low: 246,044.07 of 246,050
  of_low : Air low 57 (202_715_147_429_854_597_125 * 2 ^ 255) 46_050 (2_164_226_523_512_197_125 * 2 ^ 257) (246_050 * 2 ^ 300)
  -- X is 90,000, the survey's
  of_overruled : Air overruled 1 (90_000 * 2 ^ 300) 1_201 (40_000 * 2 ^ 300) (201_201 * 2 ^ 300)
  -- n X is 3,280,987.5: 476,050 of 476,062
  of_manually : ManualAir manually 17 (6_561_975 * 2 ^ 297) 76_062 (476_050 * 2 ^ 298) (476_062 * 2 ^ 298)
  -- half a gram, all of it
  of_coal : Fuel coal 401 40_050 100 100
  -- X is 9,660,212.5 units of 10 mg: 21,550 of 21,554
  of_water : Water water 96_656 (19_320_425 * 2 ^ 299) 21_354 (21_550 * 2 ^ 300) (21_554 * 2 ^ 300)
  -- n X is 29,560,012.5: 64,750 of 64,762
  of_water_manually : ManualWater water_manually 147_881 (59_120_025 * 2 ^ 297) 64_362 (64_750 * 2 ^ 298) (64_762 * 2 ^ 298)

computed : Computed
unfolding cases allowances
computed =
    record {
      of_example = record { by = refl; states = refl; figure = refl; allows = refl; off = refl; bound = refl };
      of_high = record { by = refl; states = refl; figure = refl; allows = refl; off = refl; bound = refl };
      of_low = record { by = refl; states = refl; figure = refl; allows = refl; off = refl; bound = refl };
      of_overruled = record { by = refl; states = refl; figure = refl; allows = refl; off = refl; bound = refl };
      of_manually = record { by = refl; states = refl; figure = refl; allows = refl; off = refl; bound = refl };
      of_coal = record { by = refl; states = refl; figure = refl; off = refl; bound = refl };
      of_water = record { by = refl; states = refl; figure = refl; allows = refl; off = refl; bound = refl };
      of_water_manually = record { by = refl; states = refl; figure = refl; allows = refl; off = refl; bound = refl };
    }

-- ---- the account accepts all six of stacks: their records written out as one file
-- n bytes, the lowest first
little : ℕ → ℕ → List ℕ
little zero x = []
little (suc n) x = x % 256 ∷ little n (x / 256)

-- the bytes of each element, one behind the other
bytes_of : {A : Type 0} → (A → List ℕ) → List A → List ℕ
bytes_of f [] = []
bytes_of f (x ∷ xs) = f x ++ bytes_of f xs

head_bytes : Head → List ℕ
head_bytes h =
    little 2 12 ++ little 2 1 ++ little 2 h.stack ++ (h.pollutant ∷ h.required ∷ h.furnace ∷ h.coal ∷ []) ++ little 2 h.mw ++ (h.mark ∷ h.days ∷ [])

pair_bytes : Pair → List ℕ
pair_bytes p = little 4 p.concentration ++ little 4 p.flow

day_bytes : Day → List ℕ
day_bytes d = little 2 203 ++ little 2 2 ++ (d.masks.day ∷ []) ++ little 4 d.masks.run ++ little 4 d.masks.measured ++ bytes_of pair_bytes d.pairs

enforcement_bytes : Survey → List ℕ
enforcement_bytes s = little 2 12 ++ little 2 3 ++ little 2 s.hour ++ pair_bytes s.pair

batch_bytes : Batch → List ℕ
batch_bytes b = little 2 14 ++ little 2 5 ++ little 8 b.kg ++ little 2 b.sulphur ++ little 2 b.ash

line_bytes : StackLine → List ℕ
line_bytes x =
    head_bytes x.head ++ bytes_of day_bytes x.days ++ bytes_of enforcement_bytes (reverse x.enforcement) ++ bytes_of batch_bytes x.batches ++ little 2 2 ++ little 2 6

taken_in : outcome (bytes_of line_bytes (example ∷ high ∷ low ∷ overruled ∷ manually ∷ coal ∷ []))
    ≡ Accepted (OfStack coal ∷ OfStack manually ∷ OfStack overruled ∷ OfStack low ∷ OfStack high ∷ OfStack example ∷ [])
unfolding cases allowances little bytes_of head_bytes pair_bytes day_bytes enforcement_bytes batch_bytes line_bytes
taken_in = refl

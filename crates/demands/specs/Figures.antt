-- "Figures to agree on .. gathered as a single proved table with a single statement": the seven readings, both quarter cases, balance, oxides, dust; and
-- the case of document 02, A2.
use Rattle.std.specs.Prelude.{ℕ, List, [], ◌∷◌, map, ◌≡◌, length, replicate, Option, Some, None}
use Rattle.law.specs.Numbers.{hours_of_day}
use Rattle.law.specs.Words.{pick}
use Rattle.reading.specs.Reading.{reading, concentration_of, flow_of}
use Rattle.rules.specs.declared.Head.{Head}
use Rattle.rules.specs.declared.Pair.{Pair}
use Rattle.rules.specs.declared.Survey.{Survey}
use Rattle.rules.specs.declared.Batch.{Batch}
use Rattle.rules.specs.declared.WaterDay.{WaterDay}
use Rattle.rules.specs.Hours.{running_of, missing_of}
use Rattle.rules.specs.Lines.{StackLine}
use Rattle.rules.specs.Method.{is_automatic, method}
use Rattle.rules.specs.Tables.{coefficients_of}
use Rattle.rules.specs.Grams.{fuel_grams, outfall_grams}

-- a figure: a number, or that it is refused
pub data Figure : Type 0 where
  Gives : ℕ → Figure
  Refuses : Figure

-- a row of the table: what the rules compute, and what the document says
pub record Row : Type 0 where
  pub computed : Figure
  pub agreed : Figure

-- the figure of a rounded reading
unfoldable pub figure : Option ℕ → Figure
figure (Some n) = Gives n
figure None = Refuses

-- a concentration, by its bit pattern
unfoldable pub concentration_row : ℕ → Figure → Row
concentration_row bits f = record { computed = figure (concentration_of (reading bits)); agreed = f }

-- a flow, by its bit pattern
unfoldable pub flow_row : ℕ → Figure → Row
flow_row bits f = record { computed = figure (flow_of (reading bits)); agreed = f }

-- 1 where a day with these two masks is automatic, and 0 where it is not
unfoldable pub quarter_row : ℕ → ℕ → ℕ → Row
quarter_row run measured f =
    record { computed = Gives (pick (is_automatic (running_of run) (missing_of run measured)) 1 0); agreed = Gives f }

-- a pulverised boiler with furnace 1, coal 4 and mark 1
unfoldable pub boiler : ℕ → ℕ → Head
boiler pollutant mw = record { stack = 1; pollutant = pollutant; required = 1; furnace = 1; coal = 4; mw = mw; mark = 1; days = 1 }

-- both readings of an hour, by their bit patterns
unfoldable pub pair : ℕ → ℕ → Pair
pair concentration flow = record { concentration = concentration; flow = flow }

-- a survey of an hour with 30 mg/m3 and 100 m3/h
unfoldable pub survey : ℕ → Survey
survey hour = record { hour = hour; pair = pair 0x41f00000 0x42c80000 }

-- a line of one day with these two masks, 0 read in each measured hour, and with surveys of both kinds
unfoldable pub day_line : ℕ → ℕ → List Survey → List Survey → StackLine
day_line run measured enforcement plant =
    record {
      head = boiler 2 300;
      days = record { masks = record { day = 0; run = run; measured = measured }; pairs = replicate hours_of_day (pair 0 0) } ∷ [];
      enforcement = enforcement;
      plant = plant;
      batches = [];
    }

-- the method of a line, 1 where it is automatic
unfoldable pub method_row : StackLine → ℕ → Row
method_row x f = record { computed = Gives (method x); agreed = Gives f }

-- a day of an outfall by its state, its concentration and its flow
unfoldable pub water_day : ℕ → ℕ → ℕ → ℕ → WaterDay
water_day day state concentration flow = record { day = day; state = state; pair = pair concentration flow }

-- the grams of a line of an outfall with these days, the newest first, and these enforcement surveys
unfoldable pub outfall_row : List WaterDay → List Survey → ℕ → Row
outfall_row days enforcement f =
    record { computed = Gives (outfall_grams (record { head = record { outfall = 1; pollutant = 4; days = length days }; days = days; enforcement = enforcement; plant = [] })); agreed = Gives f }

-- 1,000,000 kg
unfoldable pub batch : ℕ → ℕ → Batch
batch sulphur ash = record { kg = 1_000_000; sulphur = sulphur; ash = ash }

-- grams by fuel
unfoldable pub fuel_row : Head → List Batch → ℕ → Row
fuel_row head batches f = record { computed = Gives (fuel_grams (coefficients_of head) batches); agreed = Gives f }

-- the single table
unfoldable pub figures : List Row
figures =
    concentration_row 0x3e000000 (Gives 13)  -- 0.125
    ∷ concentration_row 0x461c4005 (Gives 1_000_000)  -- 10000 + 5/1024
    ∷ concentration_row 0x461c4006 Refuses  -- 10000 + 6/1024
    ∷ flow_row 0x3f000000 (Gives 1)  -- 0.5
    ∷ flow_row 0x4a989680 (Gives 5_000_000)  -- 5,000,000
    ∷ flow_row 0x4a989681 Refuses  -- 5,000,000.5
    ∷ concentration_row 0x80000000 (Gives 0)  -- minus zero
    ∷ quarter_row 0b1111 0b1011 1  -- four running hours with one missing stay automatic
    ∷ quarter_row 0b111 0b011 0  -- three with one missing don't
    ∷ method_row (day_line 0b111 0b011 (survey 2 ∷ []) []) 1  -- "three running hours, one missing with a survey, is automatic" (A2)
    ∷ method_row (day_line 0b111 0b011 [] (survey 2 ∷ [])) 1  -- the same by a plant survey
    ∷ outfall_row (water_day 0 2 0x41a00000 0x447a0000 ∷ []) [] 20_000  -- a day of 20 mg/L and 1,000 m3 (A3)
    ∷ outfall_row (water_day 1 1 0 0 ∷ water_day 0 2 0x41a00000 0x447a0000 ∷ []) (survey 0 ∷ []) 6_000  -- one of two days missing: the other's survey, 30 mg/L and 100 m3, for both
    ∷ fuel_row (boiler 1 300) (batch 80 0 ∷ []) 14_184_000
    ∷ fuel_row (boiler 1 300) (batch 100 0 ∷ batch 80 0 ∷ []) 35_460_000
    ∷ fuel_row (boiler 2 450) (batch 0 0 ∷ []) 7_950_000
    ∷ fuel_row (boiler 3 300) (batch 0 2_000 ∷ []) 195_330_000
    ∷ []

-- the single statement
abbrev pub FiguresAgree : Type 0
FiguresAgree = map (λ r. r.computed) figures ≡ map (λ r. r.agreed) figures

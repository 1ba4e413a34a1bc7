-- A3, "discharge water of the same plants": a line of an outfall, "by day".
use Rattle.std.specs.Prelude.{ℕ, ◌+◌, List, [], ◌∷◌, ◌++◌, length, set, eqb}
use Rattle.law.specs.Words.{pick}
use Rattle.rules.specs.declared.Head.{Head}
use Rattle.rules.specs.declared.Outfall.{Outfall}
use Rattle.rules.specs.declared.WaterDay.{WaterDay}
use Rattle.rules.specs.declared.Pair.{Pair}
use Rattle.rules.specs.declared.Survey.{Survey}
use Rattle.rules.specs.Slots.{Slot, valid, missing, stopped}
use Rattle.rules.specs.Lines.{StackLine, speaking}

-- "9 head .., 10 day .., 11 and 12 surveys (as 3 and 4, by day), then 6". In each list the newest stands first
pub record OutfallLine : Type 0 where
  pub head : Outfall
  pub days : List WaterDay
  pub enforcement : List Survey
  pub plant : List Survey

-- "state u8: 0 stopped, 1 missing, 2 measured; pair"
unfoldable pub day_of_outfall : WaterDay → Slot Pair
day_of_outfall d = pick (eqb d.state 2) (valid d.pair) (pick (eqb d.state 1) missing stopped)

-- the days in turn, of days of which the newest stands first
unfoldable pub days_in_turn : List WaterDay → List (Slot Pair)
days_in_turn [] = []
days_in_turn (d ∷ ds) = days_in_turn ds ++ (day_of_outfall d ∷ [])

-- "surveys act on days as on hours in air": the day of a survey is measured, with the survey's readings
unfoldable pub put_on_days : List Survey → List (Slot Pair) → List (Slot Pair)
put_on_days [] days = days
put_on_days (s ∷ ss) days = set (put_on_days ss days) s.hour (valid s.pair)

-- the distinct surveyed days, enforcement winning
unfoldable pub surveyed_days : OutfallLine → List Survey
surveyed_days x = speaking x.enforcement x.plant

-- the days of a line after step 1
unfoldable pub outfall_days : OutfallLine → List (Slot Pair)
outfall_days x = put_on_days (surveyed_days x) (days_in_turn x.days)

-- the surveys of both kinds together
unfoldable pub outfall_surveys : OutfallLine → ℕ
outfall_surveys x = length x.enforcement + length x.plant

-- a line is of a stack or of an outfall
pub data Line : Type 0 where
  OfStack : StackLine → Line
  OfOutfall : OutfallLine → Line

-- the number of an outfall stands where a stack's does, and so do its pollutant and its days; the rest of a head it has not
unfoldable pub as_head : Outfall → Head
as_head o = record { stack = o.outfall; pollutant = o.pollutant; required = 0; furnace = 0; coal = 0; mw = 0; mark = 0; days = o.days }

-- what a line is headed by
unfoldable pub head_of_line : Line → Head
head_of_line (OfStack x) = x.head
head_of_line (OfOutfall x) = as_head x.head

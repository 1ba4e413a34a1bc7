-- The books: how the code's state stands for the lines that the walk has taken in.
use Rattle.std.specs.Prelude.{ℕ, Bool, false, ◌+◌, ◌*◌, ◌≤◌, ◌<◌, List, [], ◌++◌, ◌≡◌, length, take, drop, get_or, replicate}
use Rattle.law.specs.Numbers.{hours_of_day, most_days, most_hours, most_lines, row_cells, most_cells, total_cells, most_surveys, most_concentration, most_flow, most_amount, most_grams}
use Rattle.law.specs.Words.{sum_of, table, over}
use Rattle.rules.specs.declared.Pair.{Pair}
use Rattle.rules.specs.declared.Survey.{Survey}
use Rattle.rules.specs.declared.Batch.{Batch}
use Rattle.rules.specs.declared.View.{View}
use Rattle.rules.specs.Slots.{Slot, valid, missing, stopped}
use Rattle.rules.specs.Hours.{run_masks, measured_masks}
use Rattle.rules.specs.Lines.{StackLine, has_survey, surveyed, days_after, hours, surveys as surveysIn}
use Rattle.rules.specs.Outfalls.{OutfallLine, surveyed_days, outfall_days, outfall_surveys, Line}
use Rattle.rules.specs.Fill.{Values, zeroes}
use Rattle.rules.specs.Grams.{values_of, amount, survey_values, sulphur_of}
use Rattle.rules.specs.Row.{rows_of, totals_of, concentration_cells, flow_cells}
use Rattle.rules.specs.Walk.{Stand, Between, Inside, InWater, view_of, states_of}
use Rattle.hours.specs.States.{period_states}
use Rattle.fuel.specs.Fuel.{ash_of, InRange}
use Rattle.walk.specs.declared.books.Sums.{Sums}
use Rattle.walk.specs.declared.books.Marks.{Marks}
use Rattle.walk.specs.declared.books.Done.{Done}

-- the rows of no line, in cells for 48
unfoldable pub no_rows : List ℕ
no_rows = replicate most_cells 0

-- f written over n cells from a place on
abbrev pub put_from : (ℕ → ℕ) → ℕ → ℕ → List ℕ → List ℕ
put_from f n from cells = take from cells ++ over f n (drop from cells)

-- the lists that the code keeps of the open line: the masks of its days, the states of its hours, a flag for each hour with an enforcement survey, and both
-- work tables
pub record Open : Type 0 where
  pub runs : List ℕ
  pub measured : List ℕ
  pub states : List ℕ
  pub flags : List Bool
  pub concentrations : List ℕ
  pub flows : List ℕ

abbrev pub in_open : List ℕ → List ℕ → List ℕ → List Bool → List ℕ → List ℕ → Open
in_open runs measured states flags concentrations flows =
    record { runs = runs; measured = measured; states = states; flags = flags; concentrations = concentrations; flows = flows }

-- the same from the code's own tables and the two that are lent
abbrev pub open_in : Marks → List ℕ → List ℕ → Open
open_in m concentrations flows = in_open m.runs m.measured m.states m.flags concentrations flows

abbrev pub marks_of : Open → Marks
marks_of o = record { runs = o.runs; measured = o.measured; states = o.states; flags = o.flags }

-- what a cell holds of an hour that is not filled
unfoldable pub in_cell : Slot Pair → Values
in_cell (valid p) = values_of p
in_cell missing = zeroes
in_cell stopped = zeroes

-- the values of hour h of the hours of a line so far, after its surveys, or of day h; past its days 0
unfoldable pub values_at : List (Slot Pair) → ℕ → Values
values_at slots h = in_cell (get_or slots h stopped)

-- whether an hour has an enforcement survey
unfoldable pub flag_at : List Survey → ℕ → Bool
flag_at enforcement h = has_survey h enforcement

-- the masks of the days so far, a surveyed hour's measured bit set, and the states of their hours
pub record MasksKept (x : StackLine) (runs measured states : List ℕ) : Type 0 where
  pub runs_kept : take (length x.days) runs ≡ run_masks x.days
  pub measured_kept : take (length x.days) measured ≡ measured_masks (days_after x)
  pub states_kept_here : take (hours_of_day * length x.days) states ≡ period_states runs measured (length x.days)

-- one quantity of every hour, within its limit
pub record CellsKept (value : ℕ → ℕ) (most : ℕ) (cells : List ℕ) : Type 0 where
  pub hold : cells ≡ table value most_hours
  pub within : (h : ℕ) → value h ≤ most

-- the surveys so far: a flag for each of the enforcement, and n and the sum of c x l of the distinct ones
pub record SurveysKept (period : ℕ) (enforcement distinct : List Survey) (count weight : ℕ) (flags : List Bool) : Type 0 where
  pub flagged : flags ≡ table (flag_at enforcement) most_hours
  pub past : (h : ℕ) → period ≤ h → get_or flags h false ≡ false
  pub counted : count ≡ length distinct
  pub weighed : weight ≡ sum_of (λ s. amount (survey_values s)) distinct
  pub most : sum_of (λ s. amount (survey_values s)) distinct ≤ length distinct * most_amount

-- the batches so far
pub record FuelKept (batches : List Batch) (sulphur ash : ℕ) : Type 0 where
  pub largest : sulphur ≡ sulphur_of batches
  pub summed : ash ≡ ash_of batches
  pub range : InRange batches

-- what the code holds of an open line. No survey comes before the last day
pub record LineBooks (x : StackLine) (s : Sums) (o : Open) : Type 0 where
  pub masks : MasksKept x o.runs o.measured o.states
  pub concentrations : CellsKept (λ h. (values_at (hours x) h).c) most_concentration o.concentrations
  pub flows : CellsKept (λ h. (values_at (hours x) h).l) most_flow o.flows
  pub surveys : SurveysKept (hours_of_day * x.head.days) x.enforcement (surveyed x) s.surveyed s.weight o.flags
  pub fuel : FuelKept x.batches s.sulphur s.ash
  pub used : s.used ≡ hours_of_day * x.head.days
  pub pollutant : (1 ≤ x.head.pollutant) × (x.head.pollutant ≤ total_cells)
  pub period : x.head.days ≤ most_days
  pub days : length x.days ≤ x.head.days
  pub early : length x.days < x.head.days → (x.enforcement ≡ []) × (x.plant ≡ [])
  pub few : surveysIn x ≤ most_surveys

-- the state of a day after its surveys
unfoldable pub state_of_slot : Slot Pair → ℕ
state_of_slot (valid p) = 2
state_of_slot missing = 1
state_of_slot stopped = 0

-- what the code holds of an open line of an outfall: the states of its days, before surveys for the judge and after them; one cell a day
pub record WaterBooks (x : OutfallLine) (s : Sums) (o : Open) : Type 0 where
  pub runs : take (length x.days) o.runs ≡ states_of x.days
  pub states : (d : ℕ) → d < length x.days → get_or o.states d 0 ≡ state_of_slot (get_or (outfall_days x) d stopped)
  pub concentrations : CellsKept (λ d. (values_at (outfall_days x) d).c) most_concentration o.concentrations
  pub flows : CellsKept (λ d. (values_at (outfall_days x) d).l) most_flow o.flows
  pub surveys : SurveysKept x.head.days x.enforcement (surveyed_days x) s.surveyed s.weight o.flags
  pub used : s.used ≡ x.head.days
  pub pollutant : (1 ≤ x.head.pollutant) × (x.head.pollutant ≤ total_cells)
  pub period : x.head.days ≤ most_days
  pub days : length x.days ≤ x.head.days
  pub early : length x.days < x.head.days → (x.enforcement ≡ []) × (x.plant ≡ [])
  pub few : outfall_surveys x ≤ most_surveys

-- what the cells hold between two lines: past those that the newest line used they are 0
pub record CellsBetween (lines : List Line) (used : ℕ) (o : Open) : Type 0 where
  pub conc_held_here : o.concentrations ≡ concentration_cells lines
  pub flow_held : o.flows ≡ flow_cells lines
  pub used_most : used ≤ most_hours
  pub flags_past : (h : ℕ) → used ≤ h → get_or o.flags h false ≡ false
  pub conc_past : (h : ℕ) → used ≤ h → get_or o.concentrations h 0 ≡ 0
  pub flow_past : (h : ℕ) → used ≤ h → get_or o.flows h 0 ≡ 0

-- the one or the other
abbrev pub OpenBooks : Stand → Sums → Open → Type 0
OpenBooks (Between done) s o = CellsBetween done s.used o
OpenBooks (Inside x done) s o = LineBooks x s o
OpenBooks (InWater x done) s o = WaterBooks x s o

-- the lines that are done
abbrev pub lines_done : Stand → List Line
lines_done (Between done) = done
lines_done (Inside x done) = done
lines_done (InWater x done) = done

-- the lines that are begun
abbrev pub begun_of : Stand → ℕ
begun_of (Between done) = length done
begun_of (Inside x done) = length done + 1
begun_of (InWater x done) = length done + 1

-- the rows and the totals of the lines that are done, which no record of an open line moves
pub record DoneKept (lines : List Line) (d : Done) : Type 0 where
  pub rows : d.rows ≡ rows_of lines ++ drop (row_cells * length lines) no_rows
  pub totals : d.totals ≡ totals_of lines
  pub most : (i : ℕ) → get_or d.totals i 0 ≤ length lines * most_grams
  pub long : length d.rows ≡ most_cells

-- how long the open line's lists are
pub record Long (o : Open) : Type 0 where
  pub runs : length o.runs ≡ most_days
  pub measured : length o.measured ≡ most_days
  pub states : length o.states ≡ most_hours
  pub flags : length o.flags ≡ most_hours
  pub concentrations : length o.concentrations ≡ most_hours
  pub flows : length o.flows ≡ most_hours

-- the code's state stands for these lines
pub record Kept (stand : Stand) (v : View) (s : Sums) (o : Open) (d : Done) : Type 0 where
  pub view : v ≡ view_of stand
  pub lines : begun_of stand ≤ most_lines
  pub done : DoneKept (lines_done stand) d
  pub long : Long o
  pub books : OpenBooks stand s o

-- What the functions that take a record in promise each other.
use Rattle.std.specs.Prelude.{ℕ, ◌+◌, ◌*◌, ◌<◌, ◌≤◌, Bool, true, false, List, ◌≡◌, length, take, drop, replicate, ◌++◌, get_or, set, Result, Ok}
use Rattle.law.specs.Numbers.{hours_of_day, most_days, most_hours, most_lines, row_cells, total_cells, most_surveys, most_amount, most_grams}
use Rattle.rules.specs.declared.Head.{Head}
use Rattle.rules.specs.declared.Masks.{Masks}
use Rattle.rules.specs.declared.Survey.{Survey}
use Rattle.rules.specs.declared.Batch.{Batch}
use Rattle.rules.specs.declared.View.{View}
use Rattle.rules.specs.declared.Refused.{Refused}
use Rattle.rules.specs.Refusals.{told}
use Rattle.rules.specs.declared.Pair.{Pair}
use Rattle.rules.specs.declared.WaterDay.{WaterDay}
use Rattle.rules.specs.Hours.{first_missing}
use Rattle.reading.specs.Reading.{reading, concentration_of, flow_of, flagged_of}
use Rattle.rules.specs.Records.{day_of}
use Rattle.hours.specs.States.{period_states}
use Rattle.line.specs.Days.{first_lacking, DayPut}
use Rattle.line.specs.declared.surveyed.Weighed.{Weighed}
use Rattle.line.specs.Put.{in_tables, SurveyPut}
use Rattle.line.specs.Line.{row_in}
use Rattle.rules.specs.Judge.{judge_hours, line_method, daily_method}
use Rattle.day.specs.Day.{concentration_at, flow_at, hour_state}
use Rattle.walk.specs.declared.books.Sums.{Sums}
use Rattle.walk.specs.declared.books.Taken.{Taken}
use Rattle.walk.specs.declared.books.Marks.{Marks}
use Rattle.walk.specs.declared.books.Done.{Done}
use Rattle.rules.specs.declared.Surveyor.{Surveyor}
use Rattle.rules.specs.declared.World.{World}
use Rattle.walk.specs.Views.{after_head, after_day, after_survey, beaten_by, flags_by, after_batch, after_end, after_water_day, opened_sums, with_survey, with_fuel}
use Rattle.walk.specs.Closing.{grams_in, daily_grams, Limits, LineGrams, with_grams}
use Rattle.fuel.specs.Fuel.{fuel_figure}
use Rattle.walk.specs.Books.{put_from}

-- what a day asks
pub record DayReady (bytes : List ℕ) (v : View) (m : Masks) (states conc flow : List ℕ) : Type 0 where
  pub day : m.day < most_days
  pub states_long : length states ≡ most_hours
  pub conc_long : length conc ≡ most_hours
  pub flow_long : length flow ≡ most_hours
  pub days : v.days < most_days
  pub running : v.running ≤ most_hours
  pub missing : v.missing ≤ most_hours
  pub whole : 205 ≤ length bytes

-- what a survey asks, of whose kind there are so many, and which finds so many missing hours or days
pub record SurveyReady (t : Survey) (count found : ℕ) (v : View) (s : Sums) : Type 0 where
  pub hour : t.hour < most_hours
  pub finds : found ≤ v.missing
  pub room : count < most_surveys
  pub surveyed : s.surveyed < most_surveys
  pub weight : s.weight ≤ most_surveys * most_amount

-- a head: the cells that the last line used are 0, and none of its flags stands
pub record HeadTaken (v : View) (s : Sums) (h : Head) (world : World) (flags : List Bool) (conc flow : List ℕ) (flags' : List Bool) (conc' flow' : List ℕ) (r : Taken) : Type 0 where
  pub view : r.view ≡ after_head v h world
  pub sums : r.sums ≡ opened_sums h world
  pub flags_now : flags' ≡ replicate s.used false ++ drop s.used flags
  pub conc_now : conc' ≡ replicate s.used 0 ++ drop s.used conc
  pub flow_now : flow' ≡ replicate s.used 0 ++ drop s.used flow

-- a day: its masks, its 24 states and its 24 values
pub record DayTaken (bytes : List ℕ) (v : View) (s : Sums) (m : Masks) (runs measured states conc flow runs' measured' states' conc' flow' : List ℕ) (r : Taken) : Type 0 where
  pub view : r.view ≡ after_day v m
  pub sums : r.sums ≡ s
  pub runs_now : runs' ≡ set runs m.day m.run
  pub measured_now : measured' ≡ set measured m.day m.measured
  pub states_now : states' ≡ put_from (hour_state (day_of bytes)) hours_of_day (hours_of_day * m.day) states
  pub conc_now : conc' ≡ put_from (concentration_at (day_of bytes)) hours_of_day (hours_of_day * m.day) conc
  pub flow_now : flow' ≡ put_from (flow_at (day_of bytes)) hours_of_day (hours_of_day * m.day) flow

-- a day is taken in, unless a reading is refused; no flag moves
pub record DayRead (bytes : List ℕ) (v : View) (s : Sums) (m : Masks) (k : Marks) (conc flow : List ℕ) (k' : Marks) (conc' flow' : List ℕ) (r : Result Unit Refused) (t : Taken) : Type 0 where
  pub faults : told r ≡ judge_hours (day_of bytes)
  pub takes : r ≡ Ok tt → DayTaken bytes v s m k.runs k.measured k.states conc flow k'.runs k'.measured k'.states conc' flow' t
  pub sums : t.sums ≡ s
  pub flags_stay : k'.flags ≡ k.flags

-- a survey of an hour: a plant survey is beaten where an enforcement survey stands
pub record SurveyTaken (by : Surveyor) (v : View) (s : Sums) (t : Survey) (k : Marks) (conc flow : List ℕ) (k' : Marks) (conc' flow' : List ℕ) (r : Taken) : Type 0 where
  pub weighed : Weighed
  pub put : SurveyPut t (beaten_by by k.flags t.hour) k.runs (in_tables k.measured k.states conc flow) (in_tables k'.measured k'.states conc' flow') weighed
  pub view : r.view ≡ after_survey by v t.hour weighed.found
  pub sums : r.sums ≡ with_survey s weighed
  pub flags_now : k'.flags ≡ flags_by by k.flags t.hour
  pub runs_stay : k'.runs ≡ k.runs

-- a batch
pub record BatchTaken (v : View) (s : Sums) (b : Batch) (r : Taken) : Type 0 where
  pub view : r.view ≡ after_batch v b.kg
  pub sums : r.sums ≡ with_fuel s b

-- what stating a line asks, of either world
pub record StateReady (v : View) (grams : ℕ) (so_far : List ℕ) : Type 0 where
  pub lines : v.lines < most_lines
  pub pollutant : (1 ≤ v.head.pollutant) × (v.head.pollutant ≤ total_cells)
  pub small : grams ≤ most_grams
  pub totals : (i : ℕ) → get_or so_far i 0 ≤ most_lines * most_grams

-- a line stated: its row, and its grams in the total of its pollutant
pub record LineStated (v : View) (s : Sums) (method grams first : ℕ) (d d' : Done) (r : Taken) : Type 0 where
  pub view : r.view ≡ after_end v
  pub sums : r.sums ≡ s
  pub rows_now : d'.rows ≡ put_from (λ k. get_or (row_in v method grams first) k 0) row_cells (row_cells * v.lines) d.rows
  pub totals_now_here : d'.totals ≡ with_grams d.totals v.head.pollutant grams

-- what closing a line asks: the states are those that the masks say
pub record EndReady (v : View) (s : Sums) (runs measured states conc flow so_far : List ℕ) : Type 0 where
  pub of_stack : v.water ≡ false
  pub days : v.head.days ≤ most_days
  pub said : take (hours_of_day * v.head.days) states ≡ period_states runs measured v.head.days
  pub conc_long : length conc ≡ most_hours
  pub flow_long : length flow ≡ most_hours
  pub limits : Limits conc flow
  pub counts : v.enforcement.count + v.plant.count ≤ most_surveys
  pub some : line_method v ≡ 2 → 0 < s.surveyed
  pub surveyed : s.surveyed ≤ most_surveys
  pub weight : s.weight ≤ most_surveys * most_amount
  pub running : v.running ≤ most_hours
  pub lines : v.lines < most_lines
  pub fuel : grams_in (fuel_figure v.head v.fuel s.sulphur s.ash) ≤ most_grams
  pub pollutant : (1 ≤ v.head.pollutant) × (v.head.pollutant ≤ total_cells)
  pub totals : (i : ℕ) → get_or so_far i 0 ≤ most_lines * most_grams

-- an end: the grams, and the line stated with them
pub record EndTaken (v : View) (s : Sums) (states : List ℕ) (first : ℕ) (conc flow : List ℕ) (d : Done) (conc' flow' : List ℕ) (d' : Done) (r : Taken) : Type 0 where
  pub grams : ℕ
  pub small : grams ≤ most_grams
  pub figures : LineGrams (line_method v) v s states conc flow conc' flow' grams
  pub stated : LineStated v s (line_method v) grams first d d' r

-- ---- of an outfall: what a day asks
pub record WaterDayReady (v : View) (d : WaterDay) (conc flow : List ℕ) : Type 0 where
  pub day : d.day < most_days
  pub conc_long : length conc ≡ most_hours
  pub flow_long : length flow ≡ most_hours
  pub days : v.days < most_days
  pub running : v.running ≤ most_hours
  pub missing : v.missing ≤ most_hours

-- the values of a pair, 0 for a reading that is refused
abbrev pub pair_c : Pair → ℕ
pair_c p = (flagged_of (concentration_of (reading p.concentration))).value

abbrev pub pair_l : Pair → ℕ
pair_l p = (flagged_of (flow_of (reading p.flow))).value

-- a day: its state and its values
pub record WaterDayTaken (v : View) (s : Sums) (d : WaterDay) (k : Marks) (conc flow : List ℕ) (k' : Marks) (conc' flow' : List ℕ) (r : Taken) : Type 0 where
  pub view : r.view ≡ after_water_day v d.state
  pub sums : r.sums ≡ s
  pub runs_now : k'.runs ≡ set k.runs d.day d.state
  pub states_now : k'.states ≡ set k.states d.day d.state
  pub conc_now : conc' ≡ set conc d.day (pair_c d.pair)
  pub flow_now : flow' ≡ set flow d.day (pair_l d.pair)
  pub measured_stay : k'.measured ≡ k.measured
  pub flags_stay : k'.flags ≡ k.flags

-- a survey of a day
pub record DaySurveyTaken (by : Surveyor) (v : View) (s : Sums) (t : Survey) (k : Marks) (conc flow : List ℕ) (k' : Marks) (conc' flow' : List ℕ) (r : Taken) : Type 0 where
  pub weighed : Weighed
  pub put : DayPut t (beaten_by by k.flags t.hour) k.states conc flow k'.states conc' flow' weighed
  pub view : r.view ≡ after_survey by v t.hour weighed.found
  pub sums : r.sums ≡ with_survey s weighed
  pub flags_now : k'.flags ≡ flags_by by k.flags t.hour
  pub runs_stay : k'.runs ≡ k.runs
  pub measured_stay : k'.measured ≡ k.measured

-- what closing a line of an outfall asks
pub record WaterEndReady (v : View) (s : Sums) (conc flow so_far : List ℕ) : Type 0 where
  pub of_outfall : v.water ≡ true
  pub days : v.head.days ≤ most_days
  pub conc_long : length conc ≡ most_hours
  pub flow_long : length flow ≡ most_hours
  pub limits : Limits conc flow
  pub some : (daily_method v ≡ 1 → ⊥) → 0 < s.surveyed
  pub surveyed : s.surveyed ≤ most_surveys
  pub weight : s.weight ≤ most_surveys * most_amount
  pub running : v.running ≤ most_days
  pub lines : v.lines < most_lines
  pub pollutant : (1 ≤ v.head.pollutant) × (v.head.pollutant ≤ total_cells)
  pub totals : (i : ℕ) → get_or so_far i 0 ≤ most_lines * most_grams

-- its end: the grams, and the line stated with them; no cell moves
pub record WaterEndTaken (v : View) (s : Sums) (first : ℕ) (conc flow : List ℕ) (d d' : Done) (r : Taken) : Type 0 where
  pub grams : ℕ
  pub small : grams ≤ most_grams
  pub figure : grams ≡ daily_grams (daily_method v) v s conc flow
  pub stated : LineStated v s (daily_method v) grams first d d' r

-- the end of a line of either world
pub record CloseReady (v : View) (s : Sums) (runs measured states conc flow so_far : List ℕ) : Type 0 where
  pub of_stack : v.water ≡ false → EndReady v s runs measured states conc flow so_far
  pub of_outfall : v.water ≡ true → WaterEndReady v s conc flow so_far

pub record Closed (v : View) (s : Sums) (runs measured states conc flow : List ℕ) (d : Done) (conc' flow' : List ℕ) (d' : Done) (r : Taken) : Type 0 where
  pub of_stack : v.water ≡ false → EndTaken v s (period_states runs measured v.head.days) (first_missing runs measured v.head.days) conc flow d conc' flow' d' r
  pub of_outfall : v.water ≡ true → WaterEndTaken v s (first_lacking states v.head.days) conc flow d d' r × (conc' ≡ conc) × (flow' ≡ flow)

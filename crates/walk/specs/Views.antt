-- The view and the sums after each kind of record that is not refused.
use Rattle.std.specs.Prelude.{ℕ, ◌+◌, ◌-◌, ◌*◌, max, Bool, true, false, List, get_or, set, eqb}
use Rattle.law.specs.Numbers.{hours_of_day}
use Rattle.law.specs.Words.{pick}
use Rattle.rules.specs.declared.Head.{Head}
use Rattle.rules.specs.declared.Masks.{Masks}
use Rattle.rules.specs.declared.Surveys.{Surveys}
use Rattle.rules.specs.declared.Batch.{Batch}
use Rattle.rules.specs.declared.View.{View}
use Rattle.rules.specs.Hours.{running_of, missing_of}
use Rattle.rules.specs.declared.Refused.{Refused}
use Rattle.rules.specs.Judge.{key}
use Rattle.rules.specs.Walk.{no_head}
use Rattle.line.specs.declared.surveyed.Weighed.{Weighed}
use Rattle.walk.specs.declared.books.Sums.{Sums}
use Rattle.rules.specs.declared.Surveyor.{Surveyor}
use Rattle.rules.specs.declared.Surveyor.TheVariants.{Enforcement, Plant}
use Rattle.rules.specs.declared.World.{World}
use Rattle.rules.specs.declared.World.TheVariants.{Air, Water}

-- no survey yet
abbrev pub no_surveys : Surveys
no_surveys = record { count = 0; floor = 0 }

-- a view with nothing taken in yet but a head
abbrev pub opened_view : Bool → Bool → ℕ → ℕ → Head → View
opened_view inside water lines floor head =
    record {
      inside = inside;
      water = water;
      lines = lines;
      floor = floor;
      head = head;
      days = 0;
      running = 0;
      missing = 0;
      enforcement = no_surveys;
      plant = no_surveys;
      batches = 0;
      fuel = 0;
    }

-- a line of a stack is opened, or one of an outfall
abbrev pub after_head : View → Head → World → View
after_head v h Air = opened_view true false v.lines (key h + 1) h
after_head v h Water = opened_view false true v.lines (key h + 1) h

-- the view of the open line with what a record of it moves
abbrev pub moved_view : View → ℕ → ℕ → ℕ → Surveys → Surveys → ℕ → ℕ → View
moved_view v days running missing enforcement plant batches fuel =
    record {
      inside = v.inside;
      water = v.water;
      lines = v.lines;
      floor = v.floor;
      head = v.head;
      days = days;
      running = running;
      missing = missing;
      enforcement = enforcement;
      plant = plant;
      batches = batches;
      fuel = fuel;
    }

abbrev pub after_day : View → Masks → View
after_day v m =
    moved_view v (v.days + 1) (running_of m.run + v.running) (missing_of m.run m.measured + v.missing) v.enforcement v.plant v.batches v.fuel

-- 1 for a day of an outfall that runs, 1 for one that runs without data, by its state
abbrev pub ran_by : ℕ → ℕ
ran_by state = pick (eqb state 0) 0 1

abbrev pub lacks_by : ℕ → ℕ
lacks_by state = pick (eqb state 1) 1 0

abbrev pub after_water_day : View → ℕ → View
after_water_day v state =
    moved_view v (v.days + 1) (ran_by state + v.running) (lacks_by state + v.missing) v.enforcement v.plant v.batches v.fuel

abbrev pub one_more : Surveys → ℕ → Surveys
one_more s hour = record { count = s.count + 1; floor = hour + 1 }

-- a survey by which so many missing hours are fewer
abbrev pub after_enforcement : View → ℕ → ℕ → View
after_enforcement v hour found = moved_view v v.days v.running (v.missing - found) (one_more v.enforcement hour) v.plant v.batches v.fuel

abbrev pub after_plant : View → ℕ → ℕ → View
after_plant v hour found = moved_view v v.days v.running (v.missing - found) v.enforcement (one_more v.plant hour) v.batches v.fuel

-- by whose survey it is: the surveys of its kind so far, and the view after it
abbrev pub surveys_by : Surveyor → View → Surveys
surveys_by Enforcement v = v.enforcement
surveys_by Plant v = v.plant

abbrev pub after_survey : Surveyor → View → ℕ → ℕ → View
after_survey Enforcement v hour found = after_enforcement v hour found
after_survey Plant v hour found = after_plant v hour found

-- whether an hour or a day has an enforcement survey, by the flags of a quarter's hours
abbrev pub beats : List Bool → ℕ → Bool
beats flags h = get_or flags h false

-- whether a survey is beaten there, and the flags after it
abbrev pub beaten_by : Surveyor → List Bool → ℕ → Bool
beaten_by Enforcement flags h = false
beaten_by Plant flags h = beats flags h

abbrev pub flags_by : Surveyor → List Bool → ℕ → List Bool
flags_by Enforcement flags h = set flags h true
flags_by Plant flags h = flags

abbrev pub after_batch : View → ℕ → View
after_batch v kg = moved_view v v.days v.running v.missing v.enforcement v.plant (v.batches + 1) (kg + v.fuel)

abbrev pub after_end : View → View
after_end v = opened_view false false (v.lines + 1) v.floor no_head

-- the sums of a line that is opened: its period's cells will be used
abbrev pub used_by : World → Head → ℕ
used_by Air h = hours_of_day * h.days
used_by Water h = h.days

abbrev pub opened_sums : Head → World → Sums
opened_sums h world = record { surveyed = 0; weight = 0; sulphur = 0; ash = 0; used = used_by world h }

-- what a survey adds
abbrev pub with_survey : Sums → Weighed → Sums
with_survey s w = record { surveyed = s.surveyed + w.count; weight = w.weight + s.weight; sulphur = s.sulphur; ash = s.ash; used = s.used }

-- a batch more
abbrev pub with_fuel : Sums → Batch → Sums
with_fuel s b = record { surveyed = s.surveyed; weight = s.weight; sulphur = max b.sulphur s.sulphur; ash = b.kg * b.ash + s.ash; used = s.used }

-- a refusal of a record that stands at a place of the file
abbrev pub behind : ℕ → Refused → Refused
behind at f = record { refusal = f.refusal; place = at + f.place }

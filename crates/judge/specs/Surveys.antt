-- A survey of either kind and of either world: the rules of rules.specs.Judge, chosen by the code's enums.
use Rattle.std.specs.Prelude.{ℕ, ◌*◌, Bool, List}
use Rattle.law.specs.Numbers.{hours_of_day}
use Rattle.rules.specs.declared.Survey.{Survey}
use Rattle.rules.specs.declared.View.{View}
use Rattle.rules.specs.Refusals.{Fault}
use Rattle.rules.specs.Hours.{runs_at}
use Rattle.rules.specs.Judge.{first, place_enforcement, place_plant, judge_survey, judge_day_survey, runs_on}
use Rattle.rules.specs.declared.Surveyor.{Surveyor}
use Rattle.rules.specs.declared.Surveyor.TheVariants.{Enforcement, Plant}
use Rattle.rules.specs.declared.World.{World}
use Rattle.rules.specs.declared.World.TheVariants.{Air, Water}

-- 2, by its kind
abbrev pub place_survey : Surveyor → Bool → View → Survey → Fault
place_survey Enforcement inside v s = place_enforcement inside v s
place_survey Plant inside v s = place_plant inside v s

-- inside a line of its world
abbrev pub inside_of : World → View → Bool
inside_of Air v = v.inside
inside_of Water v = v.water

-- the hours of the line, or its days
abbrev pub period_of : World → View → ℕ
period_of Air v = hours_of_day * v.head.days
period_of Water v = v.head.days

-- whether the hour or the day runs
abbrev pub runs_in : World → List ℕ → ℕ → Bool
runs_in Air runs hour = runs_at runs hour
runs_in Water states day = runs_on states day

-- 17, 4, 5, by its world
abbrev pub judge_survey_in : World → View → List ℕ → Survey → Fault
judge_survey_in Air v runs s = judge_survey v runs s
judge_survey_in Water v states s = judge_day_survey v states s

abbrev pub judge_survey_of : World → Surveyor → View → List ℕ → Survey → Fault
judge_survey_of world kind v runs s = first (place_survey kind (inside_of world v) v s) (judge_survey_in world v runs s)

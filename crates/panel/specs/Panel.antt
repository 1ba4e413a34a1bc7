-- "The panel keeps a running total as an f64, with its hours and missing hours, and each hour hands the next state back"; 12, 11, 4, 10.
use Rattle.std.specs.Prelude.{ℕ, ◌+◌, ◌*◌, ◌^◌, nat_le, nat_lt, Float, Option, Some, None, Result, Ok, Err}
use Rattle.law.specs.Numbers.{most_hours}
use Rattle.law.specs.Words.{need}
use Rattle.reading.specs.declared.Hour.{Hour}
use Rattle.reading.specs.Reading.{Figures, Both, NoData, NotRunning, Unfit, stated_hour, figures_of}
use Rattle.panel.specs.declared.Panel.{Panel}
use Rattle.rules.specs.declared.Refusal.{Refusal}
use Rattle.rules.specs.Refusals.{number_of}
use Rattle.panel.specs.declared.Stepped.{Stepped as Answered}
use Rattle.panel.specs.Lawful.{whole, lawful, as_total}

-- the next state beside its refusal number, 0 where nothing is refused
pub record Stepped : Type 0 where
  pub number : ℕ
  pub next : Panel

-- "with the state unchanged"
unfoldable pub unchanged : ℕ → Panel → Stepped
unchanged number p = record { number = number; next = p }

-- "1 to the hours"
unfoldable pub counted : Panel → Float → ℕ → Stepped
counted p total missing = record { number = 0; next = record { total = total; hours = p.hours + 1; missing = missing } }

-- 10: "panel total would pass 2^53"
unfoldable pub added : Panel → ℕ → Stepped
added p product =
    need (unchanged 10 p) (nat_le (whole p.total + product) (2 ^ 53)) (counted p (as_total (whole p.total + product)) p.missing)

-- "a measured hour adds c x l to the total and 1 to the hours, a missing hour 1 to both counts, a stopped hour 1 to the hours"; 4
unfoldable pub after_hour : Panel → Figures → Stepped
after_hour p (Both c l) = added p (c * l)
after_hour p NoData = counted p p.total (p.missing + (stated_hour NoData).missing)
after_hour p NotRunning = counted p p.total p.missing
after_hour p Unfit = unchanged (stated_hour Unfit).number p

-- "panel: 12, 11, 4, 10"
unfoldable pub panel_step : Panel → Hour → Stepped
panel_step p hour = need (unchanged 12 p) (lawful p) (need (unchanged 11 p) (nat_lt p.hours most_hours) (after_hour p (figures_of hour)))

-- a panel before any hour
unfoldable pub empty_panel : Panel
empty_panel = record { total = as_total 0; hours = 0; missing = 0 }

-- what an answer says on paper
abbrev pub number_in : Option Refusal → ℕ
number_in (Some r) = number_of r
number_in None = 0

abbrev pub stepped : Answered → Stepped
stepped s = record { number = number_in s.refused; next = s.next }

-- and a step in place, of the state that it leaves
abbrev pub outcome : Result Unit Refusal → Panel → Stepped
outcome (Ok u) p = record { number = 0; next = p }
outcome (Err r) p = record { number = number_of r; next = p }

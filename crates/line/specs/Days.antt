-- A survey put in at its day of an outfall's line, and weighed; the first missing day.
use Rattle.std.specs.Prelude.{ℕ, ◌+◌, Bool, List, ◌≡◌, get_or, set, eqb}
use Rattle.law.specs.Words.{pick, seek}
use Rattle.rules.specs.declared.Survey.{Survey}
use Rattle.line.specs.declared.surveyed.Weighed.{Weighed}
use Rattle.line.specs.Put.{survey_c, survey_l, standing, nothing}

-- 1 for a day of state 1, "missing"
unfoldable pub lacks_on : List ℕ → ℕ → ℕ
lacks_on states day = pick (eqb (get_or states day 0) 1) 1 0

-- the first of so many days that is missing, plus 1 (0 if none)
unfoldable pub first_lacking : List ℕ → ℕ → ℕ
first_lacking states days = seek (λ d. eqb (lacks_on states d) 1) (λ d. d + 1) 0 0 days

-- a survey: one that is beaten, or one that stands: its day is measured, with its values, and weighed
pub record DayPut (t : Survey) (beaten : Bool) (states conc flow states' conc' flow' : List ℕ) (r : Weighed) : Type 0 where
  pub weighs : r ≡ pick beaten nothing (standing (survey_c t) (survey_l t) (lacks_on states t.hour))
  pub states_now : states' ≡ pick beaten states (set states t.hour 2)
  pub conc_now : conc' ≡ pick beaten conc (set conc t.hour (survey_c t))
  pub flow_now : flow' ≡ pick beaten flow (set flow t.hour (survey_l t))

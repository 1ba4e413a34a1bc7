-- A survey put in at its hour of a line's period, and weighed.
use Rattle.std.specs.Prelude.{ℕ, ◌*◌, Bool, List, ◌≡◌, set}
use Rattle.law.specs.Words.{pick}
use Rattle.reading.specs.Reading.{reading, concentration_of, flow_of, flagged_of}
use Rattle.rules.specs.declared.Survey.{Survey}
use Rattle.hours.specs.Marks.{with_measured, found_by}
use Rattle.line.specs.declared.surveyed.Weighed.{Weighed}

-- the tables of a line's hours that a survey moves: the measured masks of its days, the states of its hours, and both work tables
pub record Tables : Type 0 where
  pub measured : List ℕ
  pub states : List ℕ
  pub concentrations : List ℕ
  pub flows : List ℕ

abbrev pub in_tables : List ℕ → List ℕ → List ℕ → List ℕ → Tables
in_tables measured states concentrations flows = record { measured = measured; states = states; concentrations = concentrations; flows = flows }

-- the values of a survey, 0 for a reading that is refused
abbrev pub survey_c : Survey → ℕ
survey_c t = (flagged_of (concentration_of (reading t.pair.concentration))).value

abbrev pub survey_l : Survey → ℕ
survey_l t = (flagged_of (flow_of (reading t.pair.flow))).value

-- what a survey adds that stands, and one that is beaten
abbrev pub standing : ℕ → ℕ → ℕ → Weighed
standing c l found = record { count = 1; weight = c * l; found = found }

abbrev pub nothing : Weighed
nothing = record { count = 0; weight = 0; found = 0 }

-- a survey that stands, at its hour or day, where so many that were missing are found: measured, with its values, and weighed
pub record PutAt (t : Survey) (found : ℕ) (states conc flow states' conc' flow' : List ℕ) (r : Weighed) : Type 0 where
  pub weighs : r ≡ standing (survey_c t) (survey_l t) found
  pub states_now : states' ≡ set states t.hour 2
  pub conc_now : conc' ≡ set conc t.hour (survey_c t)
  pub flow_now : flow' ≡ set flow t.hour (survey_l t)

-- the tables with hour h measured, with two values
abbrev pub measured_at : ℕ → ℕ → ℕ → Tables → Tables
measured_at h c l o = in_tables (with_measured h o.measured) (set o.states h 2) (set o.concentrations h c) (set o.flows h l)

-- a survey: one that is beaten, or one that stands: its hour is measured, with its values, and weighed
pub record SurveyPut (t : Survey) (beaten : Bool) (runs : List ℕ) (o o' : Tables) (r : Weighed) : Type 0 where
  pub weighs : r ≡ pick beaten nothing (standing (survey_c t) (survey_l t) (found_by t.hour runs o.measured))
  pub tables : o' ≡ pick beaten o (measured_at t.hour (survey_c t) (survey_l t) o)

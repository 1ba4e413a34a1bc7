-- No second answer meets the promise of a public call. Assumes nothing.
use mathlib.Core.Path.{◌≡◌, ◌∙◌, sym}
use mathlib.Core.Bool.{Bool}
use mathlib.Core.List.{List}
use Prim.Native.Nat.{ℕ}
use Rattle.rules.specs.declared.Survey.{Survey}
use Rattle.rules.specs.declared.View.{View}
use Rattle.line.specs.declared.surveyed.Weighed.{Weighed}
use Rattle.line.specs.Line.{row_in}
use Rattle.line.specs.Put.{Tables, SurveyPut}
use Rattle.line.specs.Days.{first_lacking, DayPut}

pub row-of : (v : View) (method grams first : ℕ) (a b : List ℕ) → a ≡ row_in v method grams first → b ≡ row_in v method grams first → a ≡ b
row-of v method grams first a b p q = cc

-- a survey: the answer and the tables
module _ (t : Survey) (beaten : Bool) (runs : List ℕ) (o o₁ o₂ : Tables) (a b : Weighed) where
  pub put_survey_here : SurveyPut t beaten runs o o₁ a → SurveyPut t beaten runs o o₂ b → (a ≡ b) × (o₁ ≡ o₂)
  put_survey_here p q = (p.weighs ∙ sym q.weighs, p.tables ∙ sym q.tables)

-- on a day of an outfall
pub first_missing-day : (states : List ℕ) (days a b : ℕ) → a ≡ first_lacking states days → b ≡ first_lacking states days → a ≡ b
first_missing-day states days a b p q = cc

module _ (t : Survey) (beaten : Bool) (states conc flow s₁ c₁ f₁ s₂ c₂ f₂ : List ℕ) (a b : Weighed) where
  pub put_on_day : DayPut t beaten states conc flow s₁ c₁ f₁ a → DayPut t beaten states conc flow s₂ c₂ f₂ b → (a ≡ b) × (s₁ ≡ s₂) × (c₁ ≡ c₂) × (f₁ ≡ f₂)
  put_on_day p q = (p.weighs ∙ sym q.weighs, p.states_now ∙ sym q.states_now, p.conc_now ∙ sym q.conc_now, p.flow_now ∙ sym q.flow_now)

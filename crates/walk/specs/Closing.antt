-- What the functions that close a line promise each other.
use Rattle.std.specs.Prelude.{ℕ, ◌+◌, ◌-◌, ◌*◌, ◌<◌, ◌≤◌, List, ◌≡◌, length, take, get_or, set, eqb}
use Rattle.law.specs.Numbers.{hours_of_day, most_hours, most_surveys, most_concentration, most_flow, most_amount, per_gram, per_gram_of_water}
use Rattle.law.specs.Words.{pick, halves_up}
use Rattle.fills.specs.Gaps.{filled_cells}
use Rattle.fills.specs.Weights.{products}
use Rattle.rules.specs.declared.View.{View}
use Rattle.rules.specs.OnPaper.{OnPaper}
use Rattle.fuel.specs.Fuel.{fuel_figure}
use Rattle.walk.specs.declared.books.Sums.{Sums}

-- grams by fuel, the first value of the figure on paper, and 0 for none
abbrev pub grams_in : OnPaper → ℕ
grams_in figure = get_or figure.values 0 0

-- the weight of the period's cells, so many hours or days
abbrev pub period_weight : ℕ → List ℕ → List ℕ → ℕ
period_weight n conc flow = products (take n conc) (take n flow)

-- both quantities filled, and the grams of the filled period
pub record FilledLine (states : List ℕ) (days : ℕ) (conc flow conc' flow' : List ℕ) (r : ℕ) : Type 0 where
  pub concentrations : conc' ≡ filled_cells states conc
  pub flows : flow' ≡ filled_cells states flow
  pub grams : r ≡ halves_up (period_weight (hours_of_day * days) conc' flow') per_gram

-- every cell is within the limit of its quantity
pub record Limits (conc flow : List ℕ) : Type 0 where
  pub concentrations : (h : ℕ) → get_or conc h 0 ≤ most_concentration
  pub flows : (h : ℕ) → get_or flow h 0 ≤ most_flow

-- what the grams of surveys ask
pub record SurveyedReady (v : View) (s : Sums) : Type 0 where
  pub some : 0 < s.surveyed
  pub weight : s.weight ≤ most_surveys * most_amount
  pub running : v.running ≤ most_hours

-- what a line's grams ask, by its method
pub record GramsReady (method : ℕ) (v : View) (s : Sums) (conc flow : List ℕ) : Type 0 where
  pub conc_long : hours_of_day * v.head.days ≤ length conc
  pub flow_long : hours_of_day * v.head.days ≤ length flow
  pub weighed : method ≡ 1 → period_weight (hours_of_day * v.head.days) conc flow ≤ most_hours * most_amount
  pub weight : s.weight ≤ most_surveys * most_amount
  pub running : v.running ≤ most_hours
  pub some : method ≡ 2 → 0 < s.surveyed

-- the grams of a line by its method and its cells, which are filled under method 1
abbrev pub line_grams : ℕ → View → Sums → List ℕ → List ℕ → ℕ
line_grams method v s conc flow =
    pick (eqb method 1) (halves_up (period_weight (hours_of_day * v.head.days) conc flow) (1 * per_gram))
    (pick (eqb method 2) (halves_up (s.weight * v.running) (s.surveyed * per_gram)) (grams_in (fuel_figure v.head v.fuel s.sulphur s.ash)))

-- what the grams of a line of an outfall ask, by its method
pub record DailyReady (method : ℕ) (v : View) (s : Sums) (conc flow : List ℕ) : Type 0 where
  pub conc_long : v.head.days ≤ length conc
  pub flow_long : v.head.days ≤ length flow
  pub weighed : period_weight v.head.days conc flow ≤ most_hours * most_amount
  pub weight : s.weight ≤ most_surveys * most_amount
  pub running : v.running ≤ most_hours
  pub some : (method ≡ 1 → ⊥) → 0 < s.surveyed

-- the grams of a line of an outfall by its method and its cells
abbrev pub daily_grams : ℕ → View → Sums → List ℕ → List ℕ → ℕ
daily_grams method v s conc flow =
    pick (eqb method 1) (halves_up (period_weight v.head.days conc flow) (1 * per_gram_of_water)) (halves_up (s.weight * v.running) (s.surveyed * per_gram_of_water))

-- the same as what the lines above ask, beside the cells before and after
pub record LineGrams (method : ℕ) (v : View) (s : Sums) (states conc flow conc' flow' : List ℕ) (r : ℕ) : Type 0 where
  pub automatic : method ≡ 1 → FilledLine states v.head.days conc flow conc' flow' r
  pub manual : method ≡ 2 → (conc' ≡ conc) × (flow' ≡ flow) × (r ≡ halves_up (s.weight * v.running) (s.surveyed * per_gram))
  pub fuel : (method ≡ 1 → ⊥) → (method ≡ 2 → ⊥) → (conc' ≡ conc) × (flow' ≡ flow) × (r ≡ grams_in (fuel_figure v.head v.fuel s.sulphur s.ash))

-- the totals with a line's grams more, in the cell of its pollutant
abbrev pub with_grams : List ℕ → ℕ → ℕ → List ℕ
with_grams totals pollutant grams = set totals (pollutant - 1) (grams + get_or totals (pollutant - 1) 0)

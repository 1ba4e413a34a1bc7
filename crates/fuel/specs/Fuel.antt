-- Balance, oxides and dust from what the code keeps of a line's batches: their kg, the largest sulphur, and the sum of kg x ash.
use Rattle.std.specs.Prelude.{ℕ, ◌+◌, ◌-◌, ◌*◌, ◌≤◌, List, [], ◌∷◌, leb, Option, Some, None, Result, Ok, Err}
use Rattle.law.specs.Numbers.{most_sulphur, most_ash, most_fuel}
use Rattle.law.specs.Words.{need_all, sum_of, halves_up}
use Rattle.rules.specs.declared.Head.{Head}
use Rattle.rules.specs.declared.Batch.{Batch}
use Rattle.rules.specs.declared.Coefficients.{Coefficients}
use Rattle.rules.specs.declared.Coefficients.TheVariants.{Balance, Oxides, Dust}
use Rattle.rules.specs.Tables.{coefficients_of}
use Rattle.rules.specs.OnPaper.{OnPaper, says_no, says, coefficients_on_paper}
use Rattle.rules.specs.Lines.{fuel}
use Rattle.rules.specs.Grams.{sulphur_of, fuel_bottom}
use Rattle.fuel.specs.declared.NoFigure.{NoFigure}
use Rattle.fuel.specs.declared.NoFigure.TheVariants.{WithoutEntry, OutOfRange}

-- the sum of kg x ash over batches
unfoldable pub ash_of : List Batch → ℕ
ash_of batches = sum_of (λ b. b.kg * b.ash) batches

-- what is kept of batches is in the document's range
pub record InRange (batches : List Batch) : Type 0 where
  pub kg : fuel batches ≤ most_fuel
  pub sulphur : sulphur_of batches ≤ most_sulphur
  pub ash : ash_of batches ≤ 10_000 * fuel batches

-- before the division, halves up: "2 x B x (1000 - q) x S x K", "B x coefficient", "kg x (a x ash + 100 x b)"
unfoldable pub top_of : Option Coefficients → ℕ → ℕ → ℕ → ℕ
top_of (Some (Balance q k)) kg sulphur ash = 2 * kg * (1000 - q) * sulphur * k
top_of (Some (Oxides coefficient)) kg sulphur ash = kg * coefficient
top_of (Some (Dust a b)) kg sulphur ash = a * ash + 100 * b * kg
top_of None kg sulphur ash = 0

-- the grams of an entry: one rounding
abbrev pub found_of : Option Coefficients → ℕ → ℕ → ℕ → OnPaper
found_of entry kg sulphur ash = says (halves_up (top_of entry kg sulphur ash) (fuel_bottom entry) ∷ [])

-- the figure of an entry; 7: "method 3 or 4 with no table entry"
unfoldable pub figure_of : Option Coefficients → ℕ → ℕ → ℕ → OnPaper
figure_of (Some (Balance q k)) kg sulphur ash = found_of (Some (Balance q k)) kg sulphur ash
figure_of (Some (Oxides coefficient)) kg sulphur ash = found_of (Some (Oxides coefficient)) kg sulphur ash
figure_of (Some (Dust a b)) kg sulphur ash = found_of (Some (Dust a b)) kg sulphur ash
figure_of None kg sulphur ash = says_no 7

-- the document's range: "a line's fuel at most 10,000,000,000 kg", "sulphur at most 2,000, ash at most 10,000"
abbrev pub Ranged : ℕ → ℕ → ℕ → Type 0
Ranged kg sulphur ash = (kg ≤ most_fuel) × (sulphur ≤ most_sulphur) × (ash ≤ most_fuel * most_ash)

-- within it the figure; 16: "a fuel field or the fuel sum"
unfoldable pub fuel_figure : Head → ℕ → ℕ → ℕ → OnPaper
fuel_figure h kg sulphur ash =
    need_all (says_no 16) (leb kg most_fuel ∷ leb sulphur most_sulphur ∷ leb ash (most_fuel * most_ash) ∷ [])
    (figure_of (coefficients_of h) kg sulphur ash)

-- what an answer says on paper: the grams; no entry, as the tables say it; 16 out of range
unfoldable pub fuel_on_paper : Result ℕ NoFigure → OnPaper
fuel_on_paper (Ok g) = says (g ∷ [])
fuel_on_paper (Err WithoutEntry) = coefficients_on_paper None
fuel_on_paper (Err OutOfRange) = says_no 16

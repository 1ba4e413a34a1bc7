-- The hours of a line's period: the gaps of both quantities filled.
use Rattle.std.specs.Prelude.{ℕ, ◌*◌, min, ◌≡◌, Bool, not, ◌&&◌, List, length, take, eqb, leb}
use Rattle.law.specs.Numbers.{hours_of_day, most_hours}
use Rattle.law.specs.Words.{pick}
use Rattle.rules.specs.Hours.{first_missing}
use Rattle.fills.specs.Gaps.{filled_cells}

-- method 1, every hour of the period has its two cells, of which a quarter has 2,208, and there is a first missing hour
unfoldable pub is_filled : ℕ → ℕ → ℕ → List ℕ → List ℕ → Bool
is_filled method first days conc flow =
    (eqb method 1 && leb (hours_of_day * days) (min most_hours (min (length conc) (length flow)))) && not (eqb first 0)

-- the cells of one quantity: its gaps filled, or as they were
abbrev pub period_cells : Bool → List ℕ → List ℕ → List ℕ
period_cells filled states cells = pick filled (filled_cells states cells) cells

-- the promise of `fill_period`: the first missing hour plus 1, by the masks, and both quantities' cells, by the states of the period's hours
pub record PeriodFilled (method days : ℕ) (runs measured states conc flow conc' flow' : List ℕ) (r : ℕ) : Type 0 where
  pub first : r ≡ first_missing runs measured days
  pub concentrations : conc' ≡ period_cells (is_filled method r days conc flow) (take (hours_of_day * days) states) conc
  pub flows : flow' ≡ period_cells (is_filled method r days conc flow) (take (hours_of_day * days) states) flow

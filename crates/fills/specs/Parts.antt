-- What the private parts of the fills promise one another: no definition of the rule, and no other crate cites it.
use Rattle.std.specs.Prelude.{◌≡◌, List, ◌++◌, reverse, ℕ, ◌-◌, ◌<◌, ◌≤◌, length, get_or, take, drop, eqb}
use Rattle.law.specs.Words.{pick, over}
use Rattle.rules.specs.Slots.{run, valids}
use Rattle.rules.specs.Fill.{fill, mean_up, same}
use Rattle.fills.specs.Gaps.{row, filled_cells}

-- a scan from hour `first` on: the missing hours up to the next valid one, whatever the values, and that hour or the number of hours
pub record Scanned (states : List ℕ) (first gap next : ℕ) : Type 0 where
  pub counts : (values : List ℕ) → gap ≡ run (drop first (row states values))
  pub begins : first ≤ next
  pub ends : next ≤ length states
  pub passes : (k : ℕ) → k < next → first ≤ k → get_or states k 0 ≡ 2 → ⊥
  pub stops : next < length states → get_or states next 0 ≡ 2

-- from hour `first` up to `end` every hour is measured
pub record Measured (states : List ℕ) (first end : ℕ) : Type 0 where
  pub begins : first ≤ end
  pub ends : end ≤ length states
  pub all : (k : ℕ) → k < end → first ≤ k → get_or states k 0 ≡ 2

-- v where the hour is missing, and what stands there where it is not
abbrev pub spot : List ℕ → ℕ → List ℕ → ℕ → ℕ
spot states v values k = pick (eqb (get_or states k 0) 1) v (get_or values k 0)

-- v in the missing hours from `first` up to `next`
abbrev pub patched : List ℕ → ℕ → ℕ → ℕ → List ℕ → List ℕ
patched states v first next values =
    take first values ++ over (spot (drop first states) v (drop first values)) (next - first) (drop first values)

-- each hour has its cell in four slices
abbrev pub Roomy : List ℕ → List ℕ → List ℕ → List ℕ → List ℕ → Type 0
Roomy states concentrations flows cs ls =
    (length states ≤ length concentrations) × (length states ≤ length flows) × (length states ≤ length cs) × (length states ≤ length ls)

-- the first r cells hold the valid values of both quantities
abbrev pub Gathered : List ℕ → List ℕ → List ℕ → List ℕ → List ℕ → ℕ → Type 0
Gathered states concentrations flows cs ls r =
    (r ≤ length states) × (take r cs ≡ valids (row states concentrations)) × (take r ls ≡ valids (row states flows))

-- every valid value stands by itself, and each hour has its cell
abbrev pub Aside : List ℕ → List ℕ → List ℕ → List ℕ → List ℕ → Type 0
Aside states concentrations flows cs ls =
    (length states ≤ length concentrations) × (length states ≤ length flows) × (cs ≡ valids (row states concentrations)) × (ls ≡ valids (row states flows))

-- the gaps of both quantities filled
abbrev pub FilledBoth : List ℕ → List ℕ → List ℕ → List ℕ → List ℕ → Type 0
FilledBoth states concentrations flows concentrations' flows' =
    (concentrations' ≡ filled_cells states concentrations) × (flows' ≡ filled_cells states flows)

-- the fill of a gap, by the valid values, of which `b` stand before it
abbrev pub gap_fill : ℕ → List ℕ → ℕ → ℕ
gap_fill missing kept b = fill mean_up same missing (reverse (take b kept)) (drop b kept)

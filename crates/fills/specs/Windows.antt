-- What the search for the largest of the last 720 valid values keeps from one long gap of a line to the next: no definition of the rule, and no other crate
-- cites it.
use Rattle.std.specs.Prelude.{◌≡◌, List, ℕ, ◌+◌, ◌-◌, ◌*◌, ◌<◌, ◌≤◌, length, get_or, take, drop}
use Rattle.law.specs.Numbers.{most_hours}
use Rattle.law.specs.Words.{largest}

-- the largest of the values from place a up to place b
abbrev pub span : List ℕ → ℕ → ℕ → ℕ
span valid a b = largest (take (b - a) (drop a valid))

-- the peaks so far: the largest of the first 48 values, of the next 48, and so on; a quarter's hours have 46
pub record Peaked (valid peaks : List ℕ) : Type 0 where
  pub few : length valid ≤ most_hours
  pub inside : 48 * length peaks ≤ length valid
  pub each : (k : ℕ) → k < length peaks → get_or peaks k 0 ≡ span valid (48 * k) (48 * k + 48)

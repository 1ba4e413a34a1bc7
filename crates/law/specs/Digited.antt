-- What code that reads digits promises: their number, kept up to a cap, and the place behind them.
use Rattle.std.specs.Prelude.{ℕ, ◌+◌, ◌<◌, ◌≤◌, min, Bool, true, false, List, ◌++◌, ◌≡◌, length, drop, get_or}
use Rattle.law.specs.Digits.{up_to, past, is_digit, all_digits, value, number_to}

-- the digits from a place on, one behind the other: their number, kept up to `most`, and where they end
pub record Digited (most : ℕ) (text : List ℕ) (from kept end : ℕ) : Type 0 where
  pub digits : List ℕ
  pub each : all_digits digits ≡ true
  pub whole : drop from text ≡ digits ++ drop end text
  pub is : kept ≡ min (value digits) most
  pub ends : end ≡ from + length digits
  pub within : end ≤ length text

-- no digit stands behind them
abbrev pub Stopped : List ℕ → ℕ → Type 0
Stopped text end = end < length text → is_digit (get_or text end 0) ≡ false

-- a field up to its stop, of the form that is asked: its number as it is kept, and the place behind the stop; where there is none, the end is 0
pub record Found (text : List ℕ) (from stop kept end number : ℕ) : Type 0 where
  pub is : kept ≡ number
  pub on : from + 1 < end
  pub ends : end ≡ from + length (up_to stop (drop from text)) + 1
  pub within : end ≤ length text
  pub behind : drop end text ≡ past stop (drop from text)

pub record Fielded (text : List ℕ) (from stop kept end : ℕ) (form : Bool) (number : ℕ) : Type 0 where
  pub none : end ≡ 0 → form ≡ false
  pub some : 0 < end → (form ≡ true) × Found text from stop kept end number

-- of digits
abbrev pub Numbered : ℕ → List ℕ → ℕ → ℕ → ℕ → ℕ → Type 0
Numbered most text from stop kept end =
    Fielded text from stop kept end (number_to stop (drop from text)) (min (value (up_to stop (drop from text))) most)

-- What the parts of the code promise one another: no public call is stated in these words.
use Rattle.std.specs.Prelude.{ℕ, ◌+◌, ◌*◌, ◌<◌, ◌≤◌, Bool, true, false, List, ◌++◌, ◌≡◌, Option, Some, None, Result, length, take, drop, get_or, ltb}
use Rattle.law.specs.Numbers.{row_cells}
use Rattle.law.specs.Words.{need, pick}
use Rattle.law.specs.Digits.{line_feed, up_to, past, is_digit, all_digits, value, number_to}
use Rattle.rules.specs.Refusals.{number_of, told}
use Rattle.rules.specs.declared.Refusal.{Refusal}
use Rattle.rules.specs.declared.Refused.{Refused}
use Rattle.filing.specs.Filing.{space, filed_limit, numbers_in, values_in, all_fit, is_row, Read, totals_told}

-- a number as the code keeps it: none where it is the limit or more
unfoldable pub kept : ℕ → Option ℕ
kept n = pick (ltb n filed_limit) (Some n) None

-- a text as its first digits and what stands behind them
pub record DigitsFirst (text digits behind : List ℕ) : Type 0 where
  pub whole : text ≡ digits ++ behind
  pub each : all_digits digits ≡ true
  pub stopped : is_digit (get_or behind 0 0) ≡ false

-- a text that does not start with a number
pub record NoNumber (text : List ℕ) : Type 0 where
  pub lined : number_to line_feed text ≡ false
  pub spaced : number_to space text ≡ false

-- the number that a text starts with, with LF behind the last of a line and a space behind another
pub record Next (text : List ℕ) (number : Option ℕ) (last : Bool) (rest : List ℕ) : Type 0 where
  pub lined : number_to line_feed text ≡ last
  pub spaced : last ≡ false → number_to space text ≡ true
  pub is : number ≡ kept (value (up_to (pick last line_feed space) text))
  pub behind : rest ≡ past (pick last line_feed space) text
  pub line : last ≡ false → past line_feed text ≡ past line_feed rest
  pub shorter : length rest + 2 ≤ length text

-- the first line of a text: its numbers, at most so many, which are the right ones where all are in their range
pub record Lined (most : ℕ) (text numbers : List ℕ) (fits : Bool) (rest : List ℕ) : Type 0 where
  pub counts : length numbers ≡ numbers_in most text
  pub some : 0 < length numbers
  pub fit : fits ≡ all_fit (values_in most text)
  pub values : fits ≡ true → numbers ≡ values_in most text
  pub behind : rest ≡ past line_feed text
  pub shorter : length rest + 2 * length numbers ≤ length text

-- the lent cells, of which the first hold these as far as there is room
abbrev pub held : List ℕ → List ℕ → List ℕ
held rows cells = take (length rows) cells ++ drop (length cells) rows

-- the row that a text starts with
pub record RowTaken (text numbers rest : List ℕ) : Type 0 where
  pub row : is_row text ≡ true
  pub fit : all_fit (values_in row_cells text) ≡ true
  pub values : numbers ≡ values_in row_cells text
  pub some : 0 < length numbers
  pub behind : rest ≡ past line_feed text
  pub shorter : length rest + 2 * length numbers ≤ length text

-- what refuses it
abbrev pub RowRefused : List ℕ → Refusal → Type 0
RowRefused text refusal = number_of refusal ≡ need 19 (is_row text) (need 20 (all_fit (values_in row_cells text)) 0)

-- what is read of a text, by the cells of its rows and its totals or what refuses it
unfoldable pub read_by : Result (List ℕ) Refused → List ℕ → Read
read_by totals cells = record { number = (told totals).number; line = (told totals).place; cells = cells; totals = totals_told totals }

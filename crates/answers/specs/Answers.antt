-- What an answer of the account call says of the file it was given.
use Rattle.std.specs.Prelude.{ℕ, ◌*◌, ◌≤◌, List, ◌++◌, ◌≡◌, length, drop}
use Rattle.law.specs.Numbers.{most_lines, row_cells}
use Rattle.rules.specs.Refusals.{Fault, Answer}
use Rattle.rules.specs.Outfalls.{Line}
use Rattle.rules.specs.Row.{rows_of}
use Rattle.rules.specs.Walk.{Refused, Accepted, outcome}
use Rattle.rules.specs.Account.{refusal, acceptance}

-- the number is 0: the file's lines stand behind answer and rows
pub record Stated (file rows : List ℕ) (answer : Answer) (rows' : List ℕ) : Type 0 where
  pub lines : List Line
  pub accepted : outcome file ≡ Accepted lines
  pub most : length lines ≤ most_lines
  pub answers : answer ≡ acceptance lines
  pub leaves : rows' ≡ rows_of lines ++ drop (row_cells * length lines) rows

-- the number is not 0, and enough cells were lent: a record of the file, or its end, is refused
pub record Denied (file : List ℕ) (answer : Answer) : Type 0 where
  pub fault : Fault
  pub refused : outcome file ≡ Refused fault
  pub answers : answer ≡ refusal fault

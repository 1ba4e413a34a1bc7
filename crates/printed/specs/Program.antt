-- "The program `account` reads a record file on standard input": what it prints, as bytes; 13.
use Rattle.std.specs.Prelude.{ℕ, List, [], ◌∷◌, ◌++◌, length, leb}
use Rattle.law.specs.Numbers.{most_bytes}
use Rattle.law.specs.Words.{need}
use Rattle.rules.specs.Judge.{refuse}
use Rattle.rules.specs.Outfalls.{Line}
use Rattle.rules.specs.Row.{row_of, totals_of}
use Rattle.rules.specs.Walk.{Outcome, Refused, Accepted, outcome}
use Rattle.text.specs.Numbers.{spaced}
use Rattle.text.specs.Line.{refused_line, totals_line}

-- "it prints one line a row (fields as above)", of lines of which the newest stands first
unfoldable pub row_lines : List Line → List ℕ
row_lines [] = []
row_lines (x ∷ xs) = row_lines xs ++ spaced (row_of x)

-- "then totals for pollutants 1, 2, 3", now 1 to 5: "total A B C", and two totals more
unfoldable pub total_line : List Line → List ℕ
total_line lines = totals_line (totals_of lines)

-- "a refused input prints only .."; an accepted one its rows and totals
unfoldable pub printed_from : Outcome → List ℕ
printed_from (Refused f) = refused_line f
printed_from (Accepted lines) = row_lines lines ++ total_line lines

-- 13, "program only: input over 65,536 bytes" ("offset 0 for 13"), comes before the file is looked at
unfoldable pub printed : List ℕ → List ℕ
printed input = need (refused_line (refuse 13 0)) (leb (length input) most_bytes) (printed_from (outcome input))

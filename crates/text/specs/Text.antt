-- What the calls that write a text into a lent buffer promise.
use Rattle.std.specs.Prelude.{ℕ, zero, suc, ◌*◌, List, [], ◌++◌, ◌≡◌, length, take, drop, leb}
use Rattle.law.specs.Numbers.{most_lines, row_cells}
use Rattle.law.specs.Words.{need}
use Rattle.text.specs.Numbers.{spaced}
use Rattle.text.specs.Line.{totals_line}

-- no text is longer than 8,192 bytes: into a shorter buffer nothing is written, and 0 bytes are counted; else exactly these bytes stand at its start, and
-- the cells behind them are as they were
pub record Text (bytes old new : List ℕ) (count : ℕ) : Type 0 where
  pub counts : count ≡ need 0 (leb 8_192 (length old)) (length bytes)
  pub says : new ≡ need old (leb 8_192 (length old)) (bytes ++ drop (length bytes) old)

-- the texts of the first n rows
unfoldable pub rows_text : List ℕ → ℕ → List ℕ
rows_text rows zero = []
rows_text rows (suc n) = rows_text rows n ++ spaced (take row_cells (drop (row_cells * n) rows))

-- the rows, then the totals
unfoldable pub stated_text : List ℕ → ℕ → List ℕ → List ℕ
stated_text rows n totals = rows_text rows n ++ totals_line totals

-- the same of at most 48 rows that are all there; of other rows there is no text
unfoldable pub stated_lines : List ℕ → ℕ → List ℕ → List ℕ
stated_lines rows n totals = need [] (leb n most_lines) (need [] (leb (row_cells * n) (length rows)) (stated_text rows n totals))

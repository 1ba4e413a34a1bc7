-- The text of a filing, in the form that `account` prints: rows of seven numbers, a space between two, each row a line; then "total " and five numbers. A last
-- row may be short: it is no row, and the count of rows is then wrong (22).
use Rattle.std.specs.Prelude.{ℕ, zero, suc, Bool, true, false, ◌&&◌, ◌||◌, List, [], ◌∷◌, ◌++◌, ◌≡◌, length, take, drop, replicate, leb, ltb, eqb, Result, Ok, Err}
use Rattle.law.specs.Numbers.{row_cells, total_cells}
use Rattle.law.specs.Words.{need, pick}
use Rattle.law.specs.Digits.{line_feed, up_to, past, value, number_to}
use Rattle.rules.specs.Refusals.{told}
use Rattle.rules.specs.declared.Refused.{Refused}
use Rattle.filing.specs.declared.Filing.{Filing as Answered}

abbrev pub space : ℕ
space = 32

-- "total "
abbrev pub total_word : List ℕ
total_word = 116 ∷ 111 ∷ 116 ∷ 97 ∷ 108 ∷ 32 ∷ []

unfoldable pub starts_with : List ℕ → List ℕ → Bool
starts_with [] s = true
starts_with (w ∷ ws) [] = false
starts_with (w ∷ ws) (b ∷ bs) = eqb b w && starts_with ws bs

-- how many numbers a line has, a space between two and LF behind the last; 0 where it is no line of one to n numbers
unfoldable pub one_more : ℕ → ℕ
one_more zero = zero
one_more (suc k) = suc (suc k)

unfoldable pub numbers_in : ℕ → List ℕ → ℕ
numbers_in zero s = 0
numbers_in (suc n) s = pick (number_to line_feed s) 1 (need 0 (number_to space s) (one_more (numbers_in n (past space s))))

-- these numbers
unfoldable pub values_in : ℕ → List ℕ → List ℕ
values_in zero s = []
values_in (suc n) s = pick (number_to line_feed s) (value (up_to line_feed s) ∷ []) (value (up_to space s) ∷ values_in n (past space s))

-- a number that a filing may have is below this, so that it fits a cell
abbrev pub filed_limit : ℕ
filed_limit = 18_446_744_073_709_551_616

unfoldable pub all_fit : List ℕ → Bool
all_fit [] = true
all_fit (n ∷ ns) = ltb n filed_limit && all_fit ns

-- what is read of a text: the number that refuses it and its line, both 0 where nothing does; the cells of its rows, of a refused text those before that line;
-- and the totals, of a refused text zeros
pub record Read : Type 0 where
  pub number : ℕ
  pub line : ℕ
  pub cells : List ℕ
  pub totals : List ℕ

abbrev pub stopped : ℕ → ℕ → List ℕ → Read
stopped number line cells = record { number = number; line = line; cells = cells; totals = replicate total_cells 0 }

-- the line of the totals, behind its word: five numbers (else 19), each in its range (else 20), and no line behind it (else 19 of that line)
unfoldable pub totals_from : ℕ → List ℕ → List ℕ → Read
totals_from line cells s =
    need (stopped 19 line cells) (eqb (numbers_in total_cells s) total_cells)
    (need (stopped 20 line cells) (all_fit (values_in total_cells s))
    (need (stopped 19 (suc line) cells) (eqb (length (past line_feed s)) 0)
    (record { number = 0; line = 0; cells = cells; totals = values_in total_cells s })))

-- a row has seven numbers; the last one, before the totals, may have fewer
unfoldable pub is_row : List ℕ → Bool
is_row s = eqb (numbers_in row_cells s) row_cells || (leb 1 (numbers_in row_cells s) && starts_with total_word (past line_feed s))

-- the text from a line on, which counts from 1, behind these cells: the line of the totals, or a row (else 19) whose numbers are in their range (else 20). A
-- text has no more lines than bytes
unfoldable pub read_from : ℕ → ℕ → List ℕ → List ℕ → Read
read_from zero line cells s = stopped 19 line cells
read_from (suc most) line cells s =
    pick (starts_with total_word s) (totals_from line cells (drop (length total_word) s))
    (need (stopped 19 line cells) (is_row s)
    (need (stopped 20 line cells) (all_fit (values_in row_cells s))
    (read_from most (suc line) (cells ++ values_in row_cells s) (past line_feed s))))

unfoldable pub read_of : List ℕ → Read
read_of text = read_from (length text) 1 [] text

-- an answer as the document would write it down: number and line of what refuses the text, both 0 where nothing does; how many cells its rows have, and its
-- totals, of a refused text zeros
pub record Filing : Type 0 where
  pub number : ℕ
  pub line : ℕ
  pub count : ℕ
  pub totals : List ℕ

unfoldable pub totals_told : Result (List ℕ) Refused → List ℕ
totals_told (Ok totals) = totals
totals_told (Err f) = replicate total_cells 0

unfoldable pub filing_on_paper : Answered → Filing
filing_on_paper a = record { number = (told a.totals).number; line = (told a.totals).place; count = a.count; totals = totals_told a.totals }

-- the promise of `read_filing`: the answer, and the lent cells, of which the first hold the rows as far as there is room, and the others stay
pub record Promise (text rows : List ℕ) (answer : Filing) (rows' : List ℕ) : Type 0 where
  pub numbers : answer.number ≡ (read_of text).number
  pub lines : answer.line ≡ (read_of text).line
  pub counts : answer.count ≡ length (read_of text).cells
  pub totals : answer.totals ≡ (read_of text).totals
  pub leaves : rows' ≡ take (length rows) (read_of text).cells ++ drop (length (read_of text).cells) rows

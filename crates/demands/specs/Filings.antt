-- What the front page says of a filing that is checked: statements only.
use Rattle.std.specs.Prelude.{ℕ, ◌+◌, ◌-◌, ◌*◌, ◌^◌, ◌<◌, ◌≤◌, List, [], ◌∷◌, ◌++◌, ◌↔◌, ◌⊎◌, ◌≡◌, length, get_or, Result, Ok, Err}
use Rattle.law.specs.Numbers.{row_cells, total_cells, most_bytes}
use Rattle.rules.specs.{Refusals.Fault, Refusals.fault_in, Judge.refuse, Outfalls.Line, Row.row_of, Row.rows_of, Row.total_of, Row.totals_of, Walk.Refused, Walk.Accepted, Walk.outcome}
use Rattle.text.specs.Line.{yes_line}
use Rattle.printed.specs.Program.{printed}
use Rattle.rules.specs.OnPaper.{OnPaper, says}
use Rattle.rules.specs.declared.Refused.{Refused as Fails}
use Rattle.filed.specs.declared.Verdict.{Verdict as Found}
use Rattle.filed.specs.declared.Verdict.TheVariants.{Agrees as Alike, Wrong as Unlike}
use Rattle.filed.specs.Filed.{verdict_on_paper, refused_with, checked}
use Rattle.filed.specs.Said.{said}

-- what is checked: a record file, the cells of the filed rows, and the filed totals
abbrev pub Filing : Type 0
Filing = record { file : List ℕ; rows : List ℕ; totals : List ℕ }

-- what may be said of it: it agrees; the first row and field that is wrong; or refused, with number and place, whatever they are
pub data Verdict : Type 0 where
  Agrees : Verdict
  Wrong : ℕ → ℕ → Verdict
  Unchecked : Fault → Verdict

-- as the document would write it down
unfoldable pub on_paper : Verdict → OnPaper
on_paper Agrees = says []
on_paper (Wrong row field) = says (row ∷ field ∷ [])
on_paper (Unchecked f) = refused_with f

-- what `check_filed` answers, in these words
unfoldable pub spoken : Result Found Fails → Verdict
spoken (Ok Alike) = Agrees
spoken (Ok (Unlike row field)) = Wrong row field
spoken (Err f) = Unchecked (fault_in f)

-- the promise of `check_filed`: the definition to read is `checked`
abbrev pub Meets : Filing → Verdict → Type 0
Meets x v = on_paper v ≡ checked x.file x.rows x.totals

-- "the rows and totals are those of document 01": the file is accepted, and so are they
pub record Right (x : Filing) : Type 0 where
  pub lines : List Line
  pub accepted : outcome x.file ≡ Accepted lines
  pub rows_are : x.rows ≡ rows_of lines
  pub totals_are : x.totals ≡ totals_of lines

-- this row and field is "the first .. that is wrong"
pub record FirstDiffers (x : Filing) (row field : ℕ) : Type 0 where
  pub lines : List Line
  pub accepted : outcome x.file ≡ Accepted lines
  pub count : length x.rows ≡ row_cells * length lines
  -- the right value: in a row that of the file's line (of `lines` the newest stands first), in the row after the last that of the total
  pub right : ℕ
  pub of_row : row < length lines → (field < row_cells) × ((other : Line) → right ≡ get_or (row_of (get_or lines (length lines - 1 - row) other)) field 0)
  pub of_totals : length lines ≤ row → (row ≡ length lines) × (field < total_cells) × (right ≡ total_of (field + 1) lines)
  -- what is filed there is another, and every cell before it is right
  pub differs : get_or (x.rows ++ x.totals) (row_cells * row + field) 0 ≡ right → ⊥
  pub before : (i : ℕ) → i < row_cells * row + field → get_or (x.rows ++ x.totals) i 0 ≡ get_or (rows_of lines ++ totals_of lines) i 0

-- refused: the file's own refusal, or, of an accepted file, "22, wrong row count"
abbrev pub RefusedBy : Filing → Fault → Type 0
RefusedBy x f = (outcome x.file ≡ Refused f)
    ⊎ ((lines : List Line) × (outcome x.file ≡ Accepted lines) × (f ≡ refuse 22 0) × (length x.rows ≡ row_cells * length lines → ⊥))

-- the check of a filing: one answer that keeps the promise and no second; and what each answer says
pub record Checks (x : Filing) : Type 0 where
  pub one : (v : Verdict) × Meets x v × ((w : Verdict) → Meets x w → w ≡ v)
  pub yes : Meets x Agrees ↔ Right x
  pub wrong : (row field : ℕ) → Meets x (Wrong row field) → FirstDiffers x row field
  pub refused : (f : Fault) → Meets x (Unchecked f) → RefusedBy x f
  -- "8 and 9 never"
  pub never : (f : Fault) → Meets x (Unchecked f) → (f.number ≡ 8 → ⊥) × (f.number ≡ 9 → ⊥)
  -- and what the code answers says the same on paper
  pub code : (v : Result Found Fails) → verdict_on_paper v ≡ on_paper (spoken v)

-- what the program `account` prints for a file is a filing of which the program `checker` says yes: of an accepted file that the programs take, whose figures
-- 64 bits hold
abbrev pub PrintedAgrees : List ℕ → Type 0
PrintedAgrees file = (lines : List Line) → outcome file ≡ Accepted lines → length file ≤ most_bytes → ((i : ℕ) → get_or (rows_of lines ++ totals_of lines) i 0 < 2 ^ 64)
    → said file (printed file) ≡ yes_line

-- Document 02, A6, "check what a plant has filed": "record file and filed rows in, yes or the first row and field that is wrong out".
use Rattle.std.specs.Prelude.{ℕ, ◌*◌, ◌/◌, ◌%◌, Bool, not, List, [], ◌∷◌, ◌++◌, length, get_or, eqb, Result, Ok, Err}
use Rattle.law.specs.Numbers.{row_cells}
use Rattle.law.specs.Words.{need, seek}
use Rattle.rules.specs.Refusals.{Fault, fault_in}
use Rattle.rules.specs.declared.Refused.{Refused as Fails}
use Rattle.rules.specs.OnPaper.{OnPaper, says}
use Rattle.rules.specs.Outfalls.{Line}
use Rattle.rules.specs.Row.{rows_of, totals_of}
use Rattle.rules.specs.Judge.{refuse}
use Rattle.rules.specs.Walk.{Outcome, Refused, Accepted, outcome}
use Rattle.filed.specs.declared.Verdict.{Verdict}
use Rattle.filed.specs.declared.Verdict.TheVariants.{Agrees, Wrong}

-- refused, with number and place
abbrev pub refused_with : Fault → OnPaper
refused_with f = record { number = f.number; values = f.place ∷ [] }

-- an answer as the document would write it down: "yes"; "the first row and field that is wrong"; or a number and a place
unfoldable pub verdict_on_paper : Result Verdict Fails → OnPaper
verdict_on_paper (Ok Agrees) = says []
verdict_on_paper (Ok (Wrong row field)) = says (row ∷ field ∷ [])
verdict_on_paper (Err f) = refused_with (fault_in f)

-- "totals count as one more row after the last": rows and totals, cell by cell
abbrev pub with_totals : List ℕ → List ℕ → List ℕ
with_totals rows totals = rows ++ totals

-- the i-th cell is wrong
unfoldable pub is_wrong : List ℕ → List ℕ → ℕ → Bool
is_wrong filed right i = not (eqb (get_or filed i 0) (get_or right i 0))

-- "the first row and field that is wrong", both counted from 0, or yes
unfoldable pub compared : List ℕ → List ℕ → OnPaper
compared filed right = seek (is_wrong filed right) (λ i. says (i / row_cells ∷ i % row_cells ∷ [])) (says []) 0 (length right)

-- 22, "wrong row count": any number of filed cells but seven for each line
unfoldable pub against_lines : List ℕ → List ℕ → List Line → OnPaper
against_lines rows totals lines =
    need (refused_with (refuse 22 0)) (eqb (length rows) (row_cells * length lines)) (compared (with_totals rows totals) (with_totals (rows_of lines) (totals_of lines)))

-- "the file's own come first (8 and 9 never), then 22"
unfoldable pub against : List ℕ → List ℕ → Outcome → OnPaper
against rows totals (Refused f) = refused_with f
against rows totals (Accepted lines) = against_lines rows totals lines

-- what is said of a filing: the rows' cells and the five totals
unfoldable pub checked : List ℕ → List ℕ → List ℕ → OnPaper
checked file rows totals = against rows totals (outcome file)

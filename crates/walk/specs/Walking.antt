-- What the walk and its steps promise each other.
use Rattle.std.specs.Prelude.{ℕ, ◌+◌, ◌*◌, ◌≤◌, List, ◌++◌, ◌≡◌, length, drop, Result, Ok, Err}
use Rattle.law.specs.Numbers.{most_lines, row_cells}
use Rattle.rules.specs.Refusals.{Answer, fault_in, told, answered}
use Rattle.rules.specs.declared.Refused.{Refused as RefusedAt}
use Rattle.rules.specs.declared.Record.{Record}
use Rattle.rules.specs.declared.View.{View}
use Rattle.rules.specs.Records.{record_in, size_in, records_from}
use Rattle.rules.specs.Judge.{fine, judge_record, judge_readings, judge}
use Rattle.rules.specs.Outfalls.{Line}
use Rattle.rules.specs.Row.{rows_of, totals_of, concentration_cells, flow_cells}
use Rattle.rules.specs.Walk.{Stand, view_of, taken, runs_of, walk, Refused, Accepted, outcome}
use Rattle.rules.specs.Account.{answer_from, rows_from, cells_from}
use Rattle.walk.specs.declared.books.Sums.{Sums}
use Rattle.walk.specs.declared.books.Taken.{Taken}
use Rattle.walk.specs.declared.books.Done.{Done}
use Rattle.walk.specs.declared.Walked.{Walked}
use Rattle.walk.specs.Books.{no_rows, Open, Kept}

-- a record that may be taken in where the walk stands
pub record Ready (stand : Stand) (bytes : List ℕ) (r : Record) (v : View) (s : Sums) (o : Open) (d : Done) : Type 0 where
  pub kept : Kept stand v s o d
  pub read : r ≡ record_in bytes
  pub passed : judge_record v (runs_of stand) r ≡ fine

-- the same for some stand
pub record SomeReady (bytes : List ℕ) (r : Record) (v : View) (s : Sums) (o : Open) (d : Done) : Type 0 where
  pub stand : Stand
  pub ready : Ready stand bytes r v s o d

-- it is taken in, unless a day's reading is refused
pub record Took (stand : Stand) (bytes : List ℕ) (r : Record) (t : Result Unit RefusedAt) (u : Taken) (o : Open) (d : Done) : Type 0 where
  pub faults : told t ≡ judge_readings bytes r
  pub stays : t ≡ Ok tt → Kept (taken stand bytes r) u.view u.sums o d

-- the promise of `take_in`: so wherever the walk stands
abbrev pub Takes : List ℕ → Record → View → Sums → Open → Done → Open → Done → Result Unit RefusedAt → Taken → Type 0
Takes bytes r v s o d o' d' t u = (stand : Stand) → Ready stand bytes r v s o d → Took stand bytes r t u o' d'

-- the code's state stands for some lines
pub record SomeKept (v : View) (s : Sums) (o : Open) (d : Done) : Type 0 where
  pub stand : Stand
  pub kept : Kept stand v s o d

-- a record is read and judged as the rules do; one that is not refused is whole, and taken in
pub record Stepped (stand : Stand) (bytes : List ℕ) (t : Result Unit RefusedAt) (u : Taken) (o : Open) (d : Done) : Type 0 where
  pub faults : told t ≡ judge (view_of stand) (runs_of stand) bytes
  pub stays : t ≡ Ok tt → Kept (taken stand bytes (record_in bytes)) u.view u.sums o d × (size_in bytes ≤ length bytes)
  pub within : (f : RefusedAt) → t ≡ Err f → f.place ≤ length bytes

-- the promise of `step`: so wherever the walk stands
abbrev pub Steps : List ℕ → View → Sums → Open → Done → Open → Done → Result Unit RefusedAt → Taken → Type 0
Steps bytes v s o d o' d' t u = (stand : Stand) → Kept stand v s o d → Stepped stand bytes t u o' d'

-- the code's state stands for some lines, from which the rules' walk goes on to the file's outcome
pub record Going (file : List ℕ) (v : View) (s : Sums) (at : ℕ) (o : Open) (d : Done) : Type 0 where
  pub stand : Stand
  pub most : ℕ
  pub kept : Kept stand v s o d
  pub within : at ≤ length file
  pub enough : length file ≤ at + most
  pub rest : walk file (records_from most file at) stand ≡ outcome file

-- a file that is walked to its end between two lines
pub record Ended (file conc flow : List ℕ) (w : Walked) : Type 0 where
  pub lines : List Line
  pub accepted : outcome file ≡ Accepted lines
  pub count : w.account.lines ≡ length lines
  pub most : length lines ≤ most_lines
  pub rows : w.rows ≡ rows_of lines ++ drop (row_cells * length lines) no_rows
  pub totals : w.account.totals ≡ totals_of lines
  pub conc_held_here : conc ≡ concentration_cells lines
  pub flow_held : flow ≡ flow_cells lines

-- the walk: refused, or ended
abbrev pub WalkPromise : List ℕ → List ℕ → List ℕ → Result Walked RefusedAt → Type 0
WalkPromise file conc flow (Err f) = outcome file ≡ Refused (fault_in f)
WalkPromise file conc flow (Ok w) = Ended file conc flow w

-- what a walk answers, and the rows that it leaves in cells that were clear: of a refusal none
abbrev pub walked_answer : Result Walked RefusedAt → Answer
walked_answer (Ok w) = answered (Ok w.account)
walked_answer (Err f) = answered (Err f)

abbrev pub walked_rows : Result Walked RefusedAt → List ℕ
walked_rows (Ok w) = w.rows
walked_rows (Err f) = no_rows

-- the promise of `walk_unlent`: answer and rows, as if 336 cleared cells were lent for these
pub record Unlent (file : List ℕ) (r : Answer) (rows : List ℕ) : Type 0 where
  pub answers : r ≡ answer_from (length no_rows) (outcome file)
  pub leaves : rows ≡ rows_from no_rows (outcome file)

-- the same with two work slices of 2,208 cells: what the promise of `account` asks where both are lent
pub record Settled (file : List ℕ) (r : Answer) (rows conc flow : List ℕ) : Type 0 where
  pub walked : Unlent file r rows
  pub concentrations_hold : conc ≡ cells_from concentration_cells (length no_rows) (outcome file)
  pub flows_hold : flow ≡ cells_from flow_cells (length no_rows) (outcome file)

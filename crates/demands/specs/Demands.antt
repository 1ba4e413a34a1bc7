-- What is proved of this program, on one page: statements only. `demands` and `code` of proofs/Demands.antt prove the two records at the end.
use Rattle.std.specs.Prelude.{ℕ, ◌+◌, ◌-◌, ◌*◌, ◌/◌, ◌^◌, ◌≤◌, ◌<◌}
use mathlib.Core.{Bool.Bool, Bool.true, Bool.false, List.List, List.◌∷◌, List.◌++◌, Logic.◌↔◌, Logic.◌⊎◌, Path.◌≡◌}
use lib.{ListN.length, ListN.take, ListN.drop, ListN.get_or, Ieee.Exact.HasValue}
use Rattle.std.specs.Borrow.{Bor}
use Rattle.law.specs.Numbers.{most_hours, row_cells, total_cells}
use Rattle.reading.specs.{declared.Hour.Hour, Reading.reading, Reading.allowed, Reading.exact, Reading.rounded}
use Rattle.rules.specs.{declared.Head.Head, Refusals.Answer, Hours.lacking, Lines.StackLine, Outfalls.OutfallLine, Outfalls.Line, Outfalls.OfStack, Measured.Measured, Grams.automatic, Grams.manual, Outfalls.head_of_line, Lines.surveyed, Lines.days_after, Alone.none_missing, Alone.days_alone, Grams.grams_of, Row.row_of, Walk.Accepted, Walk.outcome, Account.Promise}
use Rattle.answers.specs.{Heads.heads_of, Places.of_field, Places.PointsAt}
use Rattle.allowance.specs.Allowance.{Filling, in_air, in_water, AutomaticNear, ManualNear, StackNear, OutfallNear, Near}
use Rattle.panel.specs.{Lawful.as_total, Panel.empty_panel, Runs.after, Runs.products, Runs.missing_hours, Runs.NoneRefused, Runs.NoneBad}
use Rattle.survey.specs.Governing.{is_survey, part, here, governing}
use Rattle.quarter.proofs.account.Statement.{statement as accountMeets}
use Rattle.panel.proofs.Panel.hour.Statement.{statement as hourMeets}
use Rattle.survey.proofs.governing_survey.Statement.{statement as governingMeets}
use Rattle.import.proofs.import_days.Statement.{statement as importMeets}
use Rattle.import.specs.Nearest.{Nearest}
use Rattle.import.specs.Grammar.{FormedAs}
use Rattle.filed.proofs.check_filed.Statement.{statement as checkMeets}
use Rattle.filed.proofs.filed_text.Statement.{statement as filedTextMeets}
use Rattle.demands.specs.Imports.{BringsIn}
use Rattle.demands.specs.Filings.{Agrees, Filing, Meets, Checks, PrintedAgrees}

-- what an account call is lent: a file, cells for rows, and a work table each for concentration and flow; what it answers, and what the slices hold then
abbrev pub Call : Type 0
Call = record { file : List ℕ; rows : List ℕ; concentrations : List ℕ; flows : List ℕ }

abbrev pub Result : Type 0
Result = record { answer : Answer; rows : List ℕ; concentrations : List ℕ; flows : List ℕ }

-- a slice that a machine can hold, of numbers of so many bytes; a call that can be made, with u8, u64, u32 and u32 as the signature of `account` has them
abbrev pub Slice : ℕ → List ℕ → Type 0
Slice bytes s = ((i : ℕ) → get_or s i 0 < 256 ^ bytes) × (length s * bytes < 2 ^ 63)

abbrev pub Lent : Call → Type 0
Lent c = Slice 1 c.file × Slice 8 c.rows × Slice 4 c.concentrations × Slice 4 c.flows

-- the promise of the account call: the definition to read is `Promise`
abbrev pub Kept : Call → Result → Type 0
Kept c r = Promise c.file c.rows c.concentrations c.flows r.answer r.rows r.concentrations r.flows

-- some way to answer calls; and that it keeps the promise on every call that can be made
abbrev pub Version : Type 0
Version = Call → Result

abbrev pub Keeps : Version → Type 0
Keeps v = (c : Call) → Lent c → Kept c (v c)

-- a call that can be made, which a version accepts with so many rows, the last of them of this pollutant; and the grams of the i-th row
pub record Taken (v : Version) (pollutant rows : ℕ) : Type 0 where
  pub call : Call
  pub lent : Lent call
  pub number : (v call).answer.number ≡ 0
  pub count : (v call).answer.rows ≡ rows
  pub of : get_or (v call).rows (row_cells * (rows - 1) + 1) 0 ≡ pollutant

abbrev pub grams_in : Result → ℕ → ℕ
grams_in r i = get_or r.rows (row_cells * i + 3) 0

-- the four versions that have to be shut out, by what each does not do: accept a file ("refuses everything"); give two files other grams ("the same grams for
-- all files"); change rows and both work tables ("writes nothing"); give a second line other grams ("the first line and copies it for the rest")
pub record NoneOfFour (v : Version) (pollutant : ℕ) : Type 0 where
  pub accepts : Taken v pollutant 1
  pub grams : (a b : Taken v pollutant 1) × (grams_in (v a.call) 0 ≡ grams_in (v b.call) 0 → ⊥)
  pub writes : (a : Taken v pollutant 1) × ((v a.call).rows ≡ a.call.rows → ⊥) × ((v a.call).concentrations ≡ a.call.concentrations → ⊥) × ((v a.call).flows ≡ a.call.flows → ⊥)
  pub lines : (a : Taken v pollutant 2) × (grams_in (v a.call) 1 ≡ grams_in (v a.call) 0 → ⊥)

-- row i is the row of the file's i-th line, which its i-th head opens (of `lines` the newest stands first), and the grams are near the exact figure
pub record RowNear (file : List ℕ) (lines : List Line) (rows : List ℕ) (i : ℕ) : Type 0 where
  pub line : Line
  pub place : (other : Line) → get_or lines (length lines - 1 - i) other ≡ line
  pub opened : (other : Head) → get_or (heads_of file) i other ≡ head_of_line line
  pub row : take row_cells (drop (row_cells * i) rows) ≡ row_of line
  pub grams : get_or rows (row_cells * i + 3) 0 ≡ grams_of line
  pub near : Near line

-- what demand 3 says of a version: for every call that it accepts, a row for each line of the file, and every row near
abbrev pub EveryRowNear : Version → Type 0
EveryRowNear v =
    (c : Call) → Lent c → (v c).answer.number ≡ 0
    → (lines : List Line) × (outcome c.file ≡ Accepted lines) × ((v c).answer.rows ≡ length lines) × ((i : ℕ) → i < length lines → RowNear c.file lines (v c).rows i)

-- a version that refuses every call
abbrev pub RefusesAll : Version → Type 0
RefusesAll v = (c : Call) → Lent c → (v c).answer.number ≡ 0 → ⊥

-- a panel over any hours: when none is refused, and then the total, the hours and the missing hours, each exactly
pub record PanelExact (hs : List Hour) : Type 0 where
  pub taken : NoneRefused empty_panel hs ↔ NoneBad hs × (length hs ≤ most_hours) × (products hs ≤ 2 ^ 53)
  pub state : NoneRefused empty_panel hs → after empty_panel hs ≡ record { total = as_total (products hs); hours = length hs; missing = missing_hours hs }
  pub value : NoneRefused empty_panel hs → HasValue (after empty_panel hs).total false (products hs) 1

-- block i of a slice is its first survey of a kind and an hour; no block is one
abbrev pub FirstAt : List ℕ → ℕ → ℕ → ℕ → Type 0
FirstAt s kind hour i = (i < length s / 14) × (is_survey s kind hour (14 * i) ≡ true) × ((j : ℕ) → j < i → is_survey s kind hour (14 * j) ≡ false)

abbrev pub NoneAt : List ℕ → ℕ → ℕ → Type 0
NoneAt s kind hour = (j : ℕ) → j < length s / 14 → is_survey s kind hour (14 * j) ≡ false

-- which part of memory the governing survey is, and that no second one meets the promise of `governing_survey`
pub record Governs (e p : Bor (List ℕ)) (hour : ℕ) : Type 0 where
  pub first : (i : ℕ) → FirstAt e.now 3 hour i → governing e p hour ≡ part e (14 * i) 14
  pub second : NoneAt e.now 3 hour → (i : ℕ) → FirstAt p.now 4 hour i → governing e p hour ≡ part p (14 * i) 14
  pub neither : NoneAt e.now 3 hour → NoneAt p.now 4 hour → governing e p hour ≡ part p 0 0
  pub only : (r s : Bor (List ℕ)) → here r ≡ governing e p hour → here s ≡ governing e p hour → (r.ref_ptr ≡ s.ref_ptr) × (r.now ≡ s.now)

-- all that is demanded: one theorem
pub record Demands : Type 0 where
  -- DEMAND 1: every call, of any lists whatever, has one result that keeps the promise, and no second
  pub one : (c : Call) → (r : Result) × Kept c r × ((s : Result) → Kept c s → s ≡ r)
  -- DEMAND 2: who keeps the promise is none of the four, by lines of a stack (nitrogen oxides, 2) and by lines of an outfall (chemical oxygen demand, 4)
  pub two : (v : Version) → Keeps v → NoneOfFour v 2 × NoneOfFour v 4
  -- DEMAND 3: who keeps the promise states every row within its allowance
  pub three : (v : Version) → Keeps v → EveryRowNear v
  -- DEMAND 3 OVER THE SCALE: with any number of units to a gram, and missing hours filled or missing days not, what the methods by readings state is within
  -- the allowance of the exact figure; a line of a stack and a line of an outfall are its instances, by 100,000 units and by 100
  pub scale : (f : Filling) → (f ≡ in_air) ⊎ (f ≡ in_water) → (m : Measured) → 0 < m.units
      → AutomaticNear f m (automatic f.values m) × (0 < length m.surveys → ManualNear m (manual m))
  pub air : (x : StackLine) → StackNear x
  pub water : (x : OutfallLine) → OutfallNear x
  -- demand 3 alone lets every version through that refuses everything, and there is one; demand 2 lets none through
  pub alone : ((v : Version) × RefusesAll v) × ((v : Version) → RefusesAll v → EveryRowNear v × (Keeps v → ⊥))
  -- WHICH FIELD (A1): no call is refused with 3; 4 and 14 to 17 point at the first field of the refused record that is out of range (read `PointsAt`)
  pub places : (c : Call) (r : Result) → Kept c r → (r.answer.number ≡ 3 → ⊥) × (of_field r.answer.number ≡ true → PointsAt c.file r.answer.number r.answer.place)
  -- AN OUTAGE (A2): no survey adds a missing hour to a line; and where no survey of an accepted line lies in a missing hour, its days after step 1, and so its
  -- hours, its counts and its first missing hour, are those of document 01 alone (read `days_alone`)
  pub outage : (x : StackLine) → lacking (days_after x) ≤ lacking x.days
  pub elsewhere : (file : List ℕ) (later earlier : List Line) (x : StackLine) → outcome file ≡ Accepted (later ++ (OfStack x ∷ earlier)) → none_missing x.days (surveyed x) ≡ true
      → days_after x ≡ days_alone x
  -- every accepted reading is exactly a whole multiple of 2^-149, and none but minus zero is negative
  pub readings : (bits : ℕ) → allowed (reading bits) ≡ true → (sign : Bool) × HasValue (reading bits) sign (exact (reading bits)) (2 ^ 149) × (sign ≡ true → exact (reading bits) ≡ 0)
  -- THE PANEL, from the empty one over any list of hours
  pub panel : (hs : List Hour) → PanelExact hs
  -- THE GOVERNING SURVEY, of any two slices and any hour
  pub survey : (e p : Bor (List ℕ)) (hour : ℕ) → Governs e p hour
  -- A TEXT BROUGHT IN (A5), any text into any buffer: one result and no second; the records of one that is accepted say hour by hour what its lines say, and
  -- the account refuses none of them (read `BringsIn`)
  pub imports : (text buffer : List ℕ) → BringsIn text buffer
  -- ITS LINES: the test of a line is the grammar's, no more and no less (read `Grammar.antt` of `import`)
  pub lines : (text : List ℕ) → FormedAs text
  -- OVER THE DECIMALS: the reading nearest to n / scale is rounded back to n, at every scale that is fine enough below 2^j; two decimals and none are its
  -- instances, by 100 and 1
  pub decimals : (n scale j bits : ℕ) → n < scale * 2 ^ j → scale * 2 ^ j < 2 ^ 24 → Nearest n scale bits → rounded scale (reading bits) ≡ n
  -- A FILING (A6), any rows and five totals beside any file: one answer and no second; it agrees exactly where rows and totals are those of document 01; where a
  -- row and field is named, that cell differs and every cell before it is right, with the right value; refused by the file's own number, or by 22 (read `Checks`)
  pub checks : (x : Filing) → length x.totals ≡ total_cells → Checks x
  -- what the account call states agrees, for every file that it accepts; and so does what the program prints
  pub stated : (c : Call) (r : Result) → Kept c r → r.answer.number ≡ 0
      → Meets (record { file = c.file; rows = take (row_cells * r.answer.rows) r.rows; totals = r.answer.totals }) Agrees
  pub printed : (file : List ℕ) → PrintedAgrees file

-- THE CODE: each call itself, as it is compiled, meets the contract that stands at it in src/ (`Promise`, `panel_step`, `governing`, `Promise` of the import, `checked` and `said`), in every model of the machine
pub record Code (M : Type 1) : Type 2 where
  pub account : accountMeets M
  pub hour : hourMeets M
  pub survey : governingMeets M
  pub import : importMeets M
  pub check : checkMeets M
  pub filed : filedTextMeets M

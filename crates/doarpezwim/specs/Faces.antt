-- The faces that C and Rust call: what each answers and leaves in the cells lent to it.
use Rattle.std.specs.Prelude.{ℕ, List, [], ◌∷◌, ◌≡◌, length, get_or, leb, eqb, Float}
use Rattle.law.specs.Numbers.{total_cells}
use Rattle.law.specs.Words.{need, pick, table}
use Rattle.reading.specs.declared.Hour.{Hour}
use Rattle.reading.specs.declared.Hour.TheVariants.{Measured, Missing, Stopped}
use Rattle.rules.specs.Refusals.{Answer}
use Rattle.rules.specs.Row.{concentration_cells, flow_cells}
use Rattle.rules.specs.Account.{answer_of, rows_after, work_after}
use Rattle.panel.specs.declared.Panel.{Panel}
use Rattle.panel.specs.Panel.{Stepped, unchanged, panel_step}
use Rattle.import.specs.Nearest.{ToNearest}
use Rattle.import.specs.Import.{Imported, answer_of as importOf, buffer_after}
use Rattle.rules.specs.OnPaper.{OnPaper}
use Rattle.filed.specs.Filed.{checked}

-- the eight cells of an answer: "number and place (both 0 on acceptance), row count and" the "five totals"
unfoldable pub answer_cells : Answer → List ℕ
answer_cells a = a.number ∷ a.place ∷ a.rows ∷ table (λ i. get_or a.totals i 0) total_cells

-- the promise of `doarpezwim_account`: the number that it returns, the answer's cells, and what it leaves in the rows and in the two work slices
pub record AccountFace (file rows concentrations flows : List ℕ) (r : ℕ) (answer' rows' concentrations' flows' : List ℕ) : Type 0 where
  pub returns : r ≡ (answer_of file (length rows) (length concentrations) (length flows)).number
  pub answers : answer' ≡ answer_cells (answer_of file (length rows) (length concentrations) (length flows))
  pub leaves : rows' ≡ rows_after file rows (length concentrations) (length flows)
  pub concentrations_hold : concentrations' ≡ work_after concentration_cells file (length rows) (length concentrations) (length flows) concentrations
  pub flows_hold : flows' ≡ work_after flow_cells file (length rows) (length concentrations) (length flows) flows

-- "an hour of a stack is one of three things", by its kind: 0 stopped, 1 missing, 2 measured
unfoldable pub hour_of_kind : ℕ → Float → Float → Hour
hour_of_kind kind concentration flow = pick (eqb kind 0) Stopped (pick (eqb kind 1) Missing (Measured concentration flow))

-- a panel by its three cells
abbrev pub panel_of : Float → ℕ → ℕ → Panel
panel_of total hours missing = record { total = total; hours = hours; missing = missing }

-- 15: a kind that is none of the three, "a wrong state", before the state is looked at
unfoldable pub face_step : Panel → ℕ → Float → Float → Stepped
face_step p kind concentration flow = need (unchanged 15 p) (leb kind 2) (panel_step p (hour_of_kind kind concentration flow))

-- the promise of `doarpezwim_panel_hour`: the number that it returns, and the state that it leaves in the three cells
pub record PanelFace (p : Panel) (kind : ℕ) (concentration flow : Float) (r : ℕ) (total' : Float) (hours' missing' : ℕ) : Type 0 where
  pub returns : r ≡ (face_step p kind concentration flow).number
  pub total_after : total' ≡ (face_step p kind concentration flow).next.total
  pub hours_after : hours' ≡ (face_step p kind concentration flow).next.hours
  pub missing_after : missing' ≡ (face_step p kind concentration flow).next.missing

-- the promise of `doarpezwim_governing_survey`, by the bytes of the governing part: their number, and them or, where it is empty, the cells as they were
pub record PartFace (bytes part : List ℕ) (r : ℕ) (part' : List ℕ) : Type 0 where
  pub returns : r ≡ length bytes
  pub leaves : part' ≡ pick (eqb (length bytes) 14) bytes part

-- the three cells of an import's answer: number, line, and how many bytes are written
unfoldable pub import_cells : Imported → List ℕ
import_cells a = a.number ∷ a.line ∷ a.count ∷ []

-- the promise of `doarpezwim_import`: the number that it returns, the answer's cells, and what it leaves in the lent buffer, by the nearest patterns
pub record ImportFace (text records : List ℕ) (r : ℕ) (answer' records' : List ℕ) : Type 0 where
  pub near : ℕ → ℕ → ℕ
  pub nearest : ToNearest near
  pub returns : r ≡ (importOf (length records) text).number
  pub answers : answer' ≡ import_cells (importOf (length records) text)
  pub leaves : records' ≡ buffer_after near text records

-- the three cells of what is said of a filing: 0 where it agrees; 1, and the row and field that is wrong; 2, and the number and place of a refusal
unfoldable pub verdict_cells_by : ℕ → List ℕ → List ℕ
verdict_cells_by number [] = 0 ∷ 0 ∷ 0 ∷ []
verdict_cells_by number (place ∷ []) = 2 ∷ number ∷ place ∷ []
verdict_cells_by number (row ∷ field ∷ more) = 1 ∷ row ∷ field ∷ []

unfoldable pub verdict_cells : OnPaper → List ℕ
verdict_cells p = verdict_cells_by p.number p.values

-- the promise of `doarpezwim_check`: the first of these cells, and the cells
pub record CheckFace (file rows totals : List ℕ) (r : ℕ) (answer' : List ℕ) : Type 0 where
  pub returns : r ≡ get_or (verdict_cells (checked file rows totals)) 0 0
  pub answers : answer' ≡ verdict_cells (checked file rows totals)

-- What the program writes for each of its six calls, by what the faces and `filed` promise.
use Rattle.std.specs.Prelude.{ℕ, ◌+◌, ◌*◌, ◌%◌, ◌^◌, ◌≤◌, List, ◌++◌, length, replicate, ◌==◌, from_bits, to_bits, Float}
use Rattle.std.specs.Float.{binary32, binary64}
use Rattle.law.specs.Numbers.{total_cells}
use Rattle.law.specs.Words.{pick, table}
use Rattle.law.specs.Written.{Wrote}
use Rattle.rules.specs.Row.{concentration_cells, flow_cells}
use Rattle.rules.specs.Account.{answer_of, rows_after, work_after}
use Rattle.import.specs.Nearest.{ToNearest}
use Rattle.import.specs.Import.{answer_of as importOf, buffer_after}
use Rattle.filed.specs.Filed.{checked}
use Rattle.filed.specs.Said.{said}
use Rattle.doarpezwim.specs.Faces.{answer_cells, import_cells, panel_of, face_step, verdict_cells}
use Rattle.field.specs.Field.{u64}
use Rattle.field.specs.Bytes.{u32_bytes, u64_bytes, cells_bytes}

-- bytes written at the start of a buffer that holds them all
pub record Answered (bytes old new : List ℕ) (end : ℕ) : Type 0 where
  pub wrote : Wrote old 0 bytes new end
  pub within : end ≤ length new

-- "row cell i, concentration cell i and flow cell i each hold (seed + i) mod 2^32"
unfoldable pub lent_cells : ℕ → ℕ → List ℕ
lent_cells seed n = table (λ i. (seed + i) % 2 ^ 32) n

-- byte i of the lent buffer holds (seed + i) mod 2^32 mod 256
unfoldable pub lent_bytes : ℕ → ℕ → List ℕ
lent_bytes seed n = table (λ i. (seed + i) % 2 ^ 32 % 256) n

-- eight bytes for each cell of an answer: number, place, row count and totals
abbrev pub answer_bytes : ℕ
answer_bytes = 8 * (3 + total_cells)

-- "8 u64 .., then every row cell as u64, every concentration cell as u32, every flow cell as u32"
unfoldable pub left_bytes : List ℕ → List ℕ → List ℕ → List ℕ → List ℕ
left_bytes answer rows concentrations flows =
    ((cells_bytes u64_bytes answer ++ cells_bytes u64_bytes rows) ++ cells_bytes u32_bytes concentrations) ++ cells_bytes u32_bytes flows

-- "as they stand after the call"
unfoldable pub account_bytes : List ℕ → List ℕ → List ℕ → List ℕ → List ℕ
account_bytes file rows concentrations flows =
    left_bytes
    (answer_cells (answer_of file (length rows) (length concentrations) (length flows)))
    (rows_after file rows (length concentrations) (length flows))
    (work_after concentration_cells file (length rows) (length concentrations) (length flows) concentrations)
    (work_after flow_cells file (length rows) (length concentrations) (length flows) flows)

-- "u32 number, u64 bits of the total, u32 hours, u32 missing"
unfoldable pub state_bytes : ℕ → Float → ℕ → ℕ → List ℕ
state_bytes number total hours missing = ((u32_bytes number ++ u64_bytes (to_bits binary64 total)) ++ u32_bytes hours) ++ u32_bytes missing

-- the state after a panel's hour, of the patterns in its frame
unfoldable pub panel_bytes : ℕ → ℕ → ℕ → ℕ → ℕ → ℕ → List ℕ
panel_bytes total hours missing kind concentration flow =
    let s = face_step (panel_of (from_bits binary64 total) hours missing) kind (from_bits binary32 concentration) (from_bits binary32 flow) in
    state_bytes s.number s.next.total s.next.hours s.next.missing

-- "u32 length (14 or 0), 14 bytes (all 0xAA before the call)"
unfoldable pub survey_bytes : List ℕ → List ℕ
survey_bytes part = u32_bytes (length part) ++ pick (length part == 14) part (replicate 14 0xaa)

-- 3 u64: number, line, count; then every byte of the buffer as it stands after the call
unfoldable pub import_bytes : (ℕ → ℕ → ℕ) → List ℕ → List ℕ → List ℕ
import_bytes near text records = cells_bytes u64_bytes (import_cells (importOf (length records) text)) ++ buffer_after near text records

-- the answer of an import into a buffer of so many bytes, by the nearest patterns
pub record ImportAnswered (text : List ℕ) (seed room : ℕ) (old new : List ℕ) (end : ℕ) : Type 0 where
  pub near : ℕ → ℕ → ℕ
  pub nearest : ToNearest near
  pub answered : Answered (import_bytes near text (lent_bytes seed room)) old new end

-- n cells that stand in bytes from a place on, each a u64
unfoldable pub cells_at : List ℕ → ℕ → ℕ → List ℕ
cells_at s from n = table (λ i. u64 s (from + 8 * i)) n

-- 3 u64: 0, 0, 0; or 1, row and field; or 2, number and place
unfoldable pub check_bytes : List ℕ → List ℕ → List ℕ → List ℕ
check_bytes file rows totals = cells_bytes u64_bytes (verdict_cells (checked file rows totals))

-- u32 count, and that many bytes: the line that the program `checker` prints
unfoldable pub filed_bytes : List ℕ → List ℕ → List ℕ
filed_bytes file text = u32_bytes (length (said file text)) ++ said file text

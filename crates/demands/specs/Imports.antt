-- What the front page says of a text that is brought in: statements only.
use Rattle.std.specs.Prelude.{ℕ, zero, suc, ◌+◌, ◌*◌, ◌<◌, List, [], ◌∷◌, ◌++◌, ◌⊎◌, ◌≡◌, length, take, drop}
use Rattle.law.specs.Numbers.{hours_of_day, per_mg, per_cubic_metre}
use Rattle.reading.specs.Reading.{reading, concentration, flow}
use Rattle.rules.specs.{declared.Head.Head, declared.Pair.Pair, Records.Day, Records.day_of, Records.masks_of, Records.record_in, Hours.slot_of, Slots.Slot, Slots.valid, Slots.missing, Slots.stopped}
use Rattle.rules.specs.declared.Record.TheVariants.{OfHead, OfDay}
use Rattle.rules.specs.{Judge.judge, Judge.refuse, Lines.StackLine, Outfalls.OfStack, Walk.Between, Walk.view_of, Walk.Accepted, Walk.Refused, Walk.outcome}
use Rattle.import.specs.Nearest.{Nearest}
use Rattle.import.specs.Import.{Imported}
use Rattle.import.specs.Line.{state_of, concentration_of, flow_of}
use Rattle.import.specs.Import.{day_bytes, line_from, days_of, Promise}

-- an hour of a day record says what its line s says: R measured with the nearest readings, which the account rounds back to the numbers of the text; M missing;
-- S stopped
pub record HourKept (s : List ℕ) (hour : Slot Pair) : Type 0 where
  pub measured : state_of s ≡ 2
      → (p : Pair) × (hour ≡ valid p) × Nearest (concentration_of s) per_mg p.concentration × Nearest (flow_of s) per_cubic_metre p.flow
      × (concentration (reading p.concentration) ≡ concentration_of s) × (flow (reading p.flow) ≡ flow_of s)
  pub lacking : state_of s ≡ 1 → hour ≡ missing
  pub idle : state_of s ≡ 0 → hour ≡ stopped

-- the bytes r start with the record of a day, whose 24 hours are those of the lines from 24 x day on
pub record DayKept (text : List ℕ) (day : ℕ) (r : List ℕ) : Type 0 where
  pub is : record_in r ≡ OfDay (masks_of r)
  pub turn : (masks_of r).day ≡ day
  pub hours : (h : ℕ) → h < hours_of_day → HourKept (line_from (hours_of_day * day + h) text) (slot_of (day_of r) h)

-- the days of a buffer's first records, the newest first
unfoldable pub days_in : List ℕ → ℕ → List Day
days_in buffer zero = []
days_in buffer (suc n) = day_of (drop (day_bytes * n) buffer) ∷ days_in buffer n

-- the end record: length 2, kind 6
abbrev pub end_bytes : List ℕ
end_bytes = 2 ∷ 0 ∷ 6 ∷ 0 ∷ []

-- a head that the account takes as the first record of a file, of so many days
pub record SoundHead (head : List ℕ) (h : Head) (days : ℕ) : Type 0 where
  pub long : length head ≡ 14
  pub is : record_in head ≡ OfHead h
  pub sound : (judge (view_of (Between [])) [] head).number ≡ 0
  pub period : h.days ≡ days

-- a line of a head and days, with no survey and no batch
abbrev pub days_only : Head → List Day → StackLine
days_only h days = record { head = h; days = days; enforcement = []; plant = []; batches = [] }

-- the file of a head, the written days and an end: accepted with these days, or refused with 6 at its end, since it has no batch; so with no 1, 2, 4 or 15
pub record Accounted (head : List ℕ) (h : Head) (buffer : List ℕ) (days : ℕ) : Type 0 where
  pub walked : (outcome (head ++ (take (day_bytes * days) buffer ++ end_bytes)) ≡ Accepted (OfStack (days_only h (days_in buffer days)) ∷ []))
      ⊎ (outcome (head ++ (take (day_bytes * days) buffer ++ end_bytes)) ≡ Refused (refuse 6 (14 + day_bytes * days)))

-- what an accepted text becomes
pub record Brought (text buffer : List ℕ) (answer : Imported) (buffer' : List ℕ) : Type 0 where
  pub count : answer.count ≡ day_bytes * days_of (length buffer) text
  pub days : (day : ℕ) → day < days_of (length buffer) text → DayKept text day (drop (day_bytes * day) buffer')
  pub accounted : (head : List ℕ) (h : Head) → SoundHead head h (days_of (length buffer) text) → Accounted head h buffer' (days_of (length buffer) text)

-- what an import answers and leaves
abbrev pub Import : Type 0
Import = record { answer : Imported; buffer : List ℕ }

abbrev pub Imports : List ℕ → List ℕ → Import → Type 0
Imports text buffer r = Promise text buffer r.answer r.buffer

-- the import of a text into a buffer: one result that keeps the promise and no second; and what an accepted text becomes
pub record BringsIn (text buffer : List ℕ) : Type 0 where
  pub one : (r : Import) × Imports text buffer r × ((s : Import) → Imports text buffer s → s ≡ r)
  pub brought : (r : Import) → Imports text buffer r → r.answer.number ≡ 0 → Brought text buffer r.answer r.buffer

-- Why a file, a text or an hour is refused, by name; and what the document says of it: a number and a place. And the answer of the account, as the document has it.
use Rattle.std.specs.Prelude.{ℕ, List, Option, Some, None, Result, Ok, Err, replicate}
use Rattle.law.specs.Numbers.{total_cells}
use Rattle.rules.specs.declared.Refusal.{Refusal}
use Rattle.rules.specs.declared.Refusal.TheVariants.{BadRecord, OutOfPlace, BadReading, StoppedHour, NoBatch, NoEntry, FewRowCells, FewWorkCells, TotalTooLarge, TooManyHours, UnlawfulPanel, TooLong, HeadField, MaskField, FuelField, PastPeriod, NoMethod, BadLine, OutOfRange, NoRoom, RowCount}
use Rattle.rules.specs.declared.Method.{Method}
use Rattle.rules.specs.declared.Method.TheVariants.{Automatic, Manual, Balance, Coefficient}
use Rattle.rules.specs.declared.Refused.{Refused}
use Rattle.rules.specs.declared.Account.{Account}

-- a refusal's number and place: of a record, counted from its start; of a file, from the file's; of a text, its line. Number 0 refuses nothing
pub record Fault : Type 0 where
  pub number : ℕ
  pub place : ℕ

-- what the account call answers
pub record Answer : Type 0 where
  pub number : ℕ
  pub place : ℕ
  pub rows : ℕ
  pub totals : List ℕ

-- "numbers that say no"; 14 to 17 stand for 3, which is no longer given
abbrev pub number_of : Refusal → ℕ
number_of BadRecord = 1
number_of OutOfPlace = 2
number_of BadReading = 4
number_of StoppedHour = 5
number_of NoBatch = 6
number_of NoEntry = 7
number_of FewRowCells = 8
number_of FewWorkCells = 9
number_of TotalTooLarge = 10
number_of TooManyHours = 11
number_of UnlawfulPanel = 12
number_of TooLong = 13
number_of HeadField = 14
number_of MaskField = 15
number_of FuelField = 16
number_of PastPeriod = 17
number_of NoMethod = 18
number_of BadLine = 19
number_of OutOfRange = 20
number_of NoRoom = 21
number_of RowCount = 22

-- "automatic 1, manual 2, balance 3, coefficient 4", and 0 where no method is left
abbrev pub method_number : Option Method → ℕ
method_number (Some Automatic) = 1
method_number (Some Manual) = 2
method_number (Some Balance) = 3
method_number (Some Coefficient) = 4
method_number None = 0

-- a refusal at its place, on paper
unfoldable pub fault_in : Refused → Fault
fault_in f = record { number = number_of f.refusal; place = f.place }

module _ {A : Type 0} where
  -- what an answer says of a refusal: "both 0 on acceptance"
  unfoldable pub told : Result A Refused → Fault
  told (Ok a) = record { number = 0; place = 0 }
  told (Err f) = fault_in f

-- "the answer carries number and place (both 0 on acceptance), row count and" the "five totals"; "a file refusal answers number, byte offset .., row count and totals 0"
unfoldable pub answered : Result Account Refused → Answer
answered (Ok a) = record { number = 0; place = 0; rows = a.lines; totals = a.totals }
answered (Err f) = record { number = number_of f.refusal; place = f.place; rows = 0; totals = replicate total_cells 0 }

-- Refusals and what they say on paper: every refusal has a number of its own, which is not 0, so that paper loses nothing. Assumes nothing.
use Prim.Native.Nat.{ℕ}
use mathlib.Core.Bool.{false, true≢false}
use mathlib.Core.Path.{◌≡◌, refl, sym, ap, ap₂, ◌∙◌}
use lib.Dec.{eqb}
use Rattle.std.specs.Prelude.{Option, Some, None, Result, Ok, Err}
use Rattle.law.specs.Words.{need, pick}
use Rattle.rules.specs.declared.Refusal.{Refusal}
use Rattle.rules.specs.declared.Refusal.TheVariants.{BadRecord, OutOfPlace, BadReading, StoppedHour, NoBatch, NoEntry, FewRowCells, FewWorkCells, TotalTooLarge, TooManyHours, UnlawfulPanel, TooLong, HeadField, MaskField, FuelField, PastPeriod, NoMethod, BadLine, OutOfRange, NoRoom, RowCount}
use Rattle.rules.specs.declared.Method.{Method}
use Rattle.rules.specs.declared.Method.TheVariants.{Automatic, Manual, Balance, Coefficient}
use Rattle.rules.specs.declared.Refused.{Refused}
use Rattle.rules.specs.Refusals.{method_number, Fault, number_of, fault_in, told}
use Rattle.rules.specs.Judge.{fine, first}

-- ---- a refusal is read back from its number
refusal_from : ℕ → Refusal
refusal_from n =
    pick (eqb n 1) BadRecord
    (pick (eqb n 2) OutOfPlace
    (pick (eqb n 4) BadReading
    (pick (eqb n 5) StoppedHour
    (pick (eqb n 6) NoBatch
    (pick (eqb n 7) NoEntry
    (pick (eqb n 8) FewRowCells
    (pick (eqb n 9) FewWorkCells
    (pick (eqb n 10) TotalTooLarge
    (pick (eqb n 11) TooManyHours
    (pick (eqb n 12) UnlawfulPanel
    (pick (eqb n 13) TooLong
    (pick (eqb n 14) HeadField
    (pick (eqb n 15) MaskField
    (pick (eqb n 16) FuelField
    (pick (eqb n 17) PastPeriod
    (pick (eqb n 18) NoMethod
    (pick (eqb n 19) BadLine
    (pick (eqb n 20) OutOfRange
    (pick (eqb n 21) NoRoom RowCount)))))))))))))))))))

refusal_back : (r : Refusal) → refusal_from (number_of r) ≡ r
unfolding refusal_from pick
refusal_back BadRecord = refl
refusal_back OutOfPlace = refl
refusal_back BadReading = refl
refusal_back StoppedHour = refl
refusal_back NoBatch = refl
refusal_back NoEntry = refl
refusal_back FewRowCells = refl
refusal_back FewWorkCells = refl
refusal_back TotalTooLarge = refl
refusal_back TooManyHours = refl
refusal_back UnlawfulPanel = refl
refusal_back TooLong = refl
refusal_back HeadField = refl
refusal_back MaskField = refl
refusal_back FuelField = refl
refusal_back PastPeriod = refl
refusal_back NoMethod = refl
refusal_back BadLine = refl
refusal_back OutOfRange = refl
refusal_back NoRoom = refl
refusal_back RowCount = refl

pub refusal_only : (r s : Refusal) → number_of r ≡ number_of s → r ≡ s
refusal_only r s e = sym (refusal_back r) ∙ ap refusal_from e ∙ refusal_back s

-- no refusal has the number 0
pub numbered : (r : Refusal) → eqb (number_of r) 0 ≡ false
numbered BadRecord = refl
numbered OutOfPlace = refl
numbered BadReading = refl
numbered StoppedHour = refl
numbered NoBatch = refl
numbered NoEntry = refl
numbered FewRowCells = refl
numbered FewWorkCells = refl
numbered TotalTooLarge = refl
numbered TooManyHours = refl
numbered UnlawfulPanel = refl
numbered TooLong = refl
numbered HeadField = refl
numbered MaskField = refl
numbered FuelField = refl
numbered PastPeriod = refl
numbered NoMethod = refl
numbered BadLine = refl
numbered OutOfRange = refl
numbered NoRoom = refl
numbered RowCount = refl

refused_by : Refusal → ℕ → Refused
refused_by r n = record { refusal = r; place = n }

pub fault_only : (f g : Refused) → fault_in f ≡ fault_in g → f ≡ g
unfolding fault_in refused_by
fault_only f g e =
    let p = refusal_only f.refusal g.refusal (ap (λ (x : Fault). x.number) e) in
    let q = ap (λ (x : Fault). x.place) e in
    ap₂ refused_by p q

-- ---- the first of two faults, where the first is a refusal, and where it is none
pub first_told : (f : Refused) (g : Fault) → first (fault_in f) g ≡ fault_in f
unfolding fault_in first need
first_told f g = rw (numbered f.refusal)

pub told_ok : {A : Type 0} (a : A) (g : Fault) → first (told (Ok a)) g ≡ g
unfolding told first need
told_ok a g = refl

refused_not : (f : Refused) → fault_in f ≡ fine → ⊥
unfolding fault_in fine
refused_not f e = true≢false (sym (ap (λ (x : Fault). eqb x.number 0) e) ∙ numbered f.refusal)

-- what is told of two refusals alike is one refusal; and one that refuses tells nothing like one that does not
pub told_only : (x y : Result Unit Refused) → told x ≡ told y → x ≡ y
unfolding told fine
told_only (Ok a) (Ok b) e = refl
told_only (Ok a) (Err g) e = absurd (refused_not g (sym e))
told_only (Err f) (Ok b) e = absurd (refused_not f e)
told_only (Err f) (Err g) e = ap Err (fault_only f g e)

-- ---- a method is read back from its number
method_from : ℕ → Option Method
method_from n = pick (eqb n 1) (Some Automatic) (pick (eqb n 2) (Some Manual) (pick (eqb n 3) (Some Balance) (pick (eqb n 4) (Some Coefficient) None)))

method_back : (m : Option Method) → method_from (method_number m) ≡ m
unfolding method_from pick
method_back (Some Automatic) = refl
method_back (Some Manual) = refl
method_back (Some Balance) = refl
method_back (Some Coefficient) = refl
method_back None = refl

pub method_only : (m n : Option Method) → method_number m ≡ method_number n → m ≡ n
method_only m n e = sym (method_back m) ∙ ap method_from e ∙ method_back n

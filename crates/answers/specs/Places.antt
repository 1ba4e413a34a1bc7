-- Where a refusal points: the record that is refused, and the first of its fields that is out of range.
use Rattle.std.specs.Prelude.{ℕ, ◌+◌, ◌*◌, ◌≤◌, Bool, true, false, ◌&&◌, ◌||◌, List, [], ◌∷◌, ◌++◌, ◌≡◌, length, drop, leb, eqb}
use Rattle.law.specs.Numbers.{hours_of_day}
use Rattle.law.specs.Words.{pick}
use Rattle.field.specs.Field.{u8, u16, u32, u64}
use Rattle.rules.specs.declared.Record.{Record}
use Rattle.rules.specs.declared.Record.TheVariants.{Bad, OfHead, OfDay, OfEnforcement, OfPlant, OfBatch, OfEnd, OfOutfallHead, OfOutfallDay, OfOutfallEnforcement, OfOutfallPlant}
use Rattle.rules.specs.declared.View.{View}
use Rattle.rules.specs.Records.{day_of, record_in, size_in, Placed, records_of}
use Rattle.rules.specs.Fields.{Field, fits, between, head_fields, mask_fields, reading_fields, survey_fields, batch_fields, outfall_fields, water_day_fields}
use Rattle.rules.specs.Walk.{Stand, Between, view_of, taken}

-- the numbers whose place is a field's
unfoldable pub of_field : ℕ → Bool
of_field number = eqb number 4 || between 14 17 number

-- the fields of a record that can be out of range, in the order of their offsets, where the walk stands
unfoldable pub fields_of : View → List ℕ → Record → List Field
fields_of v bytes (OfHead h) = head_fields h
fields_of v bytes (OfDay m) = mask_fields m ++ reading_fields (day_of bytes)
fields_of v bytes (OfEnforcement s) = survey_fields (hours_of_day * v.head.days) s
fields_of v bytes (OfPlant s) = survey_fields (hours_of_day * v.head.days) s
fields_of v bytes (OfBatch b) = batch_fields v.fuel b
fields_of v bytes OfEnd = []
fields_of v bytes (OfOutfallHead o) = outfall_fields o
fields_of v bytes (OfOutfallDay d) = water_day_fields d
fields_of v bytes (OfOutfallEnforcement s) = survey_fields v.head.days s
fields_of v bytes (OfOutfallPlant s) = survey_fields v.head.days s
fields_of v bytes Bad = []

-- the number that lies at a place, so many bytes wide
unfoldable pub number_at : List ℕ → ℕ → ℕ → ℕ
number_at s place width = pick (eqb width 1) (u8 s place) (pick (eqb width 2) (u16 s place) (pick (eqb width 4) (u32 s place) (u64 s place)))

-- fields that end before an offset, each of them in range
unfoldable pub fine_before : ℕ → List Field → Bool
fine_before offset [] = true
fine_before offset (f ∷ fs) = (leb (f.offset + f.width) offset && fits f) && fine_before offset fs

-- where the walk stands behind records that it took in
unfoldable pub stand_behind : Stand → List Placed → Stand
stand_behind stand [] = stand
stand_behind stand (p ∷ ps) = stand_behind (taken stand p.bytes (record_in p.bytes)) ps

-- a file that is refused with this number at this place
pub record PointsAt (file : List ℕ) (number place : ℕ) : Type 0 where
  -- the record that is refused stands at `at`, behind those that were taken in
  pub before : List Placed
  pub at : ℕ
  pub behind : List Placed
  pub records : records_of file ≡ before ++ (record { place = at; bytes = drop at file } ∷ behind)
  -- of its fields, those before the one that is named are in range, and that one is not
  pub earlier : List Field
  pub field : Field
  pub later : List Field
  pub fields : fields_of (view_of (stand_behind (Between []) before)) (drop at file) (record_in (drop at file)) ≡ earlier ++ (field ∷ later)
  pub in_range : fine_before field.offset earlier ≡ true
  pub out_of_range : fits field ≡ false
  -- number and place are its own; there it lies, whole inside the record, and the record whole inside the file
  pub number_is : number ≡ field.number
  pub place_is : place ≡ at + field.offset
  pub holds : number_at file place field.width ≡ field.value
  pub inside : place + field.width ≤ at + size_in (drop at file)
  pub whole : at + size_in (drop at file) ≤ length file

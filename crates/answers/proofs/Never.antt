-- A number that no record gives refuses no file: "3 is no longer given", "8 and 9 never". Assumes nothing.
use Prim.Native.Nat.{ℕ}
use mathlib.Core.Bool.{Bool, false, true≢false}
use mathlib.Core.List.{List, [], ◌∷◌}
use mathlib.Core.Path.{◌≡◌, refl, sym, ap, subst, ◌∙◌}
use native.Mathlib.Omega.{arith}
use lib.Dec.{eqb}
use borrow.Author.Tests.{ne_eqb, eqb-false}
use Rattle.law.proofs.Tests.{pick_case}
use Rattle.law.specs.Words.{need_all}
use Rattle.rules.specs.Refusals.{Fault, Answer}
use Rattle.rules.specs.declared.Survey.{Survey}
use Rattle.rules.specs.declared.Record.{Record}
use Rattle.rules.specs.declared.Record.TheVariants.{Bad, OfHead, OfDay, OfEnforcement, OfPlant, OfBatch, OfEnd, OfOutfallHead, OfOutfallDay, OfOutfallEnforcement, OfOutfallPlant}
use Rattle.rules.specs.declared.View.{View}
use Rattle.rules.specs.Records.{day_of, record_in, Placed, records_of}
use Rattle.rules.specs.Fields.{Field, fits}
use Rattle.rules.specs.Judge.{refuse, fine, first, first_wrong, place_head, range_head, place_day, range_masks, place_enforcement, place_plant, judge_survey, place_batch, range_batch, place_end, judge_record, judge_readings, judge_hours, judge, place_water_day, judge_day_survey}
use Rattle.rules.specs.Walk.{Stand, Between, Inside, InWater, view_of, runs_of, taken, Outcome, Refused, ended, fault_of, walk, outcome}
use Rattle.rules.specs.Account.{Promise}
use Rattle.rules.proofs.Faults.{at_place-number}
use Rattle.rules.proofs.Fields.{FieldNumber, Row, row-none, row_more, head_row, mask_row, reading-row, survey-row, batch-row, outfall_row_lem, water_day-row}
use Rattle.answers.proofs.Answers.{answer_case}
use Rattle.answers.proofs.Silent.{Quiet, silent_fine, silent_need, silent_first, silent_placed, silent_bad, silent_stopped, silent_stopped_day, silent_method}
use Rattle.answers.proofs.Places.{fault_by}

-- a number that no record is refused with, neither for another reason than a field nor for a field
pub record Ungiven (n : ℕ) : Type 0 where
  pub quiet : Quiet (λ m. eqb m n)
  pub field : FieldNumber n → ⊥

module _ (n : ℕ) (u : Ungiven n) where
  abbrev is : ℕ → Bool
  is m = eqb m n

  abbrev q : Quiet is
  q = u.quiet

  -- a fault with another number
  abbrev Other : Fault → Type 0
  Other f = is f.number ≡ false

  field-other : (m : ℕ) → FieldNumber m → is m ≡ false
  field-other m e = ne_eqb m n (λ z. u.field (subst FieldNumber z e))

  wrong_other : (b : ℕ) {a : ℕ} {fs : List Field} → Row b a fs → Other (first_wrong fs)
  unfolding first_wrong
  wrong_other b (row-none l) = silent_fine is q
  wrong_other b (row_more {a} {f} {fs} e l r) = silent_need is q f.number f.offset (fits f) (first_wrong fs) (field-other f.number e) (wrong_other b r)

  two_other : (f g : Fault) → Other f → Other g → Other (first f g)
  two_other = silent_first is q

  -- a record without readings to judge, out of place or by its fields
  by_other : (ts : List Bool) (f : Fault) → Other f → Other (first (first (need_all (refuse 2 0) ts fine) f) fine)
  by_other ts f o = two_other _ _ (two_other _ _ (silent_placed is q ts) o) (silent_fine is q)

  module _ (v : View) (runs bytes : List ℕ) where
    survey-other : (s : Survey) → Other (judge_survey v runs s)
    unfolding judge_survey
    survey-other s = two_other _ _ (wrong_other 14 (survey-row _ s)) (silent_stopped is q runs s.hour)

    day_survey_other : (s : Survey) → Other (judge_day_survey v runs s)
    unfolding judge_day_survey
    day_survey_other s = two_other _ _ (wrong_other 14 (survey-row _ s)) (silent_stopped_day is q runs s.hour)

    record_other : (r : Record) → Other (first (judge_record v runs r) (judge_readings bytes r))
    unfolding judge_record judge_readings judge_hours place_head range_head place_day range_masks place_enforcement place_plant place_batch range_batch place_end place_water_day
    record_other Bad = two_other _ _ (silent_bad is q) (silent_fine is q)
    record_other (OfHead h) = by_other _ _ (wrong_other 14 (head_row h))
    record_other (OfDay m) = two_other _ _ (two_other _ _ (silent_placed is q _) (wrong_other 13 (mask_row m))) (wrong_other 205 (reading-row (day_of bytes)))
    record_other (OfEnforcement s) = by_other _ _ (survey-other s)
    record_other (OfPlant s) = by_other _ _ (survey-other s)
    record_other (OfBatch b) = by_other _ _ (wrong_other 16 (batch-row v.fuel b))
    record_other OfEnd = by_other _ _ (silent_method is q v)
    record_other (OfOutfallHead o) = by_other _ _ (wrong_other 8 (outfall_row_lem o))
    record_other (OfOutfallDay d) = by_other _ _ (wrong_other 14 (water_day-row d))
    record_other (OfOutfallEnforcement s) = by_other _ _ (day_survey_other s)
    record_other (OfOutfallPlant s) = by_other _ _ (day_survey_other s)

  walk-other : (file : List ℕ) (ps : List Placed) (stand : Stand) → Other (fault_by (walk file ps stand))
  unfolding walk ended fault_by refuse fine fault_of judge
  walk-other file [] (Between done) = q.zero
  walk-other file [] (Inside x done) = q.two
  walk-other file [] (InWater x done) = q.two
  walk-other file (p ∷ more) stand =
      pick_case (λ (o : Outcome). Other (fault_by o)) _ _ _ (λ _. walk-other file more (taken stand p.bytes (record_in p.bytes)))
      (λ _. ap is (at_place-number p.place _) ∙ record_other (view_of stand) (runs_of stand) p.bytes (record_in p.bytes))

  pub outcome-never : (file : List ℕ) (f : Fault) → outcome file ≡ Refused f → f.number ≡ n → ⊥
  unfolding outcome fault_by
  outcome-never file f o = eqb-false f.number n (subst (λ (x : Outcome). Other (fault_by x)) o (walk-other file (records_of file) (Between [])))

-- ---- such numbers
pub ungiven_3 : Ungiven 3
ungiven_3 =
    record { quiet = record { zero = refl; one = refl; two = refl; five = refl; six = refl; seven = refl; eighteen = refl }; field = λ e. true≢false (sym e) }

pub ungiven_8 : Ungiven 8
ungiven_8 =
    record { quiet = record { zero = refl; one = refl; two = refl; five = refl; six = refl; seven = refl; eighteen = refl }; field = λ e. true≢false (sym e) }

pub ungiven_9 : Ungiven 9
ungiven_9 =
    record { quiet = record { zero = refl; one = refl; two = refl; five = refl; six = refl; seven = refl; eighteen = refl }; field = λ e. true≢false (sym e) }

-- ---- what the account call answers
module _ (file rows : List ℕ) (a : Answer) (rows' conc flow conc' flow' : List ℕ) (p : Promise file rows conc flow a rows' conc' flow') where
  pub never_three : a.number ≡ 3 → ⊥
  never_three =
      answer_case file rows a rows' (λ (number place : ℕ). number ≡ 3 → ⊥)
      (λ z. omega (arith, z)) (λ z. omega (arith, z)) (λ z. omega (arith, z)) (outcome-never 3 ungiven_3 file) conc flow conc' flow' p

-- A record that is refused by a field: the first of its fields that is out of range, where it lies and what it holds. Assumes nothing.
use Prim.Native.Nat.{ℕ, ◌+◌, ◌*◌, ◌<◌, ◌≤◌}
use mathlib.Core.Bool.{Bool, true, false, ◌&&◌}
use mathlib.Core.List.{List, [], ◌∷◌, ◌++◌}
use mathlib.Core.Path.{◌≡◌, refl, sym, ap, subst, ◌∙◌}
use native.Mathlib.Omega.{arith}
use lib.ListN.{length}
use lib.Dec.{eqb}
use borrow.Author.Tests.{le-leb}
use Rattle.law.specs.Numbers.{hours_of_day}
use Rattle.law.specs.Words.{need, need_all, pick}
use Rattle.field.specs.Field.{u8}
use Rattle.law.proofs.Tests.{need_case, pick_case}
use Rattle.law.proofs.Each.{Each, each_none, each_more, each_append, each_joined}
use Rattle.rules.specs.Refusals.{Fault}
use Rattle.rules.specs.declared.Masks.{Masks}
use Rattle.rules.specs.declared.Pair.{Pair}
use Rattle.rules.specs.declared.Survey.{Survey}
use Rattle.rules.specs.declared.Record.{Record}
use Rattle.rules.specs.declared.View.{View}
use Rattle.rules.specs.Records.{head_of, pair_of, masks_of, day_of, survey_of, batch_of, outfall_of, water_day_of, record_in, size_in}
use Rattle.rules.specs.Fields.{Field, fits, head_fields, mask_fields, measured_fields, blank_fields, hour_fields, reading_fields, survey_fields, batch_fields, outfall_fields, water_day_fields}
use Rattle.rules.specs.Judge.{refuse, fine, first, first_wrong, place_head, range_head, place_day, range_masks, place_enforcement, place_plant, judge_survey, place_batch, range_batch, place_end, judge_record, judge_readings, judge_hours, place_water_day, judge_day_survey}
use Rattle.rules.proofs.Records.{record_case, pair-at}
use Rattle.rules.proofs.Faults.{first-first}
use Rattle.rules.proofs.Fields.{Row, row-none, row_more, row_ends, row-append, wrong_append, head_row, mask_row, reading-row, survey-row, batch-row, outfall_row_lem, water_day-row}
use Rattle.answers.specs.Places.{of_field, fields_of, number_at, fine_before}
use Rattle.answers.proofs.Silent.{Silent, silent_fine, silent_first, silent_placed, silent_bad, silent_stopped, silent_stopped_day, silent_method, quiet_fields}

-- ---- the first wrong field of a row
pub record WrongIn (a b : ℕ) (fs : List Field) (f : Fault) : Type 0 where
  pub earlier : List Field
  pub field : Field
  pub later : List Field
  pub split : fs ≡ earlier ++ (field ∷ later)
  pub in_range : fine_before field.offset earlier ≡ true
  pub out_of_range : fits field ≡ false
  pub number : f.number ≡ field.number
  pub place : f.place ≡ field.offset
  pub from : a ≤ field.offset
  pub to : field.offset + field.width ≤ b

abbrev Pointed : ℕ → ℕ → List Field → Fault → Type 0
Pointed a b fs f = of_field f.number ≡ true → WrongIn a b fs f

pub clash : (t : Bool) → t ≡ true → t ≡ false → ⊥
clash t p q = let z : ◌≡◌ {A = ℕ} 0 1 = cc in omega arith

module _ (a b : ℕ) (fs : List Field) where
  pointed_silent : (f : Fault) → Silent of_field quiet_fields f → Pointed a b fs f
  pointed_silent f s o = absurd (clash _ o s)

  behind_silent : (f g : Fault) → Silent of_field quiet_fields f → Pointed a b fs g → Pointed a b fs (first f g)
  unfolding first
  behind_silent f g s p = need_case (Pointed a b fs) f (eqb f.number 0) g (λ _. pointed_silent f s) (λ _. p)

  before_silent : (f g : Fault) → Pointed a b fs f → Silent of_field quiet_fields g → Pointed a b fs (first f g)
  unfolding first
  before_silent f g p s = need_case (Pointed a b fs) f (eqb f.number 0) g (λ _. p) (λ _. pointed_silent g s)

two_true : (s t : Bool) → s ≡ true → t ≡ true → (s && t) ≡ true
two_true s t p q = rw (p, q)

module _ (b : ℕ) where
  wrong_in : {a : ℕ} {fs : List Field} → Row b a fs → Pointed a b fs (first_wrong fs)
  unfolding first_wrong need refuse fine of_field fine_before
  wrong_in (row-none l) o = absurd (let z : ◌≡◌ {A = ℕ} 0 1 = cc in omega arith)
  wrong_in (row_more {a} {f} {fs} e l r) o = by (fits f) refl (wrong_in r) o
    where
      by : (t : Bool) → fits f ≡ t → Pointed (f.offset + f.width) b fs (first_wrong fs) → Pointed a b (f ∷ fs) (need (refuse f.number f.offset) t (first_wrong fs))
      by true q w o =
          let i = w o in
          record {
            earlier = f ∷ i.earlier;
            field = i.field;
            later = i.later;
            split = ap (λ (gs : List Field). f ∷ gs) i.split;
            in_range = two_true _ _ (two_true _ _ (le-leb _ _ i.from) q) i.in_range;
            out_of_range = i.out_of_range;
            number = i.number;
            place = i.place;
            from = omega (arith, l, i.from);
            to = i.to;
          }
      by false q w o =
          record { earlier = []; field = f; later = fs; split = refl; in_range = refl; out_of_range = q; number = refl; place = refl; from = l; to = row_ends b r }

-- ---- a field holds what lies at its offset
abbrev pub Holds : List ℕ → Field → Type 0
Holds bytes f = number_at bytes f.offset f.width ≡ f.value

module _ (bytes : List ℕ) where
  one_holds : {f : Field} {fs : List Field} → Holds bytes f → Each (Holds bytes) fs → Each (Holds bytes) (f ∷ fs)
  one_holds h r = each_more h r

  head_holds : Each (Holds bytes) (head_fields (head_of bytes))
  unfolding head_fields head_of number_at pick
  head_holds = one_holds refl (one_holds refl (one_holds refl (one_holds refl (one_holds refl (one_holds refl (one_holds refl each_none))))))

  masks_hold : Each (Holds bytes) (mask_fields (masks_of bytes))
  unfolding mask_fields masks_of number_at pick
  masks_hold = one_holds refl (one_holds refl each_none)

  measured_holds : (offset : ℕ) → Each (Holds bytes) (measured_fields offset (pair_of bytes offset))
  unfolding measured_fields pair_of number_at pick
  measured_holds offset = one_holds refl (one_holds refl each_none)

  blank_holds : (offset : ℕ) → Each (Holds bytes) (blank_fields offset (pair_of bytes offset))
  unfolding blank_fields pair_of number_at pick
  blank_holds offset = one_holds refl (one_holds refl each_none)

  hour_holds : (h : ℕ) → h < hours_of_day → Each (Holds bytes) (hour_fields (day_of bytes) h)
  unfolding hour_fields
  hour_holds h l =
      pick_case (Each (Holds bytes)) _ _ _
      (λ _. subst (λ (p : Pair). Each (Holds bytes) (measured_fields (13 + 8 * h) p)) (sym (pair-at bytes h l)) (measured_holds (13 + 8 * h)))
      (λ _. subst (λ (p : Pair). Each (Holds bytes) (blank_fields (13 + 8 * h) p)) (sym (pair-at bytes h l)) (blank_holds (13 + 8 * h)))

  day_holds : Each (Holds bytes) (mask_fields (masks_of bytes) ++ reading_fields (day_of bytes))
  unfolding reading_fields
  day_holds = each_append (Holds bytes) masks_hold (each_joined (Holds bytes) (hour_fields (day_of bytes)) 0 hours_of_day hour_holds)

  survey-holds : (days : ℕ) → Each (Holds bytes) (survey_fields days (survey_of bytes))
  unfolding survey_fields survey_of number_at pick
  survey-holds days = one_holds refl (measured_holds 6)

  batch-holds : (fuel : ℕ) → Each (Holds bytes) (batch_fields fuel (batch_of bytes))
  unfolding batch_fields batch_of number_at pick
  batch-holds fuel = one_holds refl (one_holds refl (one_holds refl each_none))

  outfall_holds : Each (Holds bytes) (outfall_fields (outfall_of bytes))
  unfolding outfall_fields outfall_of number_at pick
  outfall_holds = one_holds refl (one_holds refl each_none)

  state_holds : number_at bytes 5 1 ≡ u8 bytes 5
  unfolding number_at pick
  state_holds = refl

  water_day-holds : Each (Holds bytes) (water_day_fields (water_day_of bytes))
  unfolding water_day_fields water_day_of
  water_day-holds = one_holds state_holds (pick_case (Each (Holds bytes)) _ _ _ (λ _. measured_holds 6) (λ _. blank_holds 6))

-- ---- a record that is refused by a field
pub record InRecord (v : View) (bytes : List ℕ) (r : Record) (f : Fault) : Type 0 where
  pub wrong : WrongIn 4 (size_in bytes) (fields_of v bytes r) f
  pub held : Each (Holds bytes) (fields_of v bytes r)
  pub whole : size_in bytes ≤ length bytes

module _ (v : View) (runs bytes : List ℕ) where
  abbrev fault_in : Record → Fault
  fault_in r = first (judge_record v runs r) (judge_readings bytes r)

  abbrev Claim : Record → Type 0
  Claim r = of_field (fault_in r).number ≡ true → InRecord v bytes r (fault_in r)

  claim : (n : ℕ) (r : Record) → (size_in bytes ≡ n) × (n ≤ length bytes) → Pointed 4 n (fields_of v bytes r) (fault_in r) → Each (Holds bytes) (fields_of v bytes r) → Claim r
  claim n r (s, l) p h o =
      record {
        wrong = subst (λ (m : ℕ). WrongIn 4 m (fields_of v bytes r) (fault_in r)) (sym s) (p o);
        held = h;
        whole = omega (arith, s, l);
      }

  survey-pointed : (s : Survey) → Pointed 4 14 (survey_fields (hours_of_day * v.head.days) s) (judge_survey v runs s)
  unfolding judge_survey
  survey-pointed s =
      before_silent 4 14 _ _ _ (wrong_in 14 (survey-row (hours_of_day * v.head.days) s)) (silent_stopped of_field quiet_fields runs s.hour)

  day_survey_pointed : (s : Survey) → Pointed 4 14 (survey_fields v.head.days s) (judge_day_survey v runs s)
  unfolding judge_day_survey
  day_survey_pointed s =
      before_silent 4 14 _ _ _ (wrong_in 14 (survey-row v.head.days s)) (silent_stopped_day of_field quiet_fields runs s.hour)

  -- of a day the masks come first, then its readings
  day_pointed : (m : Masks) → Pointed 4 205 (mask_fields m ++ reading_fields (day_of bytes)) (first (first (place_day v m) (range_masks m)) (judge_hours (day_of bytes)))
  unfolding place_day range_masks judge_hours
  day_pointed m =
      subst (Pointed 4 205 (mask_fields m ++ reading_fields (day_of bytes)))
      (ap (first (place_day v m)) (wrong_append 13 (reading_fields (day_of bytes)) (mask_row m)) ∙ sym (first-first (place_day v m) (range_masks m) (judge_hours (day_of bytes))))
      (behind_silent 4 205 _ _ _ (silent_placed of_field quiet_fields _) (wrong_in 205 (row-append 13 205 (mask_row m) (reading-row (day_of bytes)))))

  no_more_fields : Silent of_field quiet_fields fine
  no_more_fields = silent_fine of_field quiet_fields

  -- a record without readings to judge, out of place or by its fields
  by_fields : (n : ℕ) (fs : List Field) (ts : List Bool) (f : Fault) → Pointed 4 n fs f → Pointed 4 n fs (first (first (need_all (refuse 2 0) ts fine) f) fine)
  by_fields n fs ts f p = before_silent 4 n fs _ _ (behind_silent 4 n fs _ _ (silent_placed of_field quiet_fields ts) p) no_more_fields

  pub in_record : Claim (record_in bytes)
  unfolding judge_record judge_readings fields_of place_head range_head place_enforcement place_plant place_batch range_batch place_end place_water_day
  in_record =
      record_case Claim bytes
      (λ o. absurd (clash _ o (silent_first of_field quiet_fields _ _ (silent_bad of_field quiet_fields) no_more_fields)))
      (record {
        head = λ z. claim 14 _ z (by_fields 14 _ _ _ (wrong_in 14 (head_row (head_of bytes)))) (head_holds bytes);
        day = λ z. claim 205 _ z (day_pointed (masks_of bytes)) (day_holds bytes);
        enforcement = λ z. claim 14 _ z (by_fields 14 _ _ _ (survey-pointed (survey_of bytes))) (survey-holds bytes _);
        plant = λ z. claim 14 _ z (by_fields 14 _ _ _ (survey-pointed (survey_of bytes))) (survey-holds bytes _);
        batch = λ z. claim 16 _ z (by_fields 16 _ _ _ (wrong_in 16 (batch-row v.fuel (batch_of bytes)))) (batch-holds bytes _);
      })
      (λ z o. absurd (clash _ o (silent_first of_field quiet_fields _ _ (silent_first of_field quiet_fields _ _ (silent_placed of_field quiet_fields _) (silent_method of_field quiet_fields v)) no_more_fields)))
      (record {
        head = λ z. claim 8 _ z (by_fields 8 _ _ _ (wrong_in 8 (outfall_row_lem (outfall_of bytes)))) (outfall_holds bytes);
        day = λ z. claim 14 _ z (by_fields 14 _ _ _ (wrong_in 14 (water_day-row (water_day_of bytes)))) (water_day-holds bytes);
        enforcement = λ z. claim 14 _ z (by_fields 14 _ _ _ (day_survey_pointed (survey_of bytes))) (survey-holds bytes _);
        plant = λ z. claim 14 _ z (by_fields 14 _ _ _ (day_survey_pointed (survey_of bytes))) (survey-holds bytes _);
      })

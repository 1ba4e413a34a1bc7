-- Laws of judging: whether a record is refused, and where; and what a record that is not refused has. Assumes nothing.
use Rattle.std.specs.Prelude.{Option, None}
use Prim.Native.Nat.{ℕ, suc, ◌+◌, ◌*◌, ◌<◌, ◌≤◌}
use mathlib.Core.Bool.{Bool, true, false, ◌||◌}
use mathlib.Core.List.{List}
use mathlib.Core.Path.{◌≡◌, refl, sym, ap, ◌∙◌}
use native.Mathlib.Omega.{arith}
use lib.ListN.{get_or, length}
use lib.Dec.{leb, ltb}
use borrow.Author.Tests.{leb-true, ltb-true, eqb-true, not-true}
use Rattle.law.specs.Numbers.{hours_of_day, most_days, most_lines, most_surveys, most_batches, most_sulphur, most_ash, most_fuel}
use Rattle.law.specs.Words.{need}
use Rattle.law.proofs.Tests.{pick_true, pick_false, pick_not_le, both_true}
use Rattle.rules.specs.declared.Head.{Head}
use Rattle.rules.specs.declared.Masks.{Masks}
use Rattle.rules.specs.declared.Survey.{Survey}
use Rattle.rules.specs.declared.Batch.{Batch}
use Rattle.rules.specs.declared.Record.{Record}
use Rattle.rules.specs.declared.Record.TheVariants.{Bad, OfHead, OfDay, OfEnforcement, OfPlant, OfBatch, OfEnd, OfOutfallHead, OfOutfallDay, OfOutfallEnforcement, OfOutfallPlant}
use Rattle.rules.specs.declared.Outfall.{Outfall}
use Rattle.rules.specs.declared.WaterDay.{WaterDay}
use Rattle.rules.specs.Refusals.{Fault}
use Rattle.rules.specs.declared.View.{View}
use Rattle.rules.specs.declared.Coefficients.{Coefficients}
use Rattle.rules.specs.Records.{head_of, masks_of, day_of, survey_of, batch_of, outfall_of, water_day_of, record_in}
use Rattle.rules.specs.Outfalls.{as_head}
use Rattle.rules.specs.Tables.{coefficients_of}
use Rattle.rules.specs.OnPaper.{record_on_paper, coefficients_on_paper}
use Rattle.rules.specs.Fields.{head_fields, survey_fields, batch_fields, outfall_fields, water_day_fields}
use Rattle.rules.specs.Judge.{refuse, fine, first, first_wrong, place_head, range_head, place_day, range_masks, blamed, judge_pair, judge_hours, surveys_left, survey_tests, place_enforcement, place_plant, judge_stopped, judge_survey, place_batch, range_batch, judge_entry, place_end, line_method, judge_fuel, daily_method, judge_method, place_water_day, judge_stopped_day, judge_day_survey, judge_record, judge_readings, judge}
use Rattle.rules.proofs.Faults.{Stands, stands, stands_fine, stands_first, Within, withins, within_fine, within_first, first_goes, first_stops, passed, each_passed, both-passed}
use Rattle.rules.proofs.Fields.{stands_wrong, within_wrong, each_fits, head_row, mask_row, reading-row, hours-stand, survey-row, batch-row, outfall_row_lem, water_day-row}
use Rattle.rules.proofs.Records.{record_case}
use Rattle.day.proofs.Laws.{PairAccepted, pair-accepted}

-- ---- a fault that refuses, or is fine
-- the fields of each kind, whatever they hold
head_stands : (h : Head) → Stands (range_head h)
unfolding range_head
head_stands h = stands_wrong 14 (head_row h)

masks_stand : (m : Masks) → Stands (range_masks m)
unfolding range_masks
masks_stand m = stands_wrong 13 (mask_row m)

survey-stands : (v : View) (runs : List ℕ) (s : Survey) → Stands (judge_survey v runs s)
unfolding judge_survey judge_stopped
survey-stands v runs s = search stands

day_survey_stands : (v : View) (states : List ℕ) (s : Survey) → Stands (judge_day_survey v states s)
unfolding judge_day_survey judge_stopped_day
day_survey_stands v states s = search stands

batch-stands : (v : View) (b : Batch) → Stands (range_batch v b)
unfolding range_batch
batch-stands v b = stands_wrong 16 (batch-row v.fuel b)

pub record_stands : (v : View) (runs : List ℕ) (r : Record) → Stands (judge_record v runs r)
unfolding judge_record judge_entry judge_fuel judge_method
record_stands v runs Bad = search stands
record_stands v runs (OfHead h) = stands_first _ _ (head_stands h)
record_stands v runs (OfDay m) = stands_first _ _ (masks_stand m)
record_stands v runs (OfEnforcement s) = stands_first _ _ (survey-stands v runs s)
record_stands v runs (OfPlant s) = stands_first _ _ (survey-stands v runs s)
record_stands v runs (OfBatch b) = stands_first _ _ (batch-stands v b)
record_stands v runs OfEnd = search stands depth 20
record_stands v runs (OfOutfallHead o) = stands_first _ _ (stands_wrong 8 (outfall_row_lem o))
record_stands v runs (OfOutfallDay d) = stands_first _ _ (stands_wrong 14 (water_day-row d))
record_stands v runs (OfOutfallEnforcement s) = stands_first _ _ (day_survey_stands v runs s)
record_stands v runs (OfOutfallPlant s) = stands_first _ _ (day_survey_stands v runs s)

pub readings-stand : (bytes : List ℕ) (r : Record) → Stands (judge_readings bytes r)
unfolding judge_readings
readings-stand bytes Bad = stands_fine
readings-stand bytes (OfHead h) = stands_fine
readings-stand bytes (OfDay d) = hours-stand (day_of bytes)
readings-stand bytes (OfEnforcement s) = stands_fine
readings-stand bytes (OfPlant s) = stands_fine
readings-stand bytes (OfBatch b) = stands_fine
readings-stand bytes OfEnd = stands_fine
readings-stand bytes (OfOutfallHead o) = stands_fine
readings-stand bytes (OfOutfallDay d) = stands_fine
readings-stand bytes (OfOutfallEnforcement s) = stands_fine
readings-stand bytes (OfOutfallPlant s) = stands_fine

-- ---- where a record is refused: within its bytes
within_more : (n m : ℕ) (f : Fault) → n ≤ m → Within n f → Within m f
within_more n m f l w = omega (arith, l, w)

survey-within : (v : View) (runs : List ℕ) (s : Survey) → Within 14 (judge_survey v runs s)
unfolding judge_survey judge_stopped
survey-within v runs s = within_first 14 _ _ (within_wrong 14 (survey-row (hours_of_day * v.head.days) s)) (search withins)

day_survey_within : (v : View) (states : List ℕ) (s : Survey) → Within 14 (judge_day_survey v states s)
unfolding judge_day_survey judge_stopped_day
day_survey_within v states s = within_first 14 _ _ (within_wrong 14 (survey-row v.head.days s)) (search withins)

pub record_within : (v : View) (runs bytes : List ℕ) → Within (length bytes) (judge_record v runs (record_in bytes))
unfolding judge_record place_head range_head place_day range_masks place_enforcement place_plant place_batch range_batch judge_entry place_end judge_fuel judge_method place_water_day
record_within v runs bytes =
    record_case (λ (r : Record). Within (length bytes) (judge_record v runs r)) bytes
    (search withins)
    (record {
      head = λ l. within_first _ _ _ (search withins) (within_more _ _ (range_head (head_of bytes)) l.1 (within_wrong 14 (head_row (head_of bytes))));
      day = λ l. within_first _ _ _ (search withins) (within_more _ _ (range_masks (masks_of bytes)) (omega (arith, l.1)) (within_wrong 13 (mask_row (masks_of bytes))));
      enforcement = λ l. within_first _ _ _ (search withins) (within_more _ _ (judge_survey v runs (survey_of bytes)) l.1 (survey-within v runs (survey_of bytes)));
      plant = λ l. within_first _ _ _ (search withins) (within_more _ _ (judge_survey v runs (survey_of bytes)) l.1 (survey-within v runs (survey_of bytes)));
      batch = λ l. within_first _ _ _ (search withins) (within_more _ _ (range_batch v (batch_of bytes)) l.1 (within_wrong 16 (batch-row v.fuel (batch_of bytes))));
    })
    (λ _. search withins depth 20)
    (record {
      head = λ l. within_first _ _ _ (search withins) (within_more _ _ (first_wrong (outfall_fields (outfall_of bytes))) l.1 (within_wrong 8 (outfall_row_lem (outfall_of bytes))));
      day = λ l. within_first _ _ _ (search withins) (within_more _ _ (first_wrong (water_day_fields (water_day_of bytes))) l.1 (within_wrong 14 (water_day-row (water_day_of bytes))));
      enforcement = λ l. within_first _ _ _ (search withins) (within_more _ _ (judge_day_survey v runs (survey_of bytes)) l.1 (day_survey_within v runs (survey_of bytes)));
      plant = λ l. within_first _ _ _ (search withins) (within_more _ _ (judge_day_survey v runs (survey_of bytes)) l.1 (day_survey_within v runs (survey_of bytes)));
    })

pub readings-within : (bytes : List ℕ) → Within (length bytes) (judge_readings bytes (record_in bytes))
unfolding judge_readings judge_hours
readings-within bytes =
    record_case (λ (r : Record). Within (length bytes) (judge_readings bytes r)) bytes
    (within_fine _)
    (record {
      head = λ _. within_fine _;
      day = λ l. within_more _ _ (judge_hours (day_of bytes)) l.1 (within_wrong 205 (reading-row (day_of bytes)));
      enforcement = λ _. within_fine _;
      plant = λ _. within_fine _;
      batch = λ _. within_fine _;
    })
    (λ _. within_fine _) (record { head = λ _. within_fine _; day = λ _. within_fine _; enforcement = λ _. within_fine _; plant = λ _. within_fine _ })

-- ---- the record in bytes: what refuses it as it is read refuses it, and where nothing does its readings speak
module _ (v : View) (runs bytes : List ℕ) (r : Record) (read : r ≡ record_in bytes) (f : Fault) (judged : f ≡ judge_record v runs r) where
  rest_of : first f (judge_readings bytes r) ≡ judge v runs bytes
  unfolding judge
  rest_of = ap (λ (x : Fault). first x (judge_readings bytes r)) judged ∙ ap (λ (x : Record). first (judge_record v runs x) (judge_readings bytes x)) read

  pub judge-refused : (f.number ≡ 0 → ⊥) → f ≡ judge v runs bytes
  judge-refused n = first_stops f (judge_readings bytes r) n ∙ rest_of

  pub judge-passed : f.number ≡ 0 → judge_readings bytes r ≡ judge v runs bytes
  judge-passed z = first_goes f (judge_readings bytes r) z ∙ rest_of

-- ---- what the walk asks of a record that is not refused
pub record HeadOk (v : View) (h : Head) : Type 0 where
  pub outside : (v.inside || v.water) ≡ false
  pub room : v.lines < most_lines
  pub pollutant_least : 1 ≤ h.pollutant
  pub pollutant_most : h.pollutant ≤ 3
  pub days_most : h.days ≤ most_days

pub record DayOk (v : View) (m : Masks) : Type 0 where
  pub inside : v.inside ≡ true
  pub room : v.days < v.head.days
  pub turn : m.day ≡ v.days

-- a survey inside a line of its world, within a period of so many hours or days
pub record SurveyOk (here : Bool) (period : ℕ) (v : View) (s : Survey) : Type 0 where
  pub inside : here ≡ true
  pub days_done : v.days ≡ v.head.days
  pub room : v.enforcement.count + v.plant.count < most_surveys
  pub in_period : s.hour < period
  pub pair : PairAccepted s.pair

pub record OutfallOk (v : View) (o : Outfall) : Type 0 where
  pub outside : (v.inside || v.water) ≡ false
  pub room : v.lines < most_lines
  pub pollutant_least : 4 ≤ o.pollutant
  pub pollutant_most : o.pollutant ≤ 5
  pub days_most : o.days ≤ most_days

pub record WaterDayOk (v : View) (d : WaterDay) : Type 0 where
  pub inside : v.water ≡ true
  pub room : v.days < v.head.days
  pub turn : d.day ≡ v.days
  pub fields : first_wrong (water_day_fields d) ≡ fine

pub record BatchOk (v : View) (b : Batch) : Type 0 where
  pub inside : v.inside ≡ true
  pub room : v.batches < most_batches
  pub sulphur_most : b.sulphur ≤ most_sulphur
  pub ash_most : b.ash ≤ most_ash
  pub fuel-most : v.fuel + b.kg ≤ most_fuel

pub record EndOk (v : View) : Type 0 where
  pub inside : (v.inside || v.water) ≡ true
  pub days_done : v.days ≡ v.head.days
  pub left : v.water ≡ true → 0 < daily_method v
  pub by_fuel : v.water ≡ false → 2 < line_method v → (0 < v.batches) × (coefficients_of v.head ≡ None → ⊥)

module _ (v : View) where
  pub head_ok : (runs : List ℕ) (h : Head) → judge_record v runs (OfHead h) ≡ fine → HeadOk v h
  unfolding judge_record place_head range_head head_fields
  head_ok runs h e =
      let both = both-passed (place_head v h) (range_head h) (search stands) e in
      let p = each_passed 2 0 _ refl both.0 in
      let r = each_fits 14 (head_row h) both.1 in
      let pollutant = both_true (leb 1 h.pollutant) (leb h.pollutant 3) (r 0) in
      let days = both_true (leb 1 h.days) (leb h.days most_days) (r 6) in
      record { outside = not-true (v.inside || v.water) (p 0); room = ltb-true _ _ (p 2); pollutant_least = leb-true _ _ pollutant.0; pollutant_most = leb-true _ _ pollutant.1; days_most = leb-true _ _ days.1 }

  pub day_ok : (runs : List ℕ) (m : Masks) → judge_record v runs (OfDay m) ≡ fine → DayOk v m
  unfolding judge_record place_day
  day_ok runs m e =
      let both = both-passed (place_day v m) (range_masks m) (search stands) e in
      let p = each_passed 2 0 _ refl both.0 in
      record { inside = p 0; room = ltb-true _ _ (p 1); turn = eqb-true _ _ (p 2) }

  -- a survey of either kind, of either world, by where it stands
  survey-ok : (inside : Bool) (period floor : ℕ) (s : Survey) (f : Fault) → ((i : ℕ) → get_or (survey_tests inside v floor s.hour) i true ≡ true)
      → first (first_wrong (survey_fields period s)) f ≡ fine → SurveyOk inside period v s
  unfolding survey_tests surveys_left survey_fields first_wrong judge_pair
  survey-ok inside period floor s f p e =
      let both = both-passed (first_wrong (survey_fields period s)) f (stands_wrong 14 (survey-row period s)) e in
      let a = passed 17 4 (ltb s.hour period) _ refl both.0 in
      record { inside = p 0; days_done = eqb-true _ _ (p 1); room = ltb-true _ _ (p 4); in_period = ltb-true _ _ a.0; pair = pair-accepted 6 s.pair a.1 }

  -- by the fault that its fields and its hour or day give
  placed_enforcement : (inside : Bool) (period : ℕ) (s : Survey) (f : Fault) → first (place_enforcement inside v s) (first (first_wrong (survey_fields period s)) f) ≡ fine
      → (v.plant.count ≡ 0) × SurveyOk inside period v s
  unfolding place_enforcement
  placed_enforcement inside period s f e =
      let both = both-passed (place_enforcement inside v s) (first (first_wrong (survey_fields period s)) f) (search stands) e in
      let p = each_passed 2 0 _ refl both.0 in
      (eqb-true _ _ (p 0), survey-ok inside period v.enforcement.floor s f (λ i. p (suc i)) both.1)

  placed_plant : (inside : Bool) (period : ℕ) (s : Survey) (f : Fault) → first (place_plant inside v s) (first (first_wrong (survey_fields period s)) f) ≡ fine → SurveyOk inside period v s
  unfolding place_plant
  placed_plant inside period s f e =
      let both = both-passed (place_plant inside v s) (first (first_wrong (survey_fields period s)) f) (search stands) e in
      survey-ok inside period v.plant.floor s f (each_passed 2 0 _ refl both.0) both.1

  pub enforcement_ok : (runs : List ℕ) (s : Survey) → judge_record v runs (OfEnforcement s) ≡ fine → (v.plant.count ≡ 0) × SurveyOk v.inside (hours_of_day * v.head.days) v s
  unfolding judge_record judge_survey
  enforcement_ok runs s e = placed_enforcement v.inside (hours_of_day * v.head.days) s (judge_stopped runs s.hour) e

  pub plant_ok : (runs : List ℕ) (s : Survey) → judge_record v runs (OfPlant s) ≡ fine → SurveyOk v.inside (hours_of_day * v.head.days) v s
  unfolding judge_record judge_survey
  plant_ok runs s e = placed_plant v.inside (hours_of_day * v.head.days) s (judge_stopped runs s.hour) e

  -- ---- an outfall
  pub outfall_ok : (states : List ℕ) (o : Outfall) → judge_record v states (OfOutfallHead o) ≡ fine → OutfallOk v o
  unfolding judge_record place_head outfall_fields
  outfall_ok states o e =
      let both = both-passed (place_head v (as_head o)) (first_wrong (outfall_fields o)) (search stands) e in
      let p = each_passed 2 0 _ refl both.0 in
      let r = each_fits 8 (outfall_row_lem o) both.1 in
      let pollutant = both_true (leb 4 o.pollutant) (leb o.pollutant 5) (r 0) in
      let days = both_true (leb 1 o.days) (leb o.days most_days) (r 1) in
      record { outside = not-true (v.inside || v.water) (p 0); room = ltb-true _ _ (p 2); pollutant_least = leb-true _ _ pollutant.0; pollutant_most = leb-true _ _ pollutant.1; days_most = leb-true _ _ days.1 }

  pub water_day-ok : (states : List ℕ) (d : WaterDay) → judge_record v states (OfOutfallDay d) ≡ fine → WaterDayOk v d
  unfolding judge_record place_water_day
  water_day-ok states d e =
      let both = both-passed (place_water_day v d) (first_wrong (water_day_fields d)) (search stands) e in
      let p = each_passed 2 0 _ refl both.0 in
      record { inside = p 0; room = ltb-true _ _ (p 1); turn = eqb-true _ _ (p 2); fields = both.1 }

  pub day_enforcement_ok : (states : List ℕ) (s : Survey) → judge_record v states (OfOutfallEnforcement s) ≡ fine → (v.plant.count ≡ 0) × SurveyOk v.water v.head.days v s
  unfolding judge_record judge_day_survey
  day_enforcement_ok states s e = placed_enforcement v.water v.head.days s (judge_stopped_day states s.hour) e

  pub day_plant_ok : (states : List ℕ) (s : Survey) → judge_record v states (OfOutfallPlant s) ≡ fine → SurveyOk v.water v.head.days v s
  unfolding judge_record judge_day_survey
  day_plant_ok states s e = placed_plant v.water v.head.days s (judge_stopped_day states s.hour) e

  pub batch-ok : (runs : List ℕ) (b : Batch) → judge_record v runs (OfBatch b) ≡ fine → BatchOk v b
  unfolding judge_record place_batch range_batch batch_fields
  batch-ok runs b e =
      let both = both-passed (place_batch v) (range_batch v b) (search stands) e in
      let p = each_passed 2 0 _ refl both.0 in
      let r = each_fits 16 (batch-row v.fuel b) both.1 in
      record { inside = p 0; room = ltb-true _ _ (p 2); sulphur_most = leb-true _ _ (r 1); ash_most = leb-true _ _ (r 2); fuel-most = leb-true _ _ (both_true (leb 1 b.kg) (leb (v.fuel + b.kg) most_fuel) (r 0)).1 }

  entry_ok : (entry : Option Coefficients) → judge_entry entry ≡ fine → entry ≡ None → ⊥
  unfolding judge_entry blamed need coefficients_on_paper refuse fine
  entry_ok entry e q = let z : (judge_entry None).number ≡ 0 = ap (λ (f : Fault). f.number) (sym (ap judge_entry q) ∙ e) in omega arith

  fuel-ok : judge_fuel v ≡ fine → 2 < line_method v → (0 < v.batches) × (coefficients_of v.head ≡ None → ⊥)
  unfolding judge_fuel
  fuel-ok e l =
      let a = passed 6 0 (ltb 0 v.batches) _ refl (pick_not_le _ _ _ _ _ l refl ∙ e) in
      (ltb-true _ _ a.0, entry_ok (coefficients_of v.head) a.1)

  pub end_ok : (runs : List ℕ) → judge_record v runs OfEnd ≡ fine → EndOk v
  unfolding judge_record place_end judge_method
  end_ok runs e =
      let both = both-passed (place_end v) (judge_method v) (search stands) e in
      let p = each_passed 2 0 _ refl both.0 in
      record {
        inside = p 0;
        days_done = eqb-true _ _ (p 1);
        left = λ w. ltb-true _ _ (passed 18 0 (ltb 0 (daily_method v)) _ refl (pick_true _ _ _ _ w refl ∙ both.1)).0;
        by_fuel = λ w. fuel-ok (pick_false _ _ _ _ w refl ∙ both.1);
      }

  -- a bad record is always refused
  pub bad_refused : (runs : List ℕ) → judge_record v runs Bad ≡ fine → ⊥
  unfolding judge_record blamed need record_on_paper refuse fine
  bad_refused runs e = let z : (judge_record v runs Bad).number ≡ 0 = ap (λ (f : Fault). f.number) e in omega arith

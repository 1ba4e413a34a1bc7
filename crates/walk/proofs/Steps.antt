-- The books of a line go on from record to record. Assumes nothing.
use mathlib.Core.Path.{◌≡◌, refl, ◌∙◌, sym, ap, subst}
use mathlib.Core.Bool.{Bool, true, false}
use mathlib.Core.List.{List, [], ◌∷◌, ◌++◌}
use Prim.Native.Nat.{ℕ, suc, ◌+◌, ◌-◌, ◌*◌, ◌<◌, ◌≤◌, max}
use native.Mathlib.Numerals.{add-one}
use native.Mathlib.Nat.{mul-le-mul}
use native.Mathlib.Omega.{arith}
use native.Mathlib.Decide.{dec_lt, ℕ_discrete}
use lib.ListN.{length, get_or, set, length-append}
use lib.Seq.{take-suc-set, get_or-set_other}
use borrow.Author.Tests.{eq-eqb, ne_eqb}
use Rattle.law.specs.Numbers.{hours_of_day, most_days, most_hours, total_cells, most_surveys, most_sulphur, most_ash, most_fuel, most_concentration, most_flow, most_amount}
use Rattle.law.specs.Words.{pick, sum_of, table, largest}
use Rattle.law.proofs.Tabled.{table_same, table_set, table_patch}
use Rattle.rules.specs.declared.Head.{Head}
use Rattle.rules.specs.declared.Survey.{Survey}
use Rattle.rules.specs.declared.Batch.{Batch}
use Rattle.rules.specs.Records.{Day}
use Rattle.rules.specs.Slots.{stopped}
use Rattle.rules.specs.Hours.{slot_of, slots_of, run_masks, measured_masks, lacking}
use Rattle.rules.specs.Lines.{StackLine, has_survey, besides, surveyed, put_survey, put_surveys, days_after, hours, surveys, fuel}
use Rattle.rules.proofs.Surveyed.{days_length, days_runs, put_measured, put_lacking}
use Rattle.rules.specs.Fill.{Values, zeroes}
use Rattle.rules.specs.Grams.{values_of, amount, survey_values, sulphur_of}
use Rattle.rules.specs.Walk.{begun, with_day, with_enforcement, with_plant, with_batch}
use Rattle.fuel.specs.Fuel.{ash_of}
use Rattle.fuel.proofs.Batches.{in_range_none, in_range_more}
use Rattle.walk.proofs.Cleared.{table_zero}
use Rattle.rules.specs.declared.World.TheVariants.{Air}
use Rattle.walk.specs.declared.books.Sums.{Sums}
use Rattle.line.specs.Put.{standing}
use Rattle.walk.specs.Views.{opened_sums, with_survey, with_fuel}
use Rattle.walk.specs.Books.{put_from, in_cell, values_at, flag_at, Open, in_open, MasksKept, CellsKept, SurveysKept, LineBooks, Long}
use Rattle.walk.proofs.Hours.{begun-zero, past-zero, after-day, day_before, day_own, survey-own, survey-other}
use Rattle.walk.proofs.Masks.{states_day, states_marked, masks_marked, found_kept}
use Rattle.hours.specs.Marks.{with_measured, found_by}
use Rattle.day.specs.Day.{hour_state}

-- ---- a head: nothing is taken in yet
begun-cells : (h : Head) (f : Values → ℕ) (most : ℕ) → f zeroes ≡ 0 → CellsKept (λ k. f (values_at (hours (begun h)) k)) most (table (λ k. 0) most_hours)
begun-cells h f most z =
    let none : (k : ℕ) → f (values_at (hours (begun h)) k) ≡ 0 = λ k. ap f (begun-zero h k) ∙ z in
    record { hold = table_same (λ k. 0) (λ k. f (values_at (hours (begun h)) k)) most_hours (λ k m. sym (none k)); within = λ k. omega (arith, none k) }

pub begun-books : (h : Head) (runs measured states : List ℕ) → h.days ≤ most_days → (1 ≤ h.pollutant) × (h.pollutant ≤ total_cells)
    → LineBooks (begun h) (opened_sums h Air) (in_open runs measured states (table (λ k. false) most_hours) (table (λ k. 0) most_hours) (table (λ k. 0) most_hours))
unfolding begun table run_masks measured_masks surveys surveyed besides days_after put_surveys sulphur_of ash_of sum_of largest flag_at has_survey pick zeroes
begun-books h runs measured states l p =
    record {
      masks = record { runs_kept = refl; measured_kept = refl; states_kept_here = refl };
      concentrations = begun-cells h (λ v. v.c) most_concentration refl;
      flows = begun-cells h (λ v. v.l) most_flow refl;
      surveys = record { flagged = refl; past = λ k m. table_zero false most_hours k; counted = refl; weighed = refl; most = omega arith };
      fuel = record { largest = refl; summed = refl; range = in_range_none };
      used = refl;
      pollutant = p;
      period = l;
      days = omega arith;
      early = λ _. (refl, refl);
      few = omega arith;
    }

-- ---- a day
day_past : (x : StackLine) (d : Day) (h : ℕ) → hours_of_day * length x.days + 24 ≤ h → values_at (hours (with_day x d)) h ≡ zeroes
unfolding with_day
day_past x d h l = past-zero (with_day x d) h (omega arith)

module _ (x : StackLine) (d : Day) {s : Sums} {o : Open} (k : LineBooks x s o) (more : length x.days < x.head.days) where
  abbrev n : ℕ
  n = length x.days

  old_hours : (h : ℕ) → h < hours_of_day * n → values_at (hours (with_day x d)) h ≡ values_at (hours x) h
  old_hours h l = day_before x d (k.early more).0 (k.early more).1 h l

  own_hours : (i : ℕ) → i < 24 → values_at (hours (with_day x d)) (hours_of_day * n + i) ≡ in_cell (slot_of d i)
  own_hours i l = day_own x d (k.early more).0 (k.early more).1 i l

  -- what holds of every hour before, of the day's own and of nothing holds of every hour after
  day_all : (Q : Values → Type 0) → ((h : ℕ) → Q (values_at (hours x) h)) → ((i : ℕ) → i < 24 → Q (in_cell (slot_of d i))) → Q zeroes → (h : ℕ) → Q (values_at (hours (with_day x d)) h)
  day_all Q old own none h = go (dec_lt h (hours_of_day * n)) (dec_lt h (hours_of_day * n + 24))
    where
      go : Dec (h < hours_of_day * n) → Dec (h < hours_of_day * n + 24) → Q (values_at (hours (with_day x d)) h)
      go (yes l) t = subst Q (sym (old_hours h l)) (old h)
      go (no l) (yes t) =
          let e : hours_of_day * n + (h - hours_of_day * n) ≡ h = omega arith in
          subst (λ (i : ℕ). Q (values_at (hours (with_day x d)) i)) e (subst Q (sym (own_hours (h - hours_of_day * n) (omega arith))) (own (h - hours_of_day * n) (omega arith)))
      go (no l) (no t) = subst Q (sym (day_past x d h (omega arith))) none

  day_cells : (f : Values → ℕ) (most : ℕ) (v : ℕ → ℕ) (cells : List ℕ) → f zeroes ≡ 0 → ((i : ℕ) → i < 24 → f (in_cell (slot_of d i)) ≡ v i) → ((i : ℕ) → i < 24 → v i ≤ most)
      → CellsKept (λ h. f (values_at (hours x) h)) most cells → CellsKept (λ h. f (values_at (hours (with_day x d)) h)) most (put_from v 24 (hours_of_day * n) cells)
  day_cells f most v cells z own limit c =
      record {
        hold =
            ap (put_from v 24 (hours_of_day * n)) c.hold
            ∙ table_patch (λ h. f (values_at (hours x) h)) (λ h. f (values_at (hours (with_day x d)) h)) v (hours_of_day * n) 24 most_hours (omega (arith, k.period))
            (λ h l. ap f (old_hours h l))
            (λ i l. ap f (own_hours i l) ∙ own i l)
            (λ h l. ap f (day_past x d h l) ∙ sym (ap f (past-zero x h (omega arith))));
        within = day_all (λ w. f w ≤ most) c.within (λ i l. omega (arith, own i l, limit i l)) (omega (arith, z));
      }

  pub day_books : (cv lv : ℕ → ℕ)
      → ((i : ℕ) → i < 24 → (in_cell (slot_of d i)).c ≡ cv i) → ((i : ℕ) → i < 24 → (in_cell (slot_of d i)).l ≡ lv i)
      → ((i : ℕ) → i < 24 → cv i ≤ most_concentration) → ((i : ℕ) → i < 24 → lv i ≤ most_flow) → Long o
      → LineBooks (with_day x d) s (in_open (set o.runs n d.masks.run) (set o.measured n d.masks.measured) (put_from (hour_state d) 24 (hours_of_day * n) o.states) o.flags (put_from cv 24 (hours_of_day * n) o.concentrations) (put_from lv 24 (hours_of_day * n) o.flows))
  unfolding run_masks measured_masks with_day surveys surveyed zeroes
  day_books cv lv cs ls cm lm long =
      record {
        masks =
            record {
              runs_kept = take-suc-set o.runs n d.masks.run (omega (arith, k.period, long.runs)) ∙ ap (λ (t : List ℕ). t ++ (d.masks.run ∷ [])) k.masks.runs_kept;
              measured_kept =
                  take-suc-set o.measured n d.masks.measured (omega (arith, k.period, long.measured)) ∙ ap (λ (t : List ℕ). t ++ (d.masks.measured ∷ [])) k.masks.measured_kept
                  ∙ ap measured_masks (sym (after-day x d (k.early more).0 (k.early more).1));
              states_kept_here =
                  states_day o.runs o.measured n d.masks.run d.masks.measured (omega (arith, k.period, long.runs)) (omega (arith, k.period, long.measured))
                  o.states (omega (arith, k.period, long.states)) k.masks.states_kept_here;
            };
        concentrations = day_cells (λ w. w.c) most_concentration cv o.concentrations refl cs cm k.concentrations;
        flows = day_cells (λ w. w.l) most_flow lv o.flows refl ls lm k.flows;
        surveys = k.surveys;
        fuel = k.fuel;
        used = k.used;
        pollutant = k.pollutant;
        period = k.period;
        days = omega arith;
        early = λ _. k.early more;
        few = k.few;
      }

-- ---- surveys: what each kind adds to the surveyed hours
enforced : (x : StackLine) (s : Survey) → x.plant ≡ [] → surveyed (with_enforcement x s) ≡ s ∷ surveyed x
unfolding surveyed with_enforcement besides
enforced x s e = rw e

planted_second : (x : StackLine) (s : Survey) → has_survey s.hour x.enforcement ≡ true → surveyed (with_plant x s) ≡ surveyed x
unfolding surveyed with_plant besides pick
planted_second x s t = rw t

planted : (x : StackLine) (s : Survey) → has_survey s.hour x.enforcement ≡ false → surveyed (with_plant x s) ≡ s ∷ surveyed x
unfolding surveyed with_plant besides pick
planted x s t = rw t

one_most : (b : Bool) (ss : List Survey) (s : Survey) (n : ℕ) → length ss ≤ n → length (pick b ss (s ∷ ss)) ≤ suc n
unfolding pick
one_most true ss s n l = omega arith
one_most false ss s n l = omega arith

pub besides-most : (others ss : List Survey) → length (besides others ss) ≤ length ss
unfolding besides
besides-most others [] = omega arith
besides-most others (s ∷ ss) = one_most (has_survey s.hour others) (besides others ss) s (length ss) (besides-most others ss)

pub surveyed-most : (x : StackLine) → length (surveyed x) ≤ surveys x
unfolding surveyed surveys
surveyed-most x = simp length-append (omega (arith, besides-most x.enforcement x.plant))

-- ---- a line with other surveys, after its last day: its fuel and its period are as they were
abbrev with_other_lem : StackLine → List Survey → List Survey → StackLine
with_other_lem x es ps = record { head = x.head; days = x.days; enforcement = es; plant = ps; batches = x.batches }

survey-books : (x : StackLine) (es ps : List Survey) (t' : Sums) {t : Sums} {o : Open} (o' : Open) → LineBooks x t o
    → length x.days ≡ x.head.days → length es + length ps ≤ most_surveys → t'.sulphur ≡ t.sulphur → t'.ash ≡ t.ash → t'.used ≡ t.used
    → MasksKept (with_other_lem x es ps) o'.runs o'.measured o'.states
    → CellsKept (λ h. (values_at (hours (with_other_lem x es ps)) h).c) most_concentration o'.concentrations → CellsKept (λ h. (values_at (hours (with_other_lem x es ps)) h).l) most_flow o'.flows
    → SurveysKept (hours_of_day * x.head.days) es (surveyed (with_other_lem x es ps)) t'.surveyed t'.weight o'.flags → LineBooks (with_other_lem x es ps) t' o'
unfolding surveys
survey-books x es ps t' o' k all_days few s a u m c l y =
    record {
      masks = m;
      concentrations = c;
      flows = l;
      surveys = y;
      fuel = rw (s, a) k.fuel;
      used = u ∙ k.used;
      pollutant = k.pollutant;
      period = k.period;
      days = k.days;
      early = λ m. absurd (omega arith);
      few = few;
    }

-- ---- a survey that stands, of either kind: the line y has it beside those of x
module _ (x : StackLine) (es ps : List Survey) (s : Survey) where
  abbrev y : StackLine
  y = with_other_lem x es ps

  module _ (more : surveyed y ≡ s ∷ surveyed x) where
    pub days_stood : days_after y ≡ put_survey s (days_after x)
    unfolding days_after put_surveys
    days_stood = ap (λ (ss : List Survey). put_surveys ss x.days) more

    module _ {t : Sums} {o : Open} (k : LineBooks x t o) (long : Long o) (all_days : length x.days ≡ x.head.days) (hour : s.hour < hours_of_day * x.head.days) where
      in_days : s.hour < hours_of_day * length x.days
      in_days = omega (arith, all_days)

      within : s.hour < most_hours
      within = omega (arith, k.period)

      -- its hour's cell holds its value
      stood_cells : (f : Values → ℕ) (most : ℕ) (cells : List ℕ) → f (values_of s.pair) ≤ most → CellsKept (λ h. f (values_at (hours x) h)) most cells
          → CellsKept (λ h. f (values_at (hours y) h)) most (set cells s.hour (f (values_of s.pair)))
      stood_cells f most cells limit c =
          record {
            hold =
                ap (λ (l : List ℕ). set l s.hour (f (values_of s.pair))) c.hold
                ∙ table_set (λ h. f (values_at (hours x) h)) (λ h. f (values_at (hours y) h)) most_hours s.hour (f (values_of s.pair)) 0 within (ap f (survey-own x y s days_stood in_days))
                (λ h l n. ap f (survey-other x y s days_stood in_days h n));
            within = λ h. by h (ℕ_discrete h s.hour);
          }
        where
          by : (h : ℕ) → Dec (h ≡ s.hour) → f (values_at (hours y) h) ≤ most
          by h (yes e) = omega (arith, ap (λ (i : ℕ). f (values_at (hours y) i)) e, ap f (survey-own x y s days_stood in_days), limit)
          by h (no n) = omega (arith, ap f (survey-other x y s days_stood in_days h n), c.within h)

      -- its hour is marked in the masks and the states
      stood_masks : MasksKept y o.runs (with_measured s.hour o.measured) (set o.states s.hour 2)
      stood_masks =
          let few : length x.days ≤ length o.measured = omega (arith, k.period, all_days, long.measured) in
          record {
            runs_kept = k.masks.runs_kept;
            measured_kept =
                masks_marked o.runs o.measured o.states (length x.days) s.hour in_days few (measured_masks (days_after x)) k.masks.measured_kept
                ∙ sym (ap measured_masks days_stood ∙ put_measured s (days_after x) (let l : s.hour < hours_of_day * length (days_after x) = omega (arith, in_days, days_length x) in l));
            states_kept_here = states_marked o.runs o.measured o.states (length x.days) s.hour in_days few k.masks.states_kept_here;
          }

      -- one survey more, by its count and its amount
      stood_surveys : (flags' : List Bool) → flags' ≡ table (flag_at es) most_hours → ((h : ℕ) → hours_of_day * x.head.days ≤ h → get_or flags' h false ≡ false)
          → (values_of s.pair).c ≤ most_concentration → (values_of s.pair).l ≤ most_flow
          → SurveysKept (hours_of_day * x.head.days) es (surveyed y) (t.surveyed + 1) ((values_of s.pair).c * (values_of s.pair).l + t.weight) flags'
      unfolding sum_of amount survey_values
      stood_surveys flags' flagged past cm lm =
          let y = k.surveys in
          record {
            flagged = flagged;
            past = past;
            counted = ap (λ (m : ℕ). m + 1) y.counted ∙ add-one (length (surveyed x)) ∙ sym (ap length more);
            weighed = ap (λ (m : ℕ). (values_of s.pair).c * (values_of s.pair).l + m) y.weighed ∙ sym (ap (sum_of (λ u. amount (survey_values u))) more);
            most = subst (λ (l : List Survey). sum_of (λ u. amount (survey_values u)) l ≤ length l * most_amount) (sym more) (omega (arith, y.most, mul-le-mul cm lm));
          }

      pub stood_books : (flags' : List Bool) (found : ℕ) → flags' ≡ table (flag_at es) most_hours → ((h : ℕ) → hours_of_day * x.head.days ≤ h → get_or flags' h false ≡ false)
          → length es + length ps ≤ most_surveys → (values_of s.pair).c ≤ most_concentration → (values_of s.pair).l ≤ most_flow
          → LineBooks y (with_survey t (standing (values_of s.pair).c (values_of s.pair).l found))
          (in_open o.runs (with_measured s.hour o.measured) (set o.states s.hour 2) flags' (set o.concentrations s.hour (values_of s.pair).c) (set o.flows s.hour (values_of s.pair).l))
      stood_books flags' found flagged past few cm lm =
          survey-books x es ps _ _ k all_days few refl refl refl stood_masks (stood_cells (λ v. v.c) most_concentration o.concentrations cm k.concentrations)
          (stood_cells (λ v. v.l) most_flow o.flows lm k.flows) (stood_surveys flags' flagged past cm lm)

      -- the missing hours that it finds
      pub found_is : found_by s.hour o.runs o.measured ≡ found_by s.hour (run_masks (days_after x)) (measured_masks (days_after x))
      found_is =
          found_kept (length x.days) s.hour o.runs o.measured (run_masks (days_after x)) (measured_masks (days_after x)) (k.masks.runs_kept ∙ sym (days_runs x)) k.masks.measured_kept in_days

      pub lacking-stood : lacking (days_after y) ≡ lacking (days_after x) - found_by s.hour o.runs o.measured
      lacking-stood =
          ap lacking days_stood ∙ put_lacking s (days_after x) (omega (arith, in_days, days_length x)) ∙ ap (λ (n : ℕ). lacking (days_after x) - n) (sym found_is)

-- ---- an enforcement survey: its flag is set
module _ (x : StackLine) (s : Survey) where
  e_flag : (h : ℕ) → (h ≡ s.hour → ⊥) → flag_at (s ∷ x.enforcement) h ≡ flag_at x.enforcement h
  unfolding flag_at has_survey
  e_flag h n = rw (ne_eqb h s.hour n)

  e_flag_own : flag_at (s ∷ x.enforcement) s.hour ≡ true
  unfolding flag_at has_survey pick
  e_flag_own = rw (eq-eqb s.hour s.hour refl)

  module _ {t : Sums} {o : Open} (k : LineBooks x t o) (long : Long o) (all_days : length x.days ≡ x.head.days) (hour : s.hour < hours_of_day * x.head.days) (room : surveys x < most_surveys)
      (cm : (values_of s.pair).c ≤ most_concentration) (lm : (values_of s.pair).l ≤ most_flow) (found : ℕ)
    where
      abbrev marked : List Bool → Open
      marked flags' =
          in_open o.runs (with_measured s.hour o.measured) (set o.states s.hour 2) flags' (set o.concentrations s.hour (values_of s.pair).c) (set o.flows s.hour (values_of s.pair).l)

      abbrev counted : Sums
      counted = with_survey t (standing (values_of s.pair).c (values_of s.pair).l found)

      pub enforcement_books : x.plant ≡ [] → LineBooks (with_enforcement x s) counted (marked (set o.flags s.hour true))
      unfolding with_enforcement surveys
      enforcement_books none =
          stood_books x (s ∷ x.enforcement) x.plant s (enforced x s none) k long all_days hour (set o.flags s.hour true) found
          (ap (λ (l : List Bool). set l s.hour true) k.surveys.flagged
          ∙ table_set (flag_at x.enforcement) (flag_at (s ∷ x.enforcement)) most_hours s.hour true false (omega (arith, k.period)) e_flag_own (λ h l n. e_flag h n))
          (λ h m. get_or-set_other o.flags s.hour h true false (λ q. absurd (omega (arith, q, m, hour))) ∙ k.surveys.past h m)
          (omega arith) cm lm

      pub enforcement_lacking : x.plant ≡ [] → lacking (days_after (with_enforcement x s)) ≡ lacking (days_after x) - found_by s.hour o.runs o.measured
      unfolding with_enforcement
      enforcement_lacking none = lacking-stood x (s ∷ x.enforcement) x.plant s (enforced x s none) k long all_days hour

      -- ---- a plant survey where no enforcement survey stands
      pub plant_books : has_survey s.hour x.enforcement ≡ false → LineBooks (with_plant x s) counted (marked o.flags)
      unfolding with_plant surveys
      plant_books free =
          stood_books x x.enforcement (s ∷ x.plant) s (planted x s free) k long all_days hour o.flags found k.surveys.flagged k.surveys.past (omega arith) cm lm

      pub plant_lacking : has_survey s.hour x.enforcement ≡ false → lacking (days_after (with_plant x s)) ≡ lacking (days_after x) - found_by s.hour o.runs o.measured
      unfolding with_plant
      plant_lacking free = lacking-stood x x.enforcement (s ∷ x.plant) s (planted x s free) k long all_days hour

-- ---- a plant survey that is beaten changes nothing
module _ (x : StackLine) (s : Survey) (beaten : has_survey s.hour x.enforcement ≡ true) where
  pub days_beaten : days_after (with_plant x s) ≡ days_after x
  unfolding days_after with_plant
  days_beaten = ap (λ (ss : List Survey). put_surveys ss x.days) (planted_second x s beaten)

  beaten_value : (h : ℕ) → values_at (hours (with_plant x s)) h ≡ values_at (hours x) h
  unfolding values_at hours
  beaten_value h = ap (λ (ds : List Day). in_cell (get_or (slots_of ds) h stopped)) days_beaten

  beaten_cells : (f : Values → ℕ) (most : ℕ) (cells : List ℕ) → CellsKept (λ h. f (values_at (hours x) h)) most cells → CellsKept (λ h. f (values_at (hours (with_plant x s)) h)) most cells
  beaten_cells f most cells c =
      record {
        hold = c.hold ∙ table_same (λ h. f (values_at (hours x) h)) (λ h. f (values_at (hours (with_plant x s)) h)) most_hours (λ h l. sym (ap f (beaten_value h)));
        within = λ h. omega (arith, ap f (beaten_value h), c.within h);
      }

  pub beaten_books : {t : Sums} {o : Open} → LineBooks x t o → length x.days ≡ x.head.days → surveys x < most_surveys → LineBooks (with_plant x s) t o
  unfolding with_plant surveys
  beaten_books {t} {o} k all_days room =
      survey-books x x.enforcement (s ∷ x.plant) t o k all_days (omega arith) refl refl refl
      (record { runs_kept = k.masks.runs_kept; measured_kept = k.masks.measured_kept ∙ sym (ap measured_masks days_beaten); states_kept_here = k.masks.states_kept_here })
      (beaten_cells (λ v. v.c) most_concentration o.concentrations k.concentrations) (beaten_cells (λ v. v.l) most_flow o.flows k.flows)
      (subst (λ (l : List Survey). SurveysKept (hours_of_day * x.head.days) x.enforcement l t.surveyed t.weight o.flags) (sym (planted_second x s beaten)) k.surveys)

-- ---- a batch: no hour and no survey changes
pub batch-books : (x : StackLine) (f : Batch) {t : Sums} {o : Open} → LineBooks x t o
    → f.kg + fuel x.batches ≤ most_fuel → f.sulphur ≤ most_sulphur → f.ash ≤ most_ash → LineBooks (with_batch x f) (with_fuel t f) o
unfolding with_batch values_at surveys surveyed days_after sulphur_of ash_of sum_of largest hours
batch-books x f k most sm am =
    record {
      masks = record { runs_kept = k.masks.runs_kept; measured_kept = k.masks.measured_kept; states_kept_here = k.masks.states_kept_here };
      concentrations = k.concentrations;
      flows = k.flows;
      surveys = k.surveys;
      fuel =
          record {
            largest = ap (max f.sulphur) k.fuel.largest;
            summed = ap (λ (m : ℕ). f.kg * f.ash + m) k.fuel.summed;
            range = in_range_more f x.batches k.fuel.range most sm am;
          };
      used = k.used;
      pollutant = k.pollutant;
      period = k.period;
      days = k.days;
      early = k.early;
      few = k.few;
    }

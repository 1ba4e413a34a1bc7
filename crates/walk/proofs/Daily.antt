-- The books of a line of an outfall go on from record to record, and so do the views; and what both say at its end. Assumes nothing.
use Rattle.std.specs.Prelude.{Option}
use mathlib.Core.Path.{◌≡◌, refl, ◌∙◌, sym, ap, ap₂, subst}
use mathlib.Core.Bool.{Bool, true, false}
use mathlib.Core.List.{List, [], ◌∷◌, ◌++◌, map}
use Prim.Native.Nat.{ℕ, zero, suc, ◌+◌, ◌-◌, ◌*◌, ◌<◌, ◌≤◌}
use native.Mathlib.Numerals.{add-one}
use native.Mathlib.Nat.{mul-le-mul}
use native.Mathlib.Omega.{arith}
use native.Mathlib.Decide.{ℕ_discrete}
use lib.ListN.{length, get_or, set, take, replicate, length-map}
use lib.Seq.{take_at, take-suc-set, get_or_at, get_or-set_same, get_or-set_other}
use lib.Dec.{eqb, leb}
use borrow.Author.Tests.{leb-true, eqb-true, eq-eqb, ne_eqb}
use Rattle.law.specs.Numbers.{most_days, most_hours, total_cells, most_surveys, per_mg, per_cubic_metre, most_concentration, most_flow, most_amount}
use Rattle.law.specs.Words.{need, pick, sum_of, table}
use Rattle.law.proofs.Tabled.{table_same, table_set}
use Rattle.reading.specs.Reading.{reading, stated, flagged_of, concentration_of, flow_of}
use Rattle.reading.specs.Opened.{readings}
use Rattle.rules.specs.declared.Pair.{Pair}
use Rattle.rules.specs.declared.Survey.{Survey}
use Rattle.rules.specs.declared.Outfall.{Outfall}
use Rattle.rules.specs.declared.WaterDay.{WaterDay}
use Rattle.rules.specs.Slots.{Slot, valid, missing, stopped, runs, lacks, running_in, missing_in, first_missing_in}
use Rattle.rules.specs.Lines.{has_survey, besides}
use Rattle.rules.specs.Outfalls.{OutfallLine, day_of_outfall, days_in_turn, put_on_days, surveyed_days, outfall_days, outfall_surveys, Line, OfOutfall, as_head, head_of_line}
use Rattle.rules.specs.Measured.{of_outfall}
use Rattle.rules.specs.Fill.{Values, zeroes, cs, ls, unfilled}
use Rattle.rules.specs.Grams.{values_of, amount, survey_values, hourly}
use Rattle.rules.specs.Row.{cells}
use Rattle.rules.specs.Fields.{measured_fields, blank_fields, water_day_fields, reading_number}
use Rattle.rules.specs.Judge.{refuse, fine, first_wrong, judge_pair}
use Rattle.rules.specs.Walk.{Between, InWater, view_of, states_of, floor_of, surveys_of, begun_outfall, with_water_day, with_day_enforcement, with_day_plant}
use Rattle.rules.proofs.Faults.{passed}
use Rattle.rules.proofs.Outfalls.{speaks_first, speaks_too, speaks_not, sum-behind, behind_other, lacks_few, missing_set, first-missing, days_behind}
pub use Rattle.rules.proofs.Outfalls.{days_long, running-most, missing_most}
use Rattle.day.specs.Day.{kept}
use Rattle.day.proofs.Laws.{PairAccepted, pair-accepted, kept-most}
use Rattle.line.specs.Put.{standing}
use Rattle.line.specs.Days.{lacks_on, first_lacking}
use Rattle.fills.specs.Weights.{products}
use Rattle.fills.proofs.Products.{products-amounts}
use Rattle.rules.specs.declared.World.TheVariants.{Water}
use Rattle.walk.specs.declared.books.Sums.{Sums}
use Rattle.walk.specs.Books.{in_cell, values_at, flag_at, state_of_slot, Open, in_open, CellsKept, SurveysKept, WaterBooks, Long}
use Rattle.walk.specs.Taking.{pair_c, pair_l}
use Rattle.walk.specs.Views.{one_more, opened_sums, with_survey, ran_by, lacks_by, after_head, after_water_day, after_enforcement, after_plant, after_end}
use Rattle.walk.proofs.Cleared.{table_zero}
use Rattle.walk.proofs.Filled.{unfilled-concentrations, unfilled-flows, hourly-length}

-- ---- one slot moved, by a day or by a survey: its cell and its state move, and no other
module _ (old new : List (Slot Pair)) (i : ℕ) (a : Slot Pair) (own : get_or new i stopped ≡ a) (other : (h : ℕ) → (h ≡ i → ⊥) → get_or new h stopped ≡ get_or old h stopped) where
  pub moved_cells : (f : Values → ℕ) (most v : ℕ) (held : List ℕ) → i < most_hours → f (in_cell a) ≡ v → v ≤ most
      → CellsKept (λ h. f (values_at old h)) most held → CellsKept (λ h. f (values_at new h)) most (set held i v)
  unfolding values_at
  moved_cells f most v held l e limit c =
      record {
        hold =
            ap (λ (t : List ℕ). set t i v) c.hold
            ∙ table_set (λ h. f (values_at old h)) (λ h. f (values_at new h)) most_hours i v 0 l (at_own ∙ e) (λ h m n. at_other h n);
        within = λ h. by h (ℕ_discrete h i);
      }
    where
      at_own : f (values_at new i) ≡ f (in_cell a)
      at_own = ap (λ (s : Slot Pair). f (in_cell s)) own

      at_other : (h : ℕ) → (h ≡ i → ⊥) → f (values_at new h) ≡ f (values_at old h)
      at_other h n = ap (λ (s : Slot Pair). f (in_cell s)) (other h n)

      by : (h : ℕ) → Dec (h ≡ i) → f (values_at new h) ≤ most
      by h (yes q) = subst (λ (k : ℕ). k ≤ most) (sym (ap (λ (k : ℕ). f (values_at new k)) q ∙ at_own ∙ e)) limit
      by h (no n) = subst (λ (k : ℕ). k ≤ most) (sym (at_other h n)) (c.within h)

  pub moved_states : (states : List ℕ) (v : ℕ) → i < length states → state_of_slot a ≡ v
      → (d : ℕ) → ((d ≡ i → ⊥) → get_or states d 0 ≡ state_of_slot (get_or old d stopped)) → get_or (set states i v) d 0 ≡ state_of_slot (get_or new d stopped)
  moved_states states v l e d rest = by (ℕ_discrete d i)
    where
      by : Dec (d ≡ i) → get_or (set states i v) d 0 ≡ state_of_slot (get_or new d stopped)
      by (yes q) =
          ap (λ (k : ℕ). get_or (set states i v) k 0) q ∙ get_or-set_same states i v 0 l ∙ sym e ∙ ap state_of_slot (sym own)
          ∙ ap (λ (k : ℕ). state_of_slot (get_or new k stopped)) (sym q)
      by (no n) = get_or-set_other states i d v 0 n ∙ rest n ∙ ap state_of_slot (sym (other d n))

-- ---- one survey more, over the surveys of a line of either world
module _ (period : ℕ) (es ss : List Survey) (t : Survey) {count weight : ℕ} {flags : List Bool} (y : SurveysKept period es ss count weight flags) where
  pub survey-more : (es' ss' : List Survey) (flags' : List Bool) → ss' ≡ t ∷ ss → flags' ≡ table (flag_at es') most_hours → ((h : ℕ) → period ≤ h → get_or flags' h false ≡ false)
      → (values_of t.pair).c ≤ most_concentration → (values_of t.pair).l ≤ most_flow
      → SurveysKept period es' ss' (count + 1) ((values_of t.pair).c * (values_of t.pair).l + weight) flags'
  unfolding sum_of amount survey_values
  survey-more es' ss' flags' more flagged past cm lm =
      record {
        flagged = flagged;
        past = past;
        counted = ap (λ (m : ℕ). m + 1) y.counted ∙ add-one (length ss) ∙ sym (ap length more);
        weighed = ap (λ (m : ℕ). (values_of t.pair).c * (values_of t.pair).l + m) y.weighed ∙ sym (ap (sum_of (λ u. amount (survey_values u))) more);
        most = subst (λ (l : List Survey). sum_of (λ u. amount (survey_values u)) l ≤ length l * most_amount) (sym more) (omega (arith, y.most, mul-le-mul cm lm));
      }

  flag_other : (h : ℕ) → (h ≡ t.hour → ⊥) → flag_at (t ∷ es) h ≡ flag_at es h
  unfolding flag_at has_survey
  flag_other h n = rw (ne_eqb h t.hour n)

  flag_own : flag_at (t ∷ es) t.hour ≡ true
  unfolding flag_at has_survey pick
  flag_own = rw (eq-eqb t.hour t.hour refl)

  -- the flag of one of the enforcement is set
  pub flag_more : t.hour < period → period ≤ most_hours
      → (set flags t.hour true ≡ table (flag_at (t ∷ es)) most_hours) × ((h : ℕ) → period ≤ h → get_or (set flags t.hour true) h false ≡ false)
  flag_more l m = (
    ap (λ (u : List Bool). set u t.hour true) y.flagged
        ∙ table_set (flag_at es) (flag_at (t ∷ es)) most_hours t.hour true false (omega arith) flag_own (λ h _ n. flag_other h n),
    λ h p. get_or-set_other flags t.hour h true false (λ q. absurd (omega (arith, q, p, l))) ∙ y.past h p,
  )

-- ---- an accepted pair's kept values are its values
pub accepted_c : (p : Pair) → PairAccepted p → pair_c p ≡ (values_of p).c
unfolding flagged_of stated values_of
accepted_c p e = ap (λ (r : Option ℕ). (flagged_of r).value) e.concentration-value

pub accepted_l : (p : Pair) → PairAccepted p → pair_l p ≡ (values_of p).l
unfolding flagged_of stated values_of
accepted_l p e = ap (λ (r : Option ℕ). (flagged_of r).value) e.flow-value

-- eight zero bytes are the values 0
zero_c : (flagged_of (concentration_of (reading 0))).value ≡ 0
unfolding readings
zero_c = refl

zero_l : (flagged_of (flow_of (reading 0))).value ≡ 0
unfolding readings
zero_l = refl

c_most : (p : Pair) → pair_c p ≤ most_concentration
unfolding kept flagged_of
c_most p = kept-most per_mg most_concentration (reading p.concentration)

l_most : (p : Pair) → pair_l p ≤ most_flow
unfolding kept flagged_of
l_most p = kept-most per_cubic_metre most_flow (reading p.flow)

-- ---- a day by its state
by_three : (P : ℕ → Type 0) → P 0 → P 1 → P 2 → (n : ℕ) → n ≤ 2 → P n
by_three P a b c zero l = a
by_three P a b c (suc zero) l = b
by_three P a b c (suc (suc zero)) l = c
by_three P a b c (suc (suc (suc n))) l = absurd (omega arith)

abbrev of_state : ℕ → Pair → Slot Pair
of_state n p = pick (eqb n 2) (valid p) (pick (eqb n 1) missing stopped)

module _ (d : WaterDay) (small : d.state ≤ 2) where
  state_is : state_of_slot (day_of_outfall d) ≡ d.state
  unfolding day_of_outfall state_of_slot pick
  state_is = by_three (λ n. state_of_slot (of_state n d.pair) ≡ n) refl refl refl d.state small

  runs_is : runs (day_of_outfall d) ≡ ran_by d.state
  unfolding day_of_outfall runs pick
  runs_is = by_three (λ n. runs (of_state n d.pair) ≡ ran_by n) refl refl refl d.state small

  lacks_is : lacks (day_of_outfall d) ≡ lacks_by d.state
  unfolding day_of_outfall lacks pick
  lacks_is = by_three (λ n. lacks (of_state n d.pair) ≡ lacks_by n) refl refl refl d.state small

-- a day that is not measured has eight zero bytes
blank_zero : (p : Pair) → first_wrong (blank_fields 6 p) ≡ fine → (0 ≡ pair_c p) × (0 ≡ pair_l p)
unfolding first_wrong blank_fields stated
blank_zero p e =
    let a = passed reading_number 6 (eqb p.concentration 0) (need (refuse reading_number 10) (eqb p.flow 0) fine) refl e in
    let b = passed reading_number 10 (eqb p.flow 0) fine refl a.1 in (
      sym (ap (λ (n : ℕ). (flagged_of (concentration_of (reading n))).value) (eqb-true p.concentration 0 a.0) ∙ zero_c),
      sym (ap (λ (n : ℕ). (flagged_of (flow_of (reading n))).value) (eqb-true p.flow 0 b.0) ∙ zero_l),
    )

-- what it measured is what its rounding keeps
measured_is : (p : Pair) (b r : Bool) → first_wrong (pick b (measured_fields 6 p) (blank_fields 6 p)) ≡ fine
    → ((in_cell (pick b (valid p) (pick r missing stopped))).c ≡ pair_c p) × ((in_cell (pick b (valid p) (pick r missing stopped))).l ≡ pair_l p)
unfolding in_cell pick judge_pair zeroes
measured_is p true r e = let a = pair-accepted 6 p e in (sym (accepted_c p a), sym (accepted_l p a))
measured_is p false true e = blank_zero p e
measured_is p false false e = blank_zero p e

-- what an accepted day has
pub record WaterDayAccepted (d : WaterDay) : Type 0 where
  pub state : d.state ≤ 2
  pub conc : (in_cell (day_of_outfall d)).c ≡ pair_c d.pair
  pub flow : (in_cell (day_of_outfall d)).l ≡ pair_l d.pair

pub water_day-accepted : (d : WaterDay) → first_wrong (water_day_fields d) ≡ fine → WaterDayAccepted d
unfolding water_day_fields first_wrong day_of_outfall
water_day-accepted d e =
    let a = passed 15 5 (leb d.state 2) (first_wrong (pick (eqb d.state 2) (measured_fields 6 d.pair) (blank_fields 6 d.pair))) refl e in
    let m = measured_is d.pair (eqb d.state 2) (eqb d.state 1) a.1 in
    record { state = leb-true d.state 2 a.0; conc = m.0; flow = m.1 }

-- ---- a head: nothing is taken in yet
no_cells : (w : Outfall) (f : Values → ℕ) (most : ℕ) → f zeroes ≡ 0 → CellsKept (λ d. f (values_at (outfall_days (begun_outfall w)) d)) most (table (λ k. 0) most_hours)
unfolding begun_outfall outfall_days surveyed_days besides put_on_days days_in_turn values_at in_cell
no_cells w f most z =
    record { hold = table_same (λ k. 0) (λ d. f (values_at (outfall_days (begun_outfall w)) d)) most_hours (λ k m. sym z); within = λ k. omega (arith, z) }

pub begun_outfall-books : (w : Outfall) (ran measured states : List ℕ) → w.days ≤ most_days → (1 ≤ w.pollutant) × (w.pollutant ≤ total_cells)
    → WaterBooks (begun_outfall w) (opened_sums (as_head w) Water) (in_open ran measured states (table (λ k. false) most_hours) (table (λ k. 0) most_hours) (table (λ k. 0) most_hours))
unfolding begun_outfall states_of outfall_surveys surveyed_days besides as_head sum_of flag_at has_survey pick zeroes
begun_outfall-books w ran measured states l p =
    record {
      runs = refl;
      states = λ d m. absurd (omega arith);
      concentrations = no_cells w (λ v. v.c) most_concentration refl;
      flows = no_cells w (λ v. v.l) most_flow refl;
      surveys = record { flagged = refl; past = λ k m. table_zero false most_hours k; counted = refl; weighed = refl; most = omega arith };
      used = refl;
      pollutant = p;
      period = l;
      days = omega arith;
      early = λ _. (refl, refl);
      few = omega arith;
    }

-- ---- a day: its state and its values
module _ (x : OutfallLine) (d : WaterDay) {s : Sums} {o : Open} (k : WaterBooks x s o) (long : Long o) (more : length x.days < x.head.days) (ok : first_wrong (water_day_fields d) ≡ fine) where
  behind : outfall_days (with_water_day x d) ≡ outfall_days x ++ (day_of_outfall d ∷ [])
  behind = days_behind x d (k.early more).0 (k.early more).1

  day_own : get_or (outfall_days (with_water_day x d)) (length x.days) stopped ≡ day_of_outfall d
  day_own = ap (λ (t : List (Slot Pair)). get_or t (length x.days) stopped) behind ∙ get_or_at (outfall_days x) (day_of_outfall d) [] stopped (length x.days) (days_long x)

  day_other : (h : ℕ) → (h ≡ length x.days → ⊥) → get_or (outfall_days (with_water_day x d)) h stopped ≡ get_or (outfall_days x) h stopped
  day_other h n = ap (λ (t : List (Slot Pair)). get_or t h stopped) behind ∙ behind_other (outfall_days x) (day_of_outfall d) stopped h (λ q. n (q ∙ days_long x))

  day_cells : (f : Values → ℕ) (most v : ℕ) (held : List ℕ) → f (in_cell (day_of_outfall d)) ≡ v → v ≤ most → CellsKept (λ h. f (values_at (outfall_days x) h)) most held
      → CellsKept (λ h. f (values_at (outfall_days (with_water_day x d)) h)) most (set held (length x.days) v)
  day_cells f most v held e m c =
      moved_cells (outfall_days x) (outfall_days (with_water_day x d)) (length x.days) (day_of_outfall d) day_own day_other f most v held (omega (arith, k.period)) e m c

  day_states : (h : ℕ) → h < suc (length x.days) → get_or (set o.states (length x.days) d.state) h 0 ≡ state_of_slot (get_or (outfall_days (with_water_day x d)) h stopped)
  day_states h m =
      moved_states (outfall_days x) (outfall_days (with_water_day x d)) (length x.days) (day_of_outfall d) day_own day_other o.states d.state (omega (arith, k.period, long.states))
      (state_is d (water_day-accepted d ok).state) h (λ n. k.states h (omega (arith, n)))

  pub water_day-books : WaterBooks (with_water_day x d) s
      (in_open (set o.runs (length x.days) d.state) o.measured (set o.states (length x.days) d.state) o.flags (set o.concentrations (length x.days) (pair_c d.pair))
      (set o.flows (length x.days) (pair_l d.pair)))
  unfolding with_water_day states_of outfall_surveys surveyed_days
  water_day-books =
      let a = water_day-accepted d ok in
      record {
        runs = take-suc-set o.runs (length x.days) d.state (omega (arith, k.period, long.runs)) ∙ ap (λ (t : List ℕ). t ++ (d.state ∷ [])) k.runs;
        states = day_states;
        concentrations = day_cells (λ v. v.c) most_concentration (pair_c d.pair) o.concentrations a.conc (c_most d.pair) k.concentrations;
        flows = day_cells (λ v. v.l) most_flow (pair_l d.pair) o.flows a.flow (l_most d.pair) k.flows;
        surveys = k.surveys;
        used = k.used;
        pollutant = k.pollutant;
        period = k.period;
        days = omega arith;
        early = λ _. k.early more;
        few = k.few;
      }

-- ---- the states say which days lack data
lacks_state : (a : Slot Pair) → pick (eqb (state_of_slot a) 1) 1 0 ≡ lacks a
unfolding state_of_slot lacks pick
lacks_state (valid p) = refl
lacks_state missing = refl
lacks_state stopped = refl

lacks_at_lem : (x : OutfallLine) {s : Sums} {o : Open} → WaterBooks x s o → (d : ℕ) → d < length x.days → lacks_on o.states d ≡ lacks (get_or (outfall_days x) d stopped)
unfolding lacks_on
lacks_at_lem x k d l = ap (λ (n : ℕ). pick (eqb n 1) 1 0) (k.states d l) ∙ lacks_state (get_or (outfall_days x) d stopped)

-- ---- a line with other surveys, after its last day
abbrev with_other_lem : OutfallLine → List Survey → List Survey → OutfallLine
with_other_lem x es ps = record { head = x.head; days = x.days; enforcement = es; plant = ps }

other_books : (x : OutfallLine) (es ps : List Survey) (s' : Sums) {s : Sums} {o : Open} (o' : Open) → WaterBooks x s o → length x.days ≡ x.head.days → length es + length ps ≤ most_surveys
    → s'.used ≡ s.used → o'.runs ≡ o.runs → ((d : ℕ) → d < length x.days → get_or o'.states d 0 ≡ state_of_slot (get_or (outfall_days (with_other_lem x es ps)) d stopped))
    → CellsKept (λ d. (values_at (outfall_days (with_other_lem x es ps)) d).c) most_concentration o'.concentrations → CellsKept (λ d. (values_at (outfall_days (with_other_lem x es ps)) d).l) most_flow o'.flows
    → SurveysKept x.head.days es (surveyed_days (with_other_lem x es ps)) s'.surveyed s'.weight o'.flags → WaterBooks (with_other_lem x es ps) s' o'
unfolding outfall_surveys
other_books x es ps s' o' k all_days few u r states c l y =
    record {
      runs = ap (take (length x.days)) r ∙ k.runs;
      states = states;
      concentrations = c;
      flows = l;
      surveys = y;
      used = u ∙ k.used;
      pollutant = k.pollutant;
      period = k.period;
      days = k.days;
      early = λ m. absurd (omega arith);
      few = few;
    }

-- ---- a survey that stands, of either kind: it speaks beside those of x
module _ (x : OutfallLine) (es ps : List Survey) (t : Survey) (speaks : surveyed_days (with_other_lem x es ps) ≡ t ∷ surveyed_days x)
    {s : Sums} {o : Open} (k : WaterBooks x s o) (long : Long o) (all_days : length x.days ≡ x.head.days) (hour : t.hour < x.head.days)
  where
    abbrev y : OutfallLine
    y = with_other_lem x es ps

    in_days : t.hour < length (outfall_days x)
    in_days = omega (arith, all_days, hour, days_long x)

    stood : outfall_days y ≡ set (outfall_days x) t.hour (valid t.pair)
    unfolding outfall_days put_on_days
    stood = ap (λ (ss : List Survey). put_on_days ss (days_in_turn x.days)) speaks

    stood_own : get_or (outfall_days y) t.hour stopped ≡ valid t.pair
    stood_own = ap (λ (u : List (Slot Pair)). get_or u t.hour stopped) stood ∙ get_or-set_same (outfall_days x) t.hour (valid t.pair) stopped in_days

    stood_other : (h : ℕ) → (h ≡ t.hour → ⊥) → get_or (outfall_days y) h stopped ≡ get_or (outfall_days x) h stopped
    stood_other h n = ap (λ (u : List (Slot Pair)). get_or u h stopped) stood ∙ get_or-set_other (outfall_days x) t.hour h (valid t.pair) stopped n

    stood_cells : (f : Values → ℕ) (most : ℕ) (held : List ℕ) → f (values_of t.pair) ≤ most → CellsKept (λ h. f (values_at (outfall_days x) h)) most held
        → CellsKept (λ h. f (values_at (outfall_days y) h)) most (set held t.hour (f (values_of t.pair)))
    unfolding in_cell
    stood_cells f most held m c =
        moved_cells (outfall_days x) (outfall_days y) t.hour (valid t.pair) stood_own stood_other f most (f (values_of t.pair)) held (omega (arith, k.period)) refl m c

    stood_states : (h : ℕ) → h < length x.days → get_or (set o.states t.hour 2) h 0 ≡ state_of_slot (get_or (outfall_days y) h stopped)
    unfolding state_of_slot
    stood_states h m =
        moved_states (outfall_days x) (outfall_days y) t.hour (valid t.pair) stood_own stood_other o.states 2 (omega (arith, k.period, long.states)) refl h (λ n. k.states h m)

    stood_books : (flags' : List Bool) (found : ℕ) → flags' ≡ table (flag_at es) most_hours → ((h : ℕ) → x.head.days ≤ h → get_or flags' h false ≡ false) → length es + length ps ≤ most_surveys
        → (values_of t.pair).c ≤ most_concentration → (values_of t.pair).l ≤ most_flow
        → WaterBooks y (with_survey s (standing (values_of t.pair).c (values_of t.pair).l found))
        (in_open o.runs o.measured (set o.states t.hour 2) flags' (set o.concentrations t.hour (values_of t.pair).c) (set o.flows t.hour (values_of t.pair).l))
    stood_books flags' found flagged past few cm lm =
        other_books x es ps _ _ k all_days few refl refl stood_states (stood_cells (λ v. v.c) most_concentration o.concentrations cm k.concentrations)
        (stood_cells (λ v. v.l) most_flow o.flows lm k.flows)
        (survey-more x.head.days x.enforcement (surveyed_days x) t k.surveys es (surveyed_days y) flags' speaks flagged past cm lm)

    stood_missing : missing_in (outfall_days y) ≡ missing_in (outfall_days x) - lacks_on o.states t.hour
    stood_missing =
        ap missing_in stood ∙ missing_set (outfall_days x) t.hour t.pair in_days
        ∙ ap (λ (n : ℕ). missing_in (outfall_days x) - n) (sym (lacks_at_lem x k t.hour (omega arith)))

-- ---- what each kind of survey does
module _ (x : OutfallLine) (t : Survey) {s : Sums} {o : Open} (k : WaterBooks x s o) (long : Long o) (all_days : length x.days ≡ x.head.days) (hour : t.hour < x.head.days) where
  abbrev found : ℕ
  found = lacks_on o.states t.hour

  pub found_within : found ≤ missing_in (outfall_days x)
  found_within = omega (arith, lacks_at_lem x k t.hour (omega arith), lacks_few (outfall_days x) t.hour (omega (arith, days_long x)))

  -- what it adds to those that speak
  enforced : x.plant ≡ [] → surveyed_days (with_other_lem x (t ∷ x.enforcement) x.plant) ≡ t ∷ surveyed_days x
  unfolding surveyed_days
  enforced none = speaks_first x.enforcement x.plant t none

  planted : has_survey t.hour x.enforcement ≡ false → surveyed_days (with_other_lem x x.enforcement (t ∷ x.plant)) ≡ t ∷ surveyed_days x
  unfolding surveyed_days
  planted free = speaks_too x.enforcement x.plant t free

  pub day_enforcement_missing : x.plant ≡ [] → missing_in (outfall_days (with_day_enforcement x t)) ≡ missing_in (outfall_days x) - found
  unfolding with_day_enforcement
  day_enforcement_missing none = stood_missing x (t ∷ x.enforcement) x.plant t (enforced none) k long all_days hour

  pub day_plant_missing : has_survey t.hour x.enforcement ≡ false → missing_in (outfall_days (with_day_plant x t)) ≡ missing_in (outfall_days x) - found
  unfolding with_day_plant
  day_plant_missing free = stood_missing x x.enforcement (t ∷ x.plant) t (planted free) k long all_days hour

  module _ (room : outfall_surveys x < most_surveys) (ok : PairAccepted t.pair) where
    abbrev c : ℕ
    c = (values_of t.pair).c

    abbrev l : ℕ
    l = (values_of t.pair).l

    abbrev after : List Bool → Open
    after flags' = in_open o.runs o.measured (set o.states t.hour 2) flags' (set o.concentrations t.hour c) (set o.flows t.hour l)

    pub day_enforcement_books : x.plant ≡ [] → WaterBooks (with_day_enforcement x t) (with_survey s (standing c l found)) (after (set o.flags t.hour true))
    unfolding with_day_enforcement outfall_surveys values_of
    day_enforcement_books none =
        let f = flag_more x.head.days x.enforcement (surveyed_days x) t k.surveys hour (omega (arith, k.period)) in
        stood_books x (t ∷ x.enforcement) x.plant t (enforced none) k long all_days hour (set o.flags t.hour true) found f.0 f.1 (omega arith) ok.concentration-most ok.flow-most

    pub day_plant_books : has_survey t.hour x.enforcement ≡ false → WaterBooks (with_day_plant x t) (with_survey s (standing c l found)) (after o.flags)
    unfolding with_day_plant outfall_surveys values_of
    day_plant_books free =
        stood_books x x.enforcement (t ∷ x.plant) t (planted free) k long all_days hour o.flags found k.surveys.flagged k.surveys.past (omega arith) ok.concentration-most ok.flow-most

-- ---- a plant survey that is beaten changes nothing
module _ (x : OutfallLine) (t : Survey) (beaten : has_survey t.hour x.enforcement ≡ true) where
  silent : surveyed_days (with_day_plant x t) ≡ surveyed_days x
  unfolding surveyed_days with_day_plant
  silent = speaks_not x.enforcement x.plant t beaten

  pub days_beaten_same : outfall_days (with_day_plant x t) ≡ outfall_days x
  unfolding outfall_days with_day_plant
  days_beaten_same = ap (λ (ss : List Survey). put_on_days ss (days_in_turn x.days)) silent

  pub day_beaten_books : {s : Sums} {o : Open} → WaterBooks x s o → length x.days ≡ x.head.days → outfall_surveys x < most_surveys → WaterBooks (with_day_plant x t) s o
  unfolding with_day_plant outfall_surveys
  day_beaten_books {s} {o} k all_days room =
      let same = sym days_beaten_same in
      other_books x x.enforcement (t ∷ x.plant) s o k all_days (omega arith) refl refl
      (subst (λ (u : List (Slot Pair)). (d : ℕ) → d < length x.days → get_or o.states d 0 ≡ state_of_slot (get_or u d stopped)) same k.states)
      (subst (λ (u : List (Slot Pair)). CellsKept (λ d. (values_at u d).c) most_concentration o.concentrations) same k.concentrations)
      (subst (λ (u : List (Slot Pair)). CellsKept (λ d. (values_at u d).l) most_flow o.flows) same k.flows)
      (subst (λ (u : List Survey). SurveysKept x.head.days x.enforcement u s.surveyed s.weight o.flags) (sym silent) k.surveys)

-- ---- the view after a record is the view of where the walk then stands
more_surveys : (s : Survey) (ss : List Survey) → one_more (surveys_of ss) s.hour ≡ surveys_of (s ∷ ss)
unfolding surveys_of
more_surveys s [] = refl
more_surveys s (t ∷ ts) = ap (λ (n : ℕ). record { count = n; floor = s.hour + 1 }) (add-one (length (t ∷ ts)))

pub view_outfall : (done : List Line) (w : Outfall) → after_head (view_of (Between done)) (as_head w) Water ≡ view_of (InWater (begun_outfall w) done)
unfolding view_of begun_outfall floor_of head_of_line surveys_of surveyed_days besides outfall_days put_on_days days_in_turn running_in missing_in sum_of
view_outfall done w = refl

module _ (x : OutfallLine) (d : WaterDay) (small : d.state ≤ 2) where
  running_more : running_in (days_in_turn (d ∷ x.days)) ≡ ran_by d.state + running_in (days_in_turn x.days)
  unfolding running_in days_in_turn
  running_more = sum-behind runs (days_in_turn x.days) (day_of_outfall d) ∙ ap (λ (n : ℕ). n + sum_of runs (days_in_turn x.days)) (runs_is d small)

  missing_more : x.enforcement ≡ [] → x.plant ≡ [] → missing_in (outfall_days (with_water_day x d)) ≡ lacks_by d.state + missing_in (outfall_days x)
  unfolding missing_in
  missing_more e q =
      ap (sum_of lacks) (days_behind x d e q) ∙ sum-behind lacks (outfall_days x) (day_of_outfall d) ∙ ap (λ (n : ℕ). n + sum_of lacks (outfall_days x)) (lacks_is d small)

pub view_water_day : (x : OutfallLine) (done : List Line) (d : WaterDay) → d.state ≤ 2 → x.enforcement ≡ [] → x.plant ≡ []
    → after_water_day (view_of (InWater x done)) d.state ≡ view_of (InWater (with_water_day x d) done)
unfolding view_of with_water_day floor_of head_of_line
view_water_day x done d small e q = rw (add-one (length x.days), running_more x d small, missing_more x d small e q)

module _ (x : OutfallLine) (done : List Line) (t : Survey) (found : ℕ) where
  pub view_day_enforcement : missing_in (outfall_days (with_day_enforcement x t)) ≡ missing_in (outfall_days x) - found
      → after_enforcement (view_of (InWater x done)) t.hour found ≡ view_of (InWater (with_day_enforcement x t) done)
  unfolding view_of with_day_enforcement floor_of head_of_line
  view_day_enforcement e = rw (more_surveys t x.enforcement, e)

  pub view_day_plant : missing_in (outfall_days (with_day_plant x t)) ≡ missing_in (outfall_days x) - found
      → after_plant (view_of (InWater x done)) t.hour found ≡ view_of (InWater (with_day_plant x t) done)
  unfolding view_of with_day_plant floor_of head_of_line
  view_day_plant e = rw (more_surveys t x.plant, e)

pub view_water_end : (x : OutfallLine) (done : List Line) → after_end (view_of (InWater x done)) ≡ view_of (Between (OfOutfall x ∷ done))
unfolding view_of floor_of head_of_line surveys_of
view_water_end x done = rw (add-one (length done))

-- ---- at the end of a line
front_cells : (held vs : List ℕ) (n : ℕ) → held ≡ cells vs → length vs ≡ n → take n held ≡ vs
unfolding cells
front_cells held vs n e l = ap (take n) e ∙ take_at vs (replicate (most_hours - length vs) 0) n l

module _ (x : OutfallLine) {s : Sums} {o : Open} (k : WaterBooks x s o) where
  pub days_first : length x.days ≡ x.head.days → first_lacking o.states x.head.days ≡ first_missing_in (outfall_days x)
  unfolding first_lacking
  days_first all_days =
      ap (first_lacking o.states) (sym all_days ∙ sym (days_long x)) ∙ first-missing (outfall_days x) (lacks_on o.states) (λ d l. lacks_at_lem x k d (omega (arith, days_long x)))

  -- what the cells hold and what is weighed, with no day filled
  pub days_cells : (o.concentrations ≡ cells (cs (hourly unfilled (of_outfall x)))) × (o.flows ≡ cells (ls (hourly unfilled (of_outfall x))))
  days_cells =
      let few : length (outfall_days x) ≤ most_hours = omega (arith, days_long x, k.days, k.period) in
      (k.concentrations.hold ∙ unfilled-concentrations (of_outfall x) few, k.flows.hold ∙ unfilled-flows (of_outfall x) few)

  values_long : (f : Values → ℕ) → length (map f (hourly unfilled (of_outfall x))) ≡ length x.days
  values_long f = length-map (hourly unfilled (of_outfall x)) f ∙ hourly-length (of_outfall x) unfilled ∙ days_long x

  pub days_weighed : products (take (length x.days) o.concentrations) (take (length x.days) o.flows) ≡ sum_of amount (hourly unfilled (of_outfall x))
  unfolding cs ls
  days_weighed =
      let h = hourly unfilled (of_outfall x) in
      ap₂ products (front_cells o.concentrations (cs h) (length x.days) days_cells.0 (values_long (λ v. v.c)))
      (front_cells o.flows (ls h) (length x.days) days_cells.1 (values_long (λ v. v.l))) ∙ sym (products-amounts h)

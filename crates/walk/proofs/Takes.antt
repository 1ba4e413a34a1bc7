-- What each kind of record asks when it is taken in, and that the books then stand for the lines. Assumes nothing.
use Rattle.std.specs.Prelude.{Option, Some, None, Result, Ok}
use mathlib.Core.Path.{◌≡◌, refl, ◌∙◌, sym, ap, subst, subst₂}
use mathlib.Core.Bool.{Bool, true, false, true≢false, ◌||◌}
use mathlib.Core.List.{List, [], ◌∷◌}
use Prim.Native.Nat.{ℕ, zero, suc, ◌+◌, ◌*◌, ◌<◌, ◌≤◌}
use native.Mathlib.Omega.{arith}
use lib.ListN.{length, take}
use Rattle.law.specs.Numbers.{hours_of_day, most_days, most_hours, most_lines, most_surveys, most_batches, most_ash, most_fuel, most_amount, most_grams}
use Rattle.rules.specs.declared.Head.{Head}
use Rattle.rules.specs.declared.Masks.{Masks}
use Rattle.rules.specs.declared.Record.{Record}
use Rattle.rules.specs.declared.Record.TheVariants.{Bad, OfHead, OfDay, OfEnforcement, OfPlant, OfBatch, OfEnd, OfOutfallHead, OfOutfallDay, OfOutfallEnforcement, OfOutfallPlant}
use Rattle.rules.specs.declared.Survey.{Survey}
use Rattle.rules.specs.declared.Batch.{Batch}
use Rattle.rules.specs.declared.Outfall.{Outfall}
use Rattle.rules.specs.declared.WaterDay.{WaterDay}
use Rattle.rules.specs.declared.View.{View}
use Rattle.rules.specs.declared.Coefficients.{Coefficients}
use Rattle.rules.specs.declared.Coefficients.TheVariants.{Balance, Oxides, Dust}
use Rattle.rules.specs.Grams.{sulphur_of}
use Rattle.rules.specs.Hours.{run_masks, measured_masks, first_missing, running, lacking}
use Rattle.rules.specs.Lines.{StackLine, days_after, surveys, fuel}
use Rattle.rules.specs.Outfalls.{OutfallLine, outfall_surveys, Line, OfStack, OfOutfall, as_head}
use Rattle.rules.proofs.Surveyed.{days_length, days_runs, days_no_more, found_most}
use Rattle.line.specs.Put.{Tables, in_tables}
use Rattle.rules.specs.Method.{is_automatic, is_manual, method_of, method, outfall_method}
use Rattle.rules.specs.Tables.{coefficients_of}
use lib.Dec.{eqb}
use Rattle.law.proofs.Tests.{pick_case}
use Rattle.rules.specs.Judge.{fine, line_method, judge_record, judge_readings}
use Rattle.rules.specs.declared.Refused.{Refused}
use Rattle.rules.specs.Refusals.{told}
use Rattle.rules.specs.Walk.{Stand, Between, Inside, InWater, view_of, runs_of, taken, taken_between, taken_inside, taken_in_water}
use Rattle.rules.proofs.Records.{day_in}
use Rattle.day.proofs.Laws.{PairAccepted}
use Rattle.judge.proofs.Laws.{SurveyOk, EndOk, head_ok, day_ok, enforcement_ok, plant_ok, batch-ok, end_ok, bad_refused, outfall_ok, water_day-ok, day_enforcement_ok, day_plant_ok}
use Rattle.hours.proofs.Laws.{running-period, missing_period}
use Rattle.rules.specs.declared.World.TheVariants.{Air, Water}
use Rattle.walk.specs.declared.books.Sums.{Sums}
use Rattle.walk.specs.declared.books.Taken.{Taken}
use Rattle.walk.specs.declared.books.Marks.{Marks}
use Rattle.walk.specs.declared.books.Done.{Done}
use Rattle.rules.specs.declared.Surveyor.TheVariants.{Enforcement, Plant}
use Rattle.walk.specs.Books.{Open, in_open, open_in, marks_of, Kept}
use Rattle.walk.specs.Taking.{HeadTaken, DayReady, DayTaken, DayRead, SurveyReady, SurveyTaken, BatchTaken, EndReady, EndTaken, CloseReady, Closed, WaterDayReady, WaterDayTaken, DaySurveyTaken, WaterEndReady, WaterEndTaken}
use Rattle.walk.specs.Walking.{Ready, Took}
use Rattle.walk.proofs.Standing.{kept-head, kept-day, kept-enforcement, kept-plant, kept-batch}
use Rattle.walk.proofs.Ending.{method-is, cells-most, kept-end}
use Rattle.walk.proofs.Masks.{states_kept, first-kept, found_kept}
use Rattle.walk.proofs.Steps.{surveyed-most}
use Rattle.rules.proofs.Methods.{manual-surveyed, outfall_surveyed}
use Rattle.hours.specs.Marks.{found_by}
use Rattle.line.specs.Days.{lacks_on, first_lacking}
use Rattle.walk.proofs.Daily.{found_within, running-most, missing_most}
use Rattle.walk.proofs.Outfalls.{daily_is, daily_most, daily_two, days_surveyed_most, kept-outfall, kept-water_day, kept-day_enforcement, kept-day_plant, kept-water_end}
use Rattle.walk.specs.Closing.{grams_in}
use Rattle.hours.specs.States.{period_states}
use Rattle.fuel.specs.Fuel.{fuel_figure, ash_of, InRange}
use Rattle.rules.specs.OnPaper.{OnPaper}
use Rattle.fuel.proofs.Figures.{line_figure, line_wanting, grams-fit}
use Rattle.walk.proofs.Views.{survey-count}

-- ---- inside a line or between two
-- a record that only an open line takes finds one: what holds wherever a line is open holds where the walk stands
in_line : (stand : Stand) (v : View) → v ≡ view_of stand → v.inside ≡ true → (P : Stand → Type 0) → ((x : StackLine) (done : List Line) → P (Inside x done)) → P stand
unfolding view_of
in_line (Between done) v e t P f = absurd (true≢false (sym t ∙ ap (λ (w : View). w.inside) e))
in_line (Inside x done) v e t P f = f x done
in_line (InWater x done) v e t P f = absurd (true≢false (sym t ∙ ap (λ (w : View). w.inside) e))

-- the same of an outfall
in_water_lem : (stand : Stand) (v : View) → v ≡ view_of stand → v.water ≡ true → (P : Stand → Type 0) → ((x : OutfallLine) (done : List Line) → P (InWater x done)) → P stand
unfolding view_of
in_water_lem (Between done) v e t P f = absurd (true≢false (sym t ∙ ap (λ (w : View). w.water) e))
in_water_lem (Inside x done) v e t P f = absurd (true≢false (sym t ∙ ap (λ (w : View). w.water) e))
in_water_lem (InWater x done) v e t P f = f x done

-- an end finds a line of either
in_either : (stand : Stand) (v : View) → v ≡ view_of stand → (v.inside || v.water) ≡ true → (P : Stand → Type 0) → ((x : StackLine) (done : List Line) → v.water ≡ false → P (Inside x done))
    → ((x : OutfallLine) (done : List Line) → v.water ≡ true → P (InWater x done)) → P stand
unfolding view_of
in_either (Between done) v e t P f g = absurd (true≢false (sym t ∙ ap (λ (w : View). w.inside || w.water) e))
in_either (Inside x done) v e t P f g = f x done (ap (λ (w : View). w.water) e)
in_either (InWater x done) v e t P f g = g x done (ap (λ (w : View). w.water) e)

-- and a head finds none
between-lines : (stand : Stand) (v : View) → v ≡ view_of stand → (v.inside || v.water) ≡ false → (P : Stand → Type 0) → ((done : List Line) → P (Between done)) → P stand
unfolding view_of
between-lines (Between done) v e t P f = f done
between-lines (Inside x done) v e t P f = absurd (true≢false (sym (ap (λ (w : View). w.inside || w.water) e) ∙ t))
between-lines (InWater x done) v e t P f = absurd (true≢false (sym (ap (λ (w : View). w.inside || w.water) e) ∙ t))

lines_left : (done : List Line) (v : View) → v ≡ view_of (Between done) → v.lines < most_lines → length done < most_lines
unfolding view_of
lines_left done v e l = omega (arith, ap (λ (w : View). w.lines) e)

empty_of : {A : Type 0} (l : List A) → length l ≡ 0 → l ≡ []
empty_of [] e = refl
empty_of (a ∷ l) e = absurd (omega arith)

above_two : (m : ℕ) → 1 ≤ m → (m ≡ 1 → ⊥) → (m ≡ 2 → ⊥) → 2 < m
above_two zero l n k = absurd (omega arith)
above_two (suc zero) l n k = absurd (n refl)
above_two (suc (suc zero)) l n k = absurd (k refl)
above_two (suc (suc (suc m))) l n k = omega arith

method-least : (x : StackLine) → 1 ≤ method x
unfolding method method_of
method-least x =
    pick_case (λ (m : ℕ). 1 ≤ m) (is_automatic (running x.days) (lacking (days_after x))) 1 _ (λ _. omega arith)
    (λ _. pick_case (λ (m : ℕ). 1 ≤ m) (is_manual x.head (surveys x)) 2 _ (λ _. omega arith) (λ _. pick_case (λ (m : ℕ). 1 ≤ m) (eqb x.head.pollutant 1) 3 4 (λ _. omega arith) (λ _. omega arith)))

surveys-are : (x : StackLine) → surveys x ≡ length x.enforcement + length x.plant
unfolding surveys
surveys-are x = refl

-- fuel's own figure is never too large
module _ (h : Head) (batches : List Batch) (i : InRange batches) where
  abbrev figure_now : OnPaper
  figure_now = fuel_figure h (fuel batches) (sulphur_of batches) (ash_of batches)

  entry_most : (coefficients_of h ≡ None → ⊥) → grams_in figure_now ≤ most_grams
  entry_most n = subst (λ (f : OnPaper). grams_in f ≤ most_grams) (sym (line_figure h batches i n)) (omega (arith, grams-fit h batches i))

  fuel-by : (c : Option Coefficients) → coefficients_of h ≡ c → grams_in figure_now ≤ most_grams
  fuel-by None e = subst (λ (f : OnPaper). grams_in f ≤ most_grams) (sym (line_wanting h batches i e)) (omega arith)
  fuel-by (Some (Balance q k)) e = entry_most (λ z. let t : ◌≡◌ {A = ℕ} 0 1 = cc in omega arith)
  fuel-by (Some (Oxides q)) e = entry_most (λ z. let t : ◌≡◌ {A = ℕ} 0 1 = cc in omega arith)
  fuel-by (Some (Dust q k)) e = entry_most (λ z. let t : ◌≡◌ {A = ℕ} 0 1 = cc in omega arith)

  fuel-most : grams_in figure_now ≤ most_grams
  fuel-most = fuel-by (coefficients_of h) refl

days_all : (x : StackLine) (done : List Line) {v : View} → v ≡ view_of (Inside x done) → v.days ≡ v.head.days → length x.days ≡ x.head.days
unfolding view_of
days_all x done e d = sym (ap (λ (w : View). w.days) e) ∙ d ∙ ap (λ (w : View). w.head.days) e

-- the tables of the open line that a survey moves
abbrev tables_in : Open → Tables
tables_in o = in_tables o.measured o.states o.concentrations o.flows

module _ (bytes : List ℕ) (v : View) (s : Sums) (o : Open) (d : Done) where
  -- the record as it is judged
  judged : (stand : Stand) (r q : Record) → r ≡ q → Ready stand bytes r v s o d → judge_record v (runs_of stand) q ≡ fine
  judged stand r q e k = ap (judge_record v (runs_of stand)) (sym e) ∙ k.passed

  -- a record without readings to judge is taken in
  took_other : (stand : Stand) (r q : Record) (t : Taken) (o' : Open) (d' : Done) → r ≡ q → judge_readings bytes q ≡ fine → Kept (taken stand bytes q) t.view t.sums o' d' → Took stand bytes r (Ok tt) t o' d'
  unfolding told fine
  took_other stand r q t o' d' e j k = rw e (record { faults = sym j; stays = λ _. k })

  -- ---- a head
  pub ready_head : (stand : Stand) (r : Record) (h : Head) → r ≡ OfHead h → Ready stand bytes r v s o d → (s.used ≤ most_hours) × (length o.concentrations ≡ most_hours) × (length o.flows ≡ most_hours)
  ready_head stand r h q k =
      between-lines stand v k.kept.view (head_ok v (runs_of stand) h (judged stand r (OfHead h) q k)).outside
      (λ a. Kept a v s o d → (s.used ≤ most_hours) × (length o.concentrations ≡ most_hours) × (length o.flows ≡ most_hours))
      (λ done y. (y.books.used_most, y.long.concentrations, y.long.flows)) k.kept

  pub took_head : (stand : Stand) (r : Record) (h : Head) (flags' : List Bool) (conc' flow' : List ℕ) (t : Taken) → r ≡ OfHead h → Ready stand bytes r v s o d
      → HeadTaken v s h Air o.flags o.concentrations o.flows flags' conc' flow' t → Took stand bytes r (Ok tt) t (in_open o.runs o.measured o.states flags' conc' flow') d
  unfolding taken taken_between judge_readings
  took_head stand r h flags' conc' flow' t q k e =
      let ok = head_ok v (runs_of stand) h (judged stand r (OfHead h) q k) in
      took_other stand r (OfHead h) t _ d q refl
      (between-lines stand v k.kept.view ok.outside (λ a. Kept a v s o d → Kept (taken a bytes (OfHead h)) t.view t.sums (in_open o.runs o.measured o.states flags' conc' flow') d)
      (λ done y. kept-head done v s h o d flags' conc' flow' t y ok.days_most (ok.pollutant_least, omega (arith, ok.pollutant_most)) (lines_left done v y.view ok.room) e) k.kept)

  -- ---- a day
  day_facts : (x : StackLine) (done : List Line) (m : Masks) → v ≡ view_of (Inside x done) → v.days < v.head.days → m.day ≡ v.days
      → (length x.days < x.head.days) × (m.day ≡ length x.days)
  unfolding view_of
  day_facts x done m e l n = (omega (arith, ap (λ (w : View). w.days) e, ap (λ (w : View). w.head.days) e), n ∙ ap (λ (w : View). w.days) e)

  pub took_day : (stand : Stand) (r : Record) (m : Masks) (k' : Marks) (conc' flow' : List ℕ) (t : Result Unit Refused) (u : Taken) → r ≡ OfDay m → Ready stand bytes r v s o d
      → DayRead bytes v s m (marks_of o) o.concentrations o.flows k' conc' flow' t u → Took stand bytes r t u (open_in k' conc' flow') d
  unfolding taken taken_inside judge_readings told fine
  took_day stand r m k' conc' flow' t u q k e =
      let ok = day_ok v (runs_of stand) m (judged stand r (OfDay m) q k) in
      let n = (day_in bytes m (sym k.read ∙ q)).1 in
      rw q (record {
        faults = e.faults;
        stays = λ w.
            subst (λ (fs : List Bool). Kept (taken stand bytes (OfDay m)) u.view u.sums (in_open k'.runs k'.measured k'.states fs conc' flow') d) (sym e.flags_stay)
            (in_line stand v k.kept.view ok.inside (λ a. Kept a v s o d → Kept (taken a bytes (OfDay m)) u.view u.sums (in_open k'.runs k'.measured k'.states o.flags conc' flow') d)
            (λ x done y.
            let f = day_facts x done m y.view ok.room ok.turn in
            kept-day x done bytes v s o d k'.runs k'.measured k'.states conc' flow' u y f.0 (sym (ap (λ (w : Masks). w.day) n) ∙ f.1)
            (subst (λ (w : Masks). DayTaken bytes v s w o.runs o.measured o.states o.concentrations o.flows k'.runs k'.measured k'.states conc' flow' u) n (e.takes w))
            (sym e.faults ∙ ap told w)) k.kept);
      })

  -- ---- surveys
  pub record SurveyFacts (x : StackLine) (t : Survey) : Type 0 where
    pub hour : t.hour < hours_of_day * x.head.days
    pub all_days : length x.days ≡ x.head.days
    pub room : surveys x < most_surveys
    pub pair : PairAccepted t.pair

  survey-facts : (x : StackLine) (done : List Line) (t : Survey) → v ≡ view_of (Inside x done) → SurveyOk v.inside (hours_of_day * v.head.days) v t → SurveyFacts x t
  unfolding view_of surveys
  survey-facts x done t e ok =
      record {
        hour = omega (arith, ok.in_period, ap (λ (w : View). w.head.days) e);
        all_days = sym (ap (λ (w : View). w.days) e) ∙ ok.days_done ∙ ap (λ (w : View). w.head.days) e;
        room = omega (arith, ok.room, ap (λ (w : View). w.enforcement.count) e, ap (λ (w : View). w.plant.count) e, survey-count x.enforcement, survey-count x.plant);
        pair = ok.pair;
      }

  no_plant : (x : StackLine) (done : List Line) → v ≡ view_of (Inside x done) → v.plant.count ≡ 0 → x.plant ≡ []
  unfolding view_of
  no_plant x done e z = empty_of x.plant (sym (survey-count x.plant) ∙ sym (ap (λ (w : View). w.plant.count) e) ∙ z)

  pub took_enforcement : (stand : Stand) (r : Record) (t : Survey) (k' : Marks) (conc' flow' : List ℕ) (u : Taken) → r ≡ OfEnforcement t → Ready stand bytes r v s o d
      → SurveyTaken Enforcement v s t (marks_of o) o.concentrations o.flows k' conc' flow' u → Took stand bytes r (Ok tt) u (open_in k' conc' flow') d
  unfolding taken taken_inside judge_readings
  took_enforcement stand r t k' conc' flow' u q k e =
      let ok = enforcement_ok v (runs_of stand) t (judged stand r (OfEnforcement t) q k) in
      took_other stand r (OfEnforcement t) u _ d q refl
      (in_line stand v k.kept.view ok.1.inside (λ a. Kept a v s o d → Kept (taken a bytes (OfEnforcement t)) u.view u.sums (open_in k' conc' flow') d)
      (λ x done y.
      let f = survey-facts x done t y.view ok.1 in
      kept-enforcement x done v s t o d y f.hour f.all_days f.room f.pair k' conc' flow' u (no_plant x done y.view ok.0) e) k.kept)

  pub took_plant : (stand : Stand) (r : Record) (t : Survey) (k' : Marks) (conc' flow' : List ℕ) (u : Taken) → r ≡ OfPlant t → Ready stand bytes r v s o d
      → SurveyTaken Plant v s t (marks_of o) o.concentrations o.flows k' conc' flow' u → Took stand bytes r (Ok tt) u (open_in k' conc' flow') d
  unfolding taken taken_inside judge_readings
  took_plant stand r t k' conc' flow' u q k e =
      let ok = plant_ok v (runs_of stand) t (judged stand r (OfPlant t) q k) in
      took_other stand r (OfPlant t) u _ d q refl
      (in_line stand v k.kept.view ok.inside (λ a. Kept a v s o d → Kept (taken a bytes (OfPlant t)) u.view u.sums (open_in k' conc' flow') d)
      (λ x done y.
      let f = survey-facts x done t y.view ok in
      kept-plant x done v s t o d y f.hour f.all_days f.room f.pair k' conc' flow' u e) k.kept)

  -- ---- a batch
  pub took_batch : (stand : Stand) (r : Record) (b : Batch) (u : Taken) → r ≡ OfBatch b → Ready stand bytes r v s o d → BatchTaken v s b u → Took stand bytes r (Ok tt) u o d
  unfolding taken taken_inside judge_readings view_of
  took_batch stand r b u q k e =
      let ok = batch-ok v (runs_of stand) b (judged stand r (OfBatch b) q k) in
      took_other stand r (OfBatch b) u o d q refl
      (in_line stand v k.kept.view ok.inside (λ a. Kept a v s o d → Kept (taken a bytes (OfBatch b)) u.view u.sums o d)
      (λ x done y. kept-batch x done v s b o d u y (omega (arith, ok.fuel-most, ap (λ (w : View). w.fuel) y.view)) ok.sulphur_most ok.ash_most e) k.kept)

  -- ---- an end
  no_entry : (x : StackLine) (done : List Line) → v ≡ view_of (Inside x done) → v.water ≡ false → EndOk v → (method x ≡ 1 → ⊥) → (method x ≡ 2 → ⊥) → coefficients_of x.head ≡ None → ⊥
  unfolding view_of
  no_entry x done e w ok n m q =
      (ok.by_fuel w (subst (λ (i : ℕ). 2 < i) (sym (ap line_method e ∙ method-is x done)) (above_two (method x) (method-least x) n m))).1
      (ap (λ (w : View). coefficients_of w.head) e ∙ q)

  -- of a stack
  stack_end : (x : StackLine) (done : List Line) (conc' flow' : List ℕ) (d' : Done) (u : Taken) → Kept (Inside x done) v s o d → v.water ≡ false → EndOk v
      → EndTaken v s (period_states o.runs o.measured v.head.days) (first_missing o.runs o.measured v.head.days) o.concentrations o.flows d conc' flow' d' u
      → Kept (Between (OfStack x ∷ done)) u.view u.sums (in_open o.runs o.measured o.states o.flags conc' flow') d'
  unfolding view_of
  stack_end x done conc' flow' d' u y w ok e =
      let a : length x.days ≡ x.head.days = days_all x done y.view ok.days_done in
      let n : length x.days ≡ v.head.days = a ∙ sym (ap (λ (w : View). w.head.days) y.view) in
      let kr : take v.head.days o.runs ≡ run_masks x.days = ap (λ (i : ℕ). take i o.runs) (sym n) ∙ y.books.masks.runs_kept in
      let km : take v.head.days o.measured ≡ measured_masks (days_after x) = ap (λ (i : ℕ). take i o.measured) (sym n) ∙ y.books.masks.measured_kept in
      kept-end x done v s o d y a (no_entry x done y.view w ok) conc' flow' d' u
      (subst₂ (λ (i : List ℕ) (j : ℕ). EndTaken v s i j o.concentrations o.flows d conc' flow' d' u) (states_kept v.head.days o.runs o.measured _ _ kr km) (first-kept v.head.days o.runs o.measured _ _ kr km) e)

  -- of an outfall
  outfall_end : (x : OutfallLine) (done : List Line) (conc' flow' : List ℕ) (d' : Done) (u : Taken) → Kept (InWater x done) v s o d → EndOk v
      → WaterEndTaken v s (first_lacking o.states v.head.days) o.concentrations o.flows d d' u × (conc' ≡ o.concentrations) × (flow' ≡ o.flows)
      → Kept (Between (OfOutfall x ∷ done)) u.view u.sums (in_open o.runs o.measured o.states o.flags conc' flow') d'
  unfolding view_of as_head
  outfall_end x done conc' flow' d' u y ok e =
      let a : length x.days ≡ x.head.days = sym (ap (λ (w : View). w.days) y.view) ∙ ok.days_done ∙ ap (λ (w : View). w.head.days) y.view in
      subst₂ (λ (c l : List ℕ). Kept (Between (OfOutfall x ∷ done)) u.view u.sums (in_open o.runs o.measured o.states o.flags c l) d') (sym e.1) (sym e.2)
      (kept-water_end x done v s o d y a d' u e.0)

  pub took_end : (stand : Stand) (r : Record) (conc' flow' : List ℕ) (d' : Done) (u : Taken) → r ≡ OfEnd → Ready stand bytes r v s o d
      → Closed v s o.runs o.measured o.states o.concentrations o.flows d conc' flow' d' u
      → Took stand bytes r (Ok tt) u (in_open o.runs o.measured o.states o.flags conc' flow') d'
  unfolding taken taken_inside taken_in_water judge_readings
  took_end stand r conc' flow' d' u q k e =
      let ok = end_ok v (runs_of stand) (judged stand r OfEnd q k) in
      took_other stand r OfEnd u _ d' q refl
      (in_either stand v k.kept.view ok.inside (λ a. Kept a v s o d → Kept (taken a bytes OfEnd) u.view u.sums (in_open o.runs o.measured o.states o.flags conc' flow') d')
      (λ x done w y. stack_end x done conc' flow' d' u y w ok (e.of_stack w)) (λ x done w y. outfall_end x done conc' flow' d' u y ok (e.of_outfall w)) k.kept)

  -- ---- what each asks before it is taken in
  pub days_lent : (stand : Stand) → Kept stand v s o d → v.days ≤ most_days
  unfolding view_of
  days_lent (Between done) k = omega (arith, ap (λ (w : View). w.days) k.view)
  days_lent (Inside x done) k = omega (arith, ap (λ (w : View). w.days) k.view, k.books.days, k.books.period)
  days_lent (InWater x done) k = omega (arith, ap (λ (w : View). w.days) k.view, k.books.days, k.books.period)

  pub ready_day : (stand : Stand) (r : Record) (m : Masks) → r ≡ OfDay m → Ready stand bytes r v s o d
      → DayReady bytes v m o.states o.concentrations o.flows
  unfolding view_of
  ready_day stand r m q k =
      let ok = day_ok v (runs_of stand) m (judged stand r (OfDay m) q k) in
      in_line stand v k.kept.view ok.inside
      (λ a. Kept a v s o d → DayReady bytes v m o.states o.concentrations o.flows)
      (λ x done y.
      let e = y.view in
      let b = y.books in
      let n : v.days < most_days = omega (arith, ok.room, ap (λ (w : View). w.head.days) e, b.period) in
      record {
        day = omega (arith, ok.turn);
        states_long = y.long.states;
        conc_long = y.long.concentrations;
        flow_long = y.long.flows;
        days = n;
        running = omega (arith, ap (λ (w : View). w.running) e, running-period x.days, b.days, b.period);
        missing = omega (arith, ap (λ (w : View). w.missing) e, days_no_more x, missing_period x.days, running-period x.days, b.days, b.period);
        whole = (day_in bytes m (sym k.read ∙ q)).0;
      }) k.kept

  weights_most : (x : StackLine) (done : List Line) → Kept (Inside x done) v s o d → (s.surveyed ≤ most_surveys) × (s.weight ≤ most_surveys * most_amount)
  weights_most x done k =
      let y = k.books.surveys in
      (omega (arith, y.counted, surveyed-most x, k.books.few), omega (arith, y.weighed, y.most, surveyed-most x, k.books.few))

  ready_survey : (stand : Stand) (t : Survey) (count : ℕ) → count ≤ v.enforcement.count + v.plant.count → SurveyOk v.inside (hours_of_day * v.head.days) v t → Kept stand v s o d
      → SurveyReady t count (found_by t.hour o.runs o.measured) v s
  unfolding view_of
  ready_survey stand t count l ok k =
      in_line stand v k.view ok.inside (λ a. Kept a v s o d → SurveyReady t count (found_by t.hour o.runs o.measured) v s)
      (λ x done y.
      let f = survey-facts x done t y.view ok in
      let b = y.books in
      let i : t.hour < hours_of_day * length x.days = omega (arith, f.hour, f.all_days) in
      let n = found_kept (length x.days) t.hour o.runs o.measured (run_masks (days_after x)) (measured_masks (days_after x)) (b.masks.runs_kept ∙ sym (days_runs x)) b.masks.measured_kept i in
      record {
        hour = omega (arith, f.hour, b.period);
        finds = omega (arith, n, found_most t (days_after x) (omega (arith, i, days_length x)), ap (λ (w : View). w.missing) y.view);
        room = omega (arith, ok.room, l);
        surveyed = omega (arith, b.surveys.counted, surveyed-most x, f.room);
        weight = (weights_most x done y).1;
      }) k

  pub ready_enforcement : (stand : Stand) (r : Record) (t : Survey) → r ≡ OfEnforcement t → Ready stand bytes r v s o d → SurveyReady t v.enforcement.count (found_by t.hour o.runs o.measured) v s
  ready_enforcement stand r t q k = ready_survey stand t v.enforcement.count (omega arith) (enforcement_ok v (runs_of stand) t (judged stand r (OfEnforcement t) q k)).1 k.kept

  pub ready_plant : (stand : Stand) (r : Record) (t : Survey) → r ≡ OfPlant t → Ready stand bytes r v s o d → SurveyReady t v.plant.count (found_by t.hour o.runs o.measured) v s
  ready_plant stand r t q k = ready_survey stand t v.plant.count (omega arith) (plant_ok v (runs_of stand) t (judged stand r (OfPlant t) q k)) k.kept

  pub ready_batch : (stand : Stand) (r : Record) (b : Batch) → r ≡ OfBatch b → Ready stand bytes r v s o d
      → (v.batches < most_batches) × (b.kg + v.fuel ≤ most_fuel) × (b.ash ≤ most_ash) × (s.ash ≤ most_fuel * most_ash)
  ready_batch stand r b q k =
      let ok = batch-ok v (runs_of stand) b (judged stand r (OfBatch b) q k) in
      in_line stand v k.kept.view ok.inside (λ a. Kept a v s o d → (v.batches < most_batches) × (b.kg + v.fuel ≤ most_fuel) × (b.ash ≤ most_ash) × (s.ash ≤ most_fuel * most_ash))
      (λ x done y. let m = y.books.fuel in (ok.room, omega (arith, ok.fuel-most), ok.ash_most, omega (arith, m.summed, m.range.ash, m.range.kg))) k.kept

  -- ---- records of an outfall
  day_weights : (x : OutfallLine) (done : List Line) → Kept (InWater x done) v s o d → (s.surveyed ≤ most_surveys) × (s.weight ≤ most_surveys * most_amount)
  unfolding outfall_surveys
  day_weights x done k =
      let y = k.books.surveys in
      (omega (arith, y.counted, days_surveyed_most x, k.books.few), omega (arith, y.weighed, y.most, days_surveyed_most x, k.books.few))

  stack_ready : (x : StackLine) (done : List Line) → Kept (Inside x done) v s o d → EndOk v → EndReady v s o.runs o.measured o.states o.concentrations o.flows d.totals
  unfolding view_of
  stack_ready x done z ok =
      let e = z.view in
      let y = z.books in
      let w = weights_most x done z in
      let f : fuel_figure v.head v.fuel s.sulphur s.ash ≡ fuel_figure x.head (fuel x.batches) (sulphur_of x.batches) (ash_of x.batches) =
      rw (ap (λ (u : View). u.head) e, ap (λ (u : View). u.fuel) e, y.fuel.largest, y.fuel.summed) refl in
      let p : v.head.pollutant ≡ x.head.pollutant = ap (λ (u : View). u.head.pollutant) e in
      record {
        of_stack = ap (λ (u : View). u.water) e;
        days = omega (arith, ap (λ (u : View). u.head.days) e, y.period);
        said = subst (λ (n : ℕ). take (hours_of_day * n) o.states ≡ period_states o.runs o.measured n) (days_all x done e ok.days_done ∙ sym (ap (λ (u : View). u.head.days) e)) y.masks.states_kept_here;
        conc_long = z.long.concentrations;
        flow_long = z.long.flows;
        limits = record { concentrations = cells-most y.concentrations; flows = cells-most y.flows };
        counts = omega (arith, ap (λ (u : View). u.enforcement.count) e, ap (λ (u : View). u.plant.count) e, survey-count x.enforcement, survey-count x.plant, surveys-are x, y.few);
        some = λ m. subst (λ (i : ℕ). 0 < i) (sym y.surveys.counted) (manual-surveyed x (sym (ap line_method e ∙ method-is x done) ∙ m));
        surveyed = w.0;
        weight = w.1;
        running = omega (arith, ap (λ (u : View). u.running) e, running-period x.days, y.days, y.period);
        lines = omega (arith, ap (λ (u : View). u.lines) e, z.lines);
        fuel = subst (λ (g : OnPaper). grams_in g ≤ most_grams) (sym f) (fuel-most x.head x.batches y.fuel.range);
        pollutant = (omega (arith, p, y.pollutant.0), omega (arith, p, y.pollutant.1));
        totals = λ i. omega (arith, z.done.most i, z.lines);
      }

  outfall_ready : (x : OutfallLine) (done : List Line) → Kept (InWater x done) v s o d → v.water ≡ true → EndOk v → WaterEndReady v s o.concentrations o.flows d.totals
  unfolding view_of as_head outfall_surveys
  outfall_ready x done z t ok =
      let e = z.view in
      let y = z.books in
      let w = day_weights x done z in
      let p : v.head.pollutant ≡ x.head.pollutant = ap (λ (u : View). u.head.pollutant) e in
      record {
        of_outfall = t;
        days = omega (arith, ap (λ (u : View). u.head.days) e, y.period);
        conc_long = z.long.concentrations;
        flow_long = z.long.flows;
        limits = record { concentrations = cells-most y.concentrations; flows = cells-most y.flows };
        some = λ m. subst (λ (i : ℕ). 0 < i) (sym y.surveys.counted) (outfall_surveyed x (daily_two (outfall_method x) (subst (λ (i : ℕ). 0 < i) (daily_is x done e) (ok.left t)) (daily_most x) (λ q. m (daily_is x done e ∙ q))));
        surveyed = w.0;
        weight = w.1;
        running = omega (arith, ap (λ (u : View). u.running) e, running-most x, y.days, y.period);
        lines = omega (arith, ap (λ (u : View). u.lines) e, z.lines);
        pollutant = (omega (arith, p, y.pollutant.0), omega (arith, p, y.pollutant.1));
        totals = λ i. omega (arith, z.done.most i, z.lines);
      }

  pub ready_end : (stand : Stand) (r : Record) → r ≡ OfEnd → Ready stand bytes r v s o d → CloseReady v s o.runs o.measured o.states o.concentrations o.flows d.totals
  ready_end stand r q k =
      let ok = end_ok v (runs_of stand) (judged stand r OfEnd q k) in
      in_either stand v k.kept.view ok.inside (λ a. Kept a v s o d → CloseReady v s o.runs o.measured o.states o.concentrations o.flows d.totals)
      (λ x done w y. record { of_stack = λ _. stack_ready x done y ok; of_outfall = λ t. absurd (true≢false (sym t ∙ w)) })
      (λ x done w y. record { of_stack = λ t. absurd (true≢false (sym w ∙ t)); of_outfall = λ _. outfall_ready x done y w ok }) k.kept

  pub record DayFacts (x : OutfallLine) (t : Survey) : Type 0 where
    pub day : t.hour < x.head.days
    pub all_days : length x.days ≡ x.head.days
    pub room : outfall_surveys x < most_surveys
    pub pair : PairAccepted t.pair

  day_survey_facts : (x : OutfallLine) (done : List Line) (t : Survey) → v ≡ view_of (InWater x done) → SurveyOk v.water v.head.days v t → DayFacts x t
  unfolding view_of as_head outfall_surveys
  day_survey_facts x done t e ok =
      record {
        day = omega (arith, ok.in_period, ap (λ (w : View). w.head.days) e);
        all_days = sym (ap (λ (w : View). w.days) e) ∙ ok.days_done ∙ ap (λ (w : View). w.head.days) e;
        room = omega (arith, ok.room, ap (λ (w : View). w.enforcement.count) e, ap (λ (w : View). w.plant.count) e, survey-count x.enforcement, survey-count x.plant);
        pair = ok.pair;
      }

  ready_day_survey : (stand : Stand) (t : Survey) (count : ℕ) → count ≤ v.enforcement.count + v.plant.count → SurveyOk v.water v.head.days v t → Kept stand v s o d
      → SurveyReady t count (lacks_on o.states t.hour) v s
  unfolding view_of
  ready_day_survey stand t count l ok k =
      in_water_lem stand v k.view ok.inside (λ a. Kept a v s o d → SurveyReady t count (lacks_on o.states t.hour) v s)
      (λ x done y.
      let f = day_survey_facts x done t y.view ok in
      let b = y.books in
      record {
        hour = omega (arith, f.day, b.period);
        finds = omega (arith, found_within x t b y.long f.all_days f.day, ap (λ (w : View). w.missing) y.view);
        room = omega (arith, ok.room, l);
        surveyed = omega (arith, b.surveys.counted, days_surveyed_most x, f.room);
        weight = (day_weights x done y).1;
      }) k

  -- ---- the head of an outfall
  pub ready_outfall : (stand : Stand) (r : Record) (h : Outfall) → r ≡ OfOutfallHead h → Ready stand bytes r v s o d
      → (s.used ≤ most_hours) × (length o.concentrations ≡ most_hours) × (length o.flows ≡ most_hours)
  ready_outfall stand r h q k =
      between-lines stand v k.kept.view (outfall_ok v (runs_of stand) h (judged stand r (OfOutfallHead h) q k)).outside
      (λ a. Kept a v s o d → (s.used ≤ most_hours) × (length o.concentrations ≡ most_hours) × (length o.flows ≡ most_hours))
      (λ done y. (y.books.used_most, y.long.concentrations, y.long.flows)) k.kept

  pub took_outfall : (stand : Stand) (r : Record) (h : Outfall) (g : Head) (flags' : List Bool) (conc' flow' : List ℕ) (u : Taken) → r ≡ OfOutfallHead h → g ≡ as_head h → Ready stand bytes r v s o d
      → HeadTaken v s g Water o.flags o.concentrations o.flows flags' conc' flow' u → Took stand bytes r (Ok tt) u (in_open o.runs o.measured o.states flags' conc' flow') d
  unfolding taken taken_between judge_readings
  took_outfall stand r h g flags' conc' flow' u q p k e =
      let ok = outfall_ok v (runs_of stand) h (judged stand r (OfOutfallHead h) q k) in
      took_other stand r (OfOutfallHead h) u _ d q refl
      (between-lines stand v k.kept.view ok.outside (λ a. Kept a v s o d → Kept (taken a bytes (OfOutfallHead h)) u.view u.sums (in_open o.runs o.measured o.states flags' conc' flow') d)
      (λ done y.
      kept-outfall done v s h o d flags' conc' flow' u y ok.days_most (omega (arith, ok.pollutant_least), ok.pollutant_most) (lines_left done v y.view ok.room)
      (subst (λ (w : Head). HeadTaken v s w Water o.flags o.concentrations o.flows flags' conc' flow' u) p e)) k.kept)

  -- ---- a day of an outfall
  pub ready_water_day : (stand : Stand) (r : Record) (t : WaterDay) → r ≡ OfOutfallDay t → Ready stand bytes r v s o d → WaterDayReady v t o.concentrations o.flows
  unfolding view_of as_head
  ready_water_day stand r t q k =
      let ok = water_day-ok v (runs_of stand) t (judged stand r (OfOutfallDay t) q k) in
      in_water_lem stand v k.kept.view ok.inside (λ a. Kept a v s o d → WaterDayReady v t o.concentrations o.flows)
      (λ x done y.
      let e = y.view in
      let b = y.books in
      let n : v.days < most_days = omega (arith, ok.room, ap (λ (w : View). w.head.days) e, b.period) in
      record {
        day = omega (arith, ok.turn);
        conc_long = y.long.concentrations;
        flow_long = y.long.flows;
        days = n;
        running = omega (arith, ap (λ (w : View). w.running) e, running-most x, b.days, b.period);
        missing = omega (arith, ap (λ (w : View). w.missing) e, missing_most x, b.days, b.period);
      }) k.kept

  pub took_water_day : (stand : Stand) (r : Record) (t : WaterDay) (k' : Marks) (conc' flow' : List ℕ) (u : Taken) → r ≡ OfOutfallDay t → Ready stand bytes r v s o d
      → WaterDayTaken v s t (marks_of o) o.concentrations o.flows k' conc' flow' u → Took stand bytes r (Ok tt) u (open_in k' conc' flow') d
  unfolding taken taken_in_water judge_readings view_of as_head
  took_water_day stand r t k' conc' flow' u q k e =
      let ok = water_day-ok v (runs_of stand) t (judged stand r (OfOutfallDay t) q k) in
      took_other stand r (OfOutfallDay t) u _ d q refl
      (in_water_lem stand v k.kept.view ok.inside (λ a. Kept a v s o d → Kept (taken a bytes (OfOutfallDay t)) u.view u.sums (open_in k' conc' flow') d)
      (λ x done y.
      kept-water_day x done v s t o d k' conc' flow' u y (omega (arith, ok.room, ap (λ (w : View). w.days) y.view, ap (λ (w : View). w.head.days) y.view))
      (ok.turn ∙ ap (λ (w : View). w.days) y.view) ok.fields e) k.kept)

  -- ---- surveys of an outfall
  pub ready_day_enforcement : (stand : Stand) (r : Record) (t : Survey) → r ≡ OfOutfallEnforcement t → Ready stand bytes r v s o d → SurveyReady t v.enforcement.count (lacks_on o.states t.hour) v s
  ready_day_enforcement stand r t q k =
      ready_day_survey stand t v.enforcement.count (omega arith) (day_enforcement_ok v (runs_of stand) t (judged stand r (OfOutfallEnforcement t) q k)).1 k.kept

  pub took_day_enforcement : (stand : Stand) (r : Record) (t : Survey) (k' : Marks) (conc' flow' : List ℕ) (u : Taken) → r ≡ OfOutfallEnforcement t → Ready stand bytes r v s o d
      → DaySurveyTaken Enforcement v s t (marks_of o) o.concentrations o.flows k' conc' flow' u → Took stand bytes r (Ok tt) u (open_in k' conc' flow') d
  unfolding taken taken_in_water judge_readings view_of
  took_day_enforcement stand r t k' conc' flow' u q k e =
      let ok = day_enforcement_ok v (runs_of stand) t (judged stand r (OfOutfallEnforcement t) q k) in
      took_other stand r (OfOutfallEnforcement t) u _ d q refl
      (in_water_lem stand v k.kept.view ok.1.inside (λ a. Kept a v s o d → Kept (taken a bytes (OfOutfallEnforcement t)) u.view u.sums (open_in k' conc' flow') d)
      (λ x done y.
      let f = day_survey_facts x done t y.view ok.1 in
      kept-day_enforcement x done v s t o d y f.day f.all_days f.room f.pair k' conc' flow' u
      (empty_of x.plant (sym (survey-count x.plant) ∙ sym (ap (λ (w : View). w.plant.count) y.view) ∙ ok.0)) e) k.kept)

  pub ready_day_plant : (stand : Stand) (r : Record) (t : Survey) → r ≡ OfOutfallPlant t → Ready stand bytes r v s o d → SurveyReady t v.plant.count (lacks_on o.states t.hour) v s
  ready_day_plant stand r t q k = ready_day_survey stand t v.plant.count (omega arith) (day_plant_ok v (runs_of stand) t (judged stand r (OfOutfallPlant t) q k)) k.kept

  pub took_day_plant : (stand : Stand) (r : Record) (t : Survey) (k' : Marks) (conc' flow' : List ℕ) (u : Taken) → r ≡ OfOutfallPlant t → Ready stand bytes r v s o d
      → DaySurveyTaken Plant v s t (marks_of o) o.concentrations o.flows k' conc' flow' u → Took stand bytes r (Ok tt) u (open_in k' conc' flow') d
  unfolding taken taken_in_water judge_readings
  took_day_plant stand r t k' conc' flow' u q k e =
      let ok = day_plant_ok v (runs_of stand) t (judged stand r (OfOutfallPlant t) q k) in
      took_other stand r (OfOutfallPlant t) u _ d q refl
      (in_water_lem stand v k.kept.view ok.inside (λ a. Kept a v s o d → Kept (taken a bytes (OfOutfallPlant t)) u.view u.sums (open_in k' conc' flow') d)
      (λ x done y.
      let f = day_survey_facts x done t y.view ok in
      kept-day_plant x done v s t o d y f.day f.all_days f.room f.pair k' conc' flow' u e) k.kept)

  pub took_none : (stand : Stand) (r : Record) → r ≡ Bad → Ready stand bytes r v s o d → ⊥
  took_none stand r q k = bad_refused v (runs_of stand) (judged stand r Bad q k)

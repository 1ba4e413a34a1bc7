-- Each record of an outfall taken in keeps what the code holds: its head, its days, its surveys and its end. Assumes nothing.
use mathlib.Core.Path.{◌≡◌, refl, ◌∙◌, sym, ap, ap₂, subst, subst₂}
use mathlib.Core.Bool.{Bool, true, false}
use mathlib.Core.List.{List, [], ◌∷◌, map}
use Prim.Native.Nat.{ℕ, ◌+◌, ◌-◌, ◌*◌, ◌<◌, ◌≤◌}
use native.Mathlib.Omega.{arith}
use lib.ListN.{length, get_or, set, length-map, length-set, length-append}
use lib.Dec.{eqb, ltb}
use Rattle.law.specs.Numbers.{most_days, most_hours, most_lines, total_cells, most_surveys, per_gram_of_water}
use Rattle.law.specs.Words.{pick, halves_up}
use Rattle.law.proofs.Tests.{pick_case, pick_true, pick_false}
use Rattle.law.proofs.Tabled.{table_at}
use Rattle.rules.specs.declared.Head.{Head}
use Rattle.rules.specs.declared.Outfall.{Outfall}
use Rattle.rules.specs.declared.WaterDay.{WaterDay}
use Rattle.rules.specs.declared.Survey.{Survey}
use Rattle.rules.specs.declared.View.{View}
use Rattle.rules.specs.Slots.{running_in, missing_in, first_missing_in}
use Rattle.rules.specs.Lines.{has_survey}
use Rattle.rules.specs.Outfalls.{OutfallLine, days_in_turn, surveyed_days, outfall_days, outfall_surveys, Line, OfOutfall, as_head, head_of_line}
use Rattle.rules.specs.Measured.{of_outfall}
use Rattle.rules.specs.Method.{daily_method_of, outfall_method}
use Rattle.rules.specs.Fields.{water_day_fields}
use Rattle.rules.specs.Fill.{cs, ls, unfilled}
use Rattle.rules.specs.Grams.{values_of, hourly, automatic, manual, outfall_grams, grams_of}
use Rattle.rules.specs.Row.{outfall_row, row_of, held, concentration_cells, flow_cells}
use Rattle.rules.specs.Judge.{fine, first_wrong, daily_method}
use Rattle.rules.specs.Walk.{Between, InWater, view_of, begun_outfall, with_water_day, with_day_enforcement, with_day_plant}
use Rattle.day.proofs.Laws.{PairAccepted}
use Rattle.line.specs.declared.surveyed.Weighed.{Weighed}
use Rattle.line.specs.Line.{row_in}
use Rattle.line.specs.Put.{standing, nothing, survey_c, survey_l, PutAt}
use Rattle.line.specs.Days.{lacks_on, first_lacking, DayPut}
use Rattle.rules.specs.declared.World.TheVariants.{Water}
use Rattle.walk.specs.declared.books.Sums.{Sums}
use Rattle.walk.specs.declared.books.Taken.{Taken}
use Rattle.walk.specs.declared.books.Marks.{Marks}
use Rattle.walk.specs.declared.books.Done.{Done}
use Rattle.rules.specs.declared.Surveyor.TheVariants.{Enforcement, Plant}
use Rattle.walk.specs.Views.{after_head, after_water_day, after_enforcement, after_plant, beats, after_end, with_survey}
use Rattle.walk.specs.Books.{flag_at, Open, in_open, open_in, marks_of, Long, WaterBooks, Kept}
use Rattle.walk.specs.Taking.{pair_c, pair_l, HeadTaken, WaterDayTaken, DaySurveyTaken, WaterEndTaken}
use Rattle.walk.proofs.Cleared.{cells-past}
use Rattle.walk.proofs.Views.{survey-count}
use Rattle.walk.proofs.Steps.{besides-most}
use Rattle.walk.proofs.Filled.{hourly-length}
use Rattle.walk.proofs.Standing.{open_is, long_as, head_cleared, head_long, adds_nothing}
use Rattle.walk.proofs.Ending.{row_same, done_more}
use Rattle.walk.proofs.Daily.{begun_outfall-books, water_day-books, water_day-accepted, day_enforcement_books, day_enforcement_missing, day_plant_books, day_plant_missing, days_beaten_same, day_beaten_books, accepted_c, accepted_l, view_outfall, view_water_day, view_day_enforcement, view_day_plant, view_water_end, days_first, days_cells, days_weighed, days_long}

-- ---- the method of the view is the line's
pub daily_is : (x : OutfallLine) (done : List Line) {v : View} → v ≡ view_of (InWater x done) → daily_method v ≡ outfall_method x
unfolding view_of outfall_method outfall_surveys
daily_is x done e =
    ap daily_method e ∙ ap₂ (λ (a b : ℕ). daily_method_of (a + b) (missing_in (outfall_days x))) (survey-count x.enforcement) (survey-count x.plant)

pub daily_most : (x : OutfallLine) → outfall_method x ≤ 2
unfolding outfall_method daily_method_of
daily_most x =
    pick_case (λ (m : ℕ). m ≤ 2) (eqb (missing_in (outfall_days x)) 0) 1 _ (λ _. omega arith) (λ _. pick_case (λ (m : ℕ). m ≤ 2) (ltb 0 (outfall_surveys x)) 2 0 (λ _. omega arith) (λ _. omega arith))

pub daily_two : (m : ℕ) → 0 < m → m ≤ 2 → (m ≡ 1 → ⊥) → m ≡ 2
daily_two m a b n = omega (arith, a, b, n)

pub days_surveyed_most : (x : OutfallLine) → length (surveyed_days x) ≤ outfall_surveys x
unfolding surveyed_days outfall_surveys
days_surveyed_most x = simp length-append (omega (arith, besides-most x.enforcement x.plant))

-- the same books under other names
books_as : (x : OutfallLine) {s t : Sums} {o p : Open} → WaterBooks x s o → t ≡ s → p ≡ o → WaterBooks x t p
books_as x k a b = rw (a, b) k

-- ---- a head
pub kept-outfall : (done : List Line) (v : View) (s : Sums) (h : Outfall) (o : Open) (d : Done) (flags' : List Bool) (conc' flow' : List ℕ) (r : Taken)
    → Kept (Between done) v s o d → h.days ≤ most_days → (1 ≤ h.pollutant) × (h.pollutant ≤ total_cells) → length done < most_lines
    → HeadTaken v s (as_head h) Water o.flags o.concentrations o.flows flags' conc' flow' r
    → Kept (InWater (begun_outfall h) done) r.view r.sums (in_open o.runs o.measured o.states flags' conc' flow') d
kept-outfall done v s h o d flags' conc' flow' r k days p room t =
    let z = head_cleared k (as_head h) Water flags' conc' flow' r t in
    record {
      view = t.view ∙ ap (λ (u : View). after_head u (as_head h) Water) k.view ∙ view_outfall done h;
      lines = omega arith;
      done = k.done;
      long = head_long k _ _ _ z;
      books = books_as (begun_outfall h) (begun_outfall-books h o.runs o.measured o.states days p) t.sums (open_is _ _ _ _ _ _ _ _ _ _ _ _ refl refl refl z.0 z.1 z.2);
    }

-- ---- a record of the open line: the lines that are done stay
kept-water : (x y : OutfallLine) (done : List Line) {v v' : View} {s s' : Sums} {o o' : Open} {d : Done} → Kept (InWater x done) v s o d → v' ≡ view_of (InWater y done) → Long o' → WaterBooks y s' o'
    → Kept (InWater y done) v' s' o' d
kept-water x y done k w l b = record { view = w; lines = k.lines; done = k.done; long = l; books = b }

-- ---- a day
pub kept-water_day : (x : OutfallLine) (done : List Line) (v : View) (s : Sums) (t : WaterDay) (o : Open) (d : Done) (k' : Marks) (conc' flow' : List ℕ) (r : Taken)
    → Kept (InWater x done) v s o d → length x.days < x.head.days → t.day ≡ length x.days → first_wrong (water_day_fields t) ≡ fine
    → WaterDayTaken v s t (marks_of o) o.concentrations o.flows k' conc' flow' r
    → Kept (InWater (with_water_day x t) done) r.view r.sums (open_in k' conc' flow') d
kept-water_day x done v s t o d k' conc' flow' r k more turn ok e =
    let n = length x.days in
    let er = e.runs_now ∙ ap (λ (i : ℕ). set o.runs i t.state) turn in
    let es = e.states_now ∙ ap (λ (i : ℕ). set o.states i t.state) turn in
    let ec = e.conc_now ∙ ap (λ (i : ℕ). set o.concentrations i (pair_c t.pair)) turn in
    let el = e.flow_now ∙ ap (λ (i : ℕ). set o.flows i (pair_l t.pair)) turn in
    kept-water x (with_water_day x t) done k
    (e.view ∙ ap (λ (w : View). after_water_day w t.state) k.view ∙ view_water_day x done t (water_day-accepted t ok).state (k.books.early more).0 (k.books.early more).1)
    (long_as _ _ _ _ _ _ k.long (ap length er ∙ length-set o.runs n _) (ap length e.measured_stay) (ap length es ∙ length-set o.states n _) (ap length e.flags_stay)
    (ap length ec ∙ length-set o.concentrations n _) (ap length el ∙ length-set o.flows n _))
    (books_as (with_water_day x t) (water_day-books x t k.books k.long more ok) e.sums (open_is _ _ _ _ _ _ _ _ _ _ _ _ er e.measured_stay es e.flags_stay ec el))

-- ---- surveys
module _ (x : OutfallLine) (done : List Line) (v : View) (s : Sums) (t : Survey) (o : Open) (d : Done) (k : Kept (InWater x done) v s o d)
    (day : t.hour < x.head.days) (all_days : length x.days ≡ x.head.days) (room : outfall_surveys x < most_surveys) (ok : PairAccepted t.pair)
  where
    abbrev c : ℕ
    c = (values_of t.pair).c

    abbrev l : ℕ
    l = (values_of t.pair).l

    abbrev found : ℕ
    found = lacks_on o.states t.hour

    -- its figures are its values
    figures-are : (P : ℕ → ℕ → Type 0) → P (survey_c t) (survey_l t) → P c l
    figures-are P p = subst₂ P (accepted_c t.pair ok) (accepted_l t.pair ok) p

    -- one that is not beaten is put in
    put_in : (beaten : Bool) (states' conc' flow' : List ℕ) (w : Weighed) → beaten ≡ false → DayPut t beaten o.states o.concentrations o.flows states' conc' flow' w
        → PutAt t found o.states o.concentrations o.flows states' conc' flow' w
    put_in beaten states' conc' flow' w q p =
        record {
          weighs = p.weighs ∙ sym (pick_false _ _ _ _ q refl);
          states_now = p.states_now ∙ sym (pick_false _ _ _ _ q refl);
          conc_now = p.conc_now ∙ sym (pick_false _ _ _ _ q refl);
          flow_now = p.flow_now ∙ sym (pick_false _ _ _ _ q refl);
        }

    -- a survey that stands, for the line y that has it
    stands : (y : OutfallLine) (flags' : List Bool) (states' conc' flow' : List ℕ) (w : Weighed) (r : Taken) → PutAt t found o.states o.concentrations o.flows states' conc' flow' w
        → r.sums ≡ with_survey s w → length flags' ≡ length o.flags → (w.found ≡ found → r.view ≡ view_of (InWater y done))
        → WaterBooks y (with_survey s (standing c l found)) (in_open o.runs o.measured (set o.states t.hour 2) flags' (set o.concentrations t.hour c) (set o.flows t.hour l))
        → Kept (InWater y done) r.view r.sums (in_open o.runs o.measured states' flags' conc' flow') d
    stands y flags' states' conc' flow' w r p es f ev books =
        let ew : w ≡ standing c l found = figures-are (λ i j. w ≡ standing i j found) p.weighs in
        let ec : conc' ≡ set o.concentrations t.hour c = figures-are (λ i j. conc' ≡ set o.concentrations t.hour i) p.conc_now in
        let el : flow' ≡ set o.flows t.hour l = figures-are (λ i j. flow' ≡ set o.flows t.hour j) p.flow_now in
        kept-water x y done k (ev (ap (λ (u : Weighed). u.found) ew))
        (long_as _ _ _ _ _ _ k.long refl refl (ap length p.states_now ∙ length-set o.states t.hour 2) f (ap length ec ∙ length-set o.concentrations t.hour c) (ap length el ∙ length-set o.flows t.hour l))
        (books_as y books (es ∙ ap (with_survey s) ew) (open_is _ _ _ _ _ _ _ _ _ _ _ _ refl refl p.states_now refl ec el))

    -- masks and flags under the code's names
    named : (y : OutfallLine) (k' : Marks) (flags' : List Bool) (conc' flow' : List ℕ) (r : Taken) → k'.runs ≡ o.runs → k'.measured ≡ o.measured → k'.flags ≡ flags'
        → Kept (InWater y done) r.view r.sums (in_open o.runs o.measured k'.states flags' conc' flow') d → Kept (InWater y done) r.view r.sums (open_in k' conc' flow') d
    named y k' flags' conc' flow' r p m q w =
        subst (λ (ms : List ℕ). Kept (InWater y done) r.view r.sums (in_open k'.runs ms k'.states k'.flags conc' flow') d) (sym m)
        (subst₂ (λ (rs : List ℕ) (fs : List Bool). Kept (InWater y done) r.view r.sums (in_open rs o.measured k'.states fs conc' flow') d) (sym p) (sym q) w)

    pub kept-day_enforcement : (k' : Marks) (conc' flow' : List ℕ) (r : Taken) → x.plant ≡ []
        → DaySurveyTaken Enforcement v s t (marks_of o) o.concentrations o.flows k' conc' flow' r
        → Kept (InWater (with_day_enforcement x t) done) r.view r.sums (open_in k' conc' flow') d
    kept-day_enforcement k' conc' flow' r none e =
        named (with_day_enforcement x t) k' (set o.flags t.hour true) conc' flow' r e.runs_stay e.measured_stay e.flags_now
        (stands (with_day_enforcement x t) (set o.flags t.hour true) k'.states conc' flow' e.weighed r (put_in false _ _ _ _ refl e.put) e.sums (length-set o.flags t.hour true)
        (λ q.
        e.view ∙ ap₂ (λ (w : View) (n : ℕ). after_enforcement w t.hour n) k.view q
        ∙ view_day_enforcement x done t found (day_enforcement_missing x t k.books k.long all_days day none))
        (day_enforcement_books x t k.books k.long all_days day room ok none))

    flag_is : get_or o.flags t.hour false ≡ flag_at x.enforcement t.hour
    flag_is = ap (λ (fs : List Bool). get_or fs t.hour false) k.books.surveys.flagged ∙ table_at (flag_at x.enforcement) most_hours t.hour false (omega (arith, k.books.period))

    module _ (k' : Marks) (conc' flow' : List ℕ) (r : Taken) (e : DaySurveyTaken Plant v s t (marks_of o) o.concentrations o.flows k' conc' flow' r) where
      abbrev states' : List ℕ
      states' = k'.states

      plant_by : (b : Bool) → has_survey t.hour x.enforcement ≡ b → beats o.flags t.hour ≡ b
          → Kept (InWater (with_day_plant x t) done) r.view r.sums (in_open o.runs o.measured states' o.flags conc' flow') d
      plant_by true h q =
          let ew : e.weighed ≡ nothing = e.put.weighs ∙ sym (pick_true _ _ _ _ q refl) in
          let es : states' ≡ o.states = e.put.states_now ∙ sym (pick_true _ _ _ _ q refl) in
          let ec : conc' ≡ o.concentrations = e.put.conc_now ∙ sym (pick_true _ _ _ _ q refl) in
          let el : flow' ≡ o.flows = e.put.flow_now ∙ sym (pick_true _ _ _ _ q refl) in
          let ev = view_day_plant x done t 0 (ap missing_in (days_beaten_same x t h) ∙ (let z : missing_in (outfall_days x) ≡ missing_in (outfall_days x) - 0 = omega arith in z)) in
          kept-water x (with_day_plant x t) done k (e.view ∙ ap₂ (λ (w : View) (n : ℕ). after_plant w t.hour n) k.view (ap (λ (u : Weighed). u.found) ew) ∙ ev)
          (long_as _ _ _ _ _ _ k.long refl refl (ap length es) refl (ap length ec) (ap length el))
          (books_as (with_day_plant x t) (day_beaten_books x t h k.books all_days room) (e.sums ∙ ap (with_survey s) ew ∙ adds_nothing s) (open_is _ _ _ _ _ _ _ _ _ _ _ _ refl refl es refl ec el))
      plant_by false h q =
          stands (with_day_plant x t) o.flags states' conc' flow' e.weighed r
          (put_in _ _ _ _ _ q e.put)
          e.sums refl
          (λ z. e.view ∙ ap₂ (λ (w : View) (n : ℕ). after_plant w t.hour n) k.view z ∙ view_day_plant x done t found (day_plant_missing x t k.books k.long all_days day h))
          (day_plant_books x t k.books k.long all_days day room ok h)

      pub kept-day_plant : Kept (InWater (with_day_plant x t) done) r.view r.sums (open_in k' conc' flow') d
      unfolding flag_at
      kept-day_plant =
          named (with_day_plant x t) k' o.flags conc' flow' r e.runs_stay e.measured_stay e.flags_now
          (plant_by (has_survey t.hour x.enforcement) refl flag_is)

-- ---- an end
module _ (x : OutfallLine) (done : List Line) (v : View) (s : Sums) (o : Open) (d : Done) (k : Kept (InWater x done) v s o d) (all_days : length x.days ≡ x.head.days)
    (d' : Done) (r : Taken) (e : WaterEndTaken v s (first_lacking o.states v.head.days) o.concentrations o.flows d d' r)
  where
    v_days : v.head.days ≡ length x.days
    unfolding view_of as_head
    v_days = ap (λ (w : View). w.head.days) k.view ∙ sym all_days

    v_running : v.running ≡ running_in (days_in_turn x.days)
    unfolding view_of
    v_running = ap (λ (w : View). w.running) k.view

    v_missing : v.missing ≡ missing_in (outfall_days x)
    unfolding view_of
    v_missing = ap (λ (w : View). w.missing) k.view

    v_lines : v.lines ≡ length done
    unfolding view_of
    v_lines = ap (λ (w : View). w.lines) k.view

    v_head : v.head ≡ as_head x.head
    unfolding view_of
    v_head = ap (λ (w : View). w.head) k.view

    v_method : daily_method v ≡ outfall_method x
    v_method = daily_is x done k.view

    v_first : first_lacking o.states v.head.days ≡ first_missing_in (outfall_days x)
    v_first = ap (first_lacking o.states) (v_days ∙ all_days) ∙ days_first x k.books all_days

    by_method : (b : Bool) → eqb (outfall_method x) 1 ≡ b → e.grams ≡ outfall_grams x
    unfolding outfall_grams automatic manual pick
    by_method true t =
        e.figure ∙ rw (v_method, t, v_days) (ap (λ (n : ℕ). halves_up n (1 * per_gram_of_water)) (days_weighed x k.books))
    by_method false t = e.figure ∙ rw (v_method, t, k.books.surveys.weighed, k.books.surveys.counted, v_running) refl

    figure-is : e.grams ≡ outfall_grams x
    figure-is = by_method (eqb (outfall_method x) 1) refl

    row_is : row_in v (daily_method v) e.grams (first_lacking o.states v.head.days) ≡ outfall_row x
    unfolding outfall_row as_head
    row_is =
        row_same _ _ _ _ _ _ _ _ _ _ _ _ _ _ (ap (λ (h : Head). h.stack) v_head) (ap (λ (h : Head). h.pollutant) v_head) v_method figure-is v_running v_missing v_first

    held-most : length (hourly unfilled (of_outfall x)) ≡ length x.days
    held-most = hourly-length (of_outfall x) unfilled ∙ days_long x

    pub kept-water_end : Kept (Between (OfOutfall x ∷ done)) r.view r.sums (in_open o.runs o.measured o.states o.flags o.concentrations o.flows) d'
    unfolding row_of grams_of head_of_line as_head held concentration_cells flow_cells cs ls
    kept-water_end =
        let cl = days_cells x k.books in
        let used : r.sums.used ≡ x.head.days = ap (λ (u : Sums). u.used) e.stated.sums ∙ k.books.used in
        let p : v.head.pollutant ≡ x.head.pollutant = ap (λ (h : Head). h.pollutant) v_head in
        record {
          view = e.stated.view ∙ ap after_end k.view ∙ view_water_end x done;
          lines = omega (arith, k.lines);
          done =
              done_more (OfOutfall x) done v d d' (daily_method v) e.grams (first_lacking o.states v.head.days) k.done (omega (arith, k.lines)) v_lines p
              (omega (arith, p, k.books.pollutant), omega (arith, p, k.books.pollutant)) row_is figure-is e.small e.stated.rows_now e.stated.totals_now_here;
          long = k.long;
          books =
              record {
                conc_held_here = cl.0;
                flow_held = cl.1;
                used_most = omega (arith, used, k.books.period);
                flags_past = λ h m. k.books.surveys.past h (omega (arith, used, m));
                conc_past = λ h m. ap (λ (t : List ℕ). get_or t h 0) cl.0 ∙ cells-past (map (λ w. w.c) (hourly unfilled (of_outfall x))) r.sums.used h (omega (arith, used, all_days, length-map (hourly unfilled (of_outfall x)) (λ w. w.c), held-most)) m;
                flow_past = λ h m. ap (λ (t : List ℕ). get_or t h 0) cl.1 ∙ cells-past (map (λ w. w.l) (hourly unfilled (of_outfall x))) r.sums.used h (omega (arith, used, all_days, length-map (hourly unfilled (of_outfall x)) (λ w. w.l), held-most)) m;
              };
        }

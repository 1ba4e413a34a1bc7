-- The code's state stands for the lines after each record that is taken in. Assumes nothing.
use Rattle.std.specs.Prelude.{Option}
use mathlib.Core.Path.{◌≡◌, refl, ◌∙◌, sym, ap, ap₂, subst, subst₂}
use mathlib.Core.Bool.{Bool, true, false}
use mathlib.Core.List.{List, []}
use Prim.Native.Nat.{ℕ, ◌+◌, ◌-◌, ◌*◌, ◌<◌, ◌≤◌}
use native.Mathlib.Omega.{arith}
use lib.ListN.{length, get_or, set, length-set, length-append, length-take, length-drop}
use lib.Dec.{eqb}
use borrow.Author.Tests.{eqb-true, eqb-false}
use Rattle.law.specs.Numbers.{hours_of_day, most_days, most_hours, most_lines, total_cells, most_surveys, most_sulphur, most_ash, most_fuel, most_concentration, most_flow}
use Rattle.law.specs.Words.{pick, table}
use Rattle.law.proofs.Tests.{pick_true, pick_false}
use Rattle.law.proofs.Tabled.{table_length, table_at}
use Rattle.reading.specs.Reading.{stated, flagged_of}
use Rattle.rules.specs.declared.Head.{Head}
use Rattle.rules.specs.declared.Survey.{Survey}
use Rattle.rules.specs.declared.Batch.{Batch}
use Rattle.rules.specs.declared.View.{View}
use Rattle.rules.specs.Records.{Day, masks_of, day_of}
use Rattle.rules.specs.Slots.{valid, missing, stopped}
use Rattle.rules.specs.Hours.{bit, pair_at, slot_of, lacking}
use Rattle.rules.specs.Lines.{StackLine, has_survey, days_after, surveys, fuel}
use Rattle.rules.specs.Outfalls.{Line}
use Rattle.hours.specs.Marks.{found_by}
use Rattle.rules.specs.Fill.{Values, zeroes}
use Rattle.rules.specs.Grams.{values_of}
use Rattle.rules.specs.Judge.{fine, judge_hours}
use Rattle.rules.specs.Walk.{Between, Inside, view_of, begun, with_day, with_enforcement, with_plant, with_batch}
use Rattle.day.specs.Day.{concentration_at, flow_at, hour_state}
use Rattle.day.proofs.Laws.{PairAccepted, day_accepted, concentration-blank, flow-blank, concentration-most, flow-most}
use Rattle.rules.specs.declared.World.{World}
use Rattle.rules.specs.declared.World.TheVariants.{Air}
use Rattle.walk.specs.declared.books.Sums.{Sums}
use Rattle.walk.specs.declared.books.Taken.{Taken}
use Rattle.walk.specs.declared.books.Marks.{Marks}
use Rattle.walk.specs.declared.books.Done.{Done}
use Rattle.rules.specs.declared.Surveyor.TheVariants.{Enforcement, Plant}
use Rattle.walk.specs.Views.{after_head, after_day, after_enforcement, after_plant, beats, after_batch, with_survey}
use Rattle.walk.specs.Books.{put_from, in_cell, flag_at, Open, in_open, open_in, marks_of, Long, LineBooks, Kept}
use Rattle.walk.proofs.Cleared.{cleared_all}
use Rattle.walk.specs.Taking.{HeadTaken, DayTaken, SurveyTaken, BatchTaken}
use Rattle.line.specs.declared.surveyed.Weighed.{Weighed}
use Rattle.line.specs.Put.{Tables, in_tables, survey_c, survey_l, standing, nothing, measured_at}
use Rattle.walk.proofs.Views.{view_head, view_day, view_enforcement, view_plant, view_batch}
use Rattle.walk.proofs.Steps.{begun-books, day_books, enforcement_books, enforcement_lacking, plant_books, plant_lacking, days_beaten, beaten_books, batch-books}

-- the same books under other names
books_as : (x : StackLine) {s t : Sums} {o p : Open} → LineBooks x s o → t ≡ s → p ≡ o → LineBooks x t p
books_as x k a b = rw (a, b) k

pub open_is : (a b c : List ℕ) (e : List Bool) (f g a' b' c' : List ℕ) (e' : List Bool) (f' g' : List ℕ) → a ≡ a' → b ≡ b' → c ≡ c' → e ≡ e' → f ≡ f' → g ≡ g' → in_open a b c e f g ≡ in_open a' b' c' e' f' g'
open_is a b c e f g a' b' c' e' f' g' p q r s t u = cc

pub long_as : {o : Open} (a b c : List ℕ) (e : List Bool) (f g : List ℕ) → Long o → length a ≡ length o.runs → length b ≡ length o.measured → length c ≡ length o.states → length e ≡ length o.flags
    → length f ≡ length o.concentrations → length g ≡ length o.flows → Long (in_open a b c e f g)
long_as a b c e f g l p q r s t u =
    record {
      runs = p ∙ l.runs;
      measured = q ∙ l.measured;
      states = r ∙ l.states;
      flags = s ∙ l.flags;
      concentrations = t ∙ l.concentrations;
      flows = u ∙ l.flows;
    }

-- ---- a head of either world: flags and cells are 0
abbrev zeros : List ℕ
zeros = table (λ i. 0) most_hours

abbrev unflagged : List Bool
unflagged = table (λ i. false) most_hours

module _ {done : List Line} {v : View} {s : Sums} {o : Open} {d : Done} (k : Kept (Between done) v s o d) where
  pub head_cleared : (h : Head) (world : World) (flags' : List Bool) (conc' flow' : List ℕ) (r : Taken) → HeadTaken v s h world o.flags o.concentrations o.flows flags' conc' flow' r
      → (flags' ≡ unflagged) × (conc' ≡ zeros) × (flow' ≡ zeros)
  head_cleared h world flags' conc' flow' r t =
      let b = k.books in
      let l = k.long in (
        t.flags_now ∙ cleared_all false o.flags s.used b.flags_past l.flags b.used_most,
        t.conc_now ∙ cleared_all 0 o.concentrations s.used b.conc_past l.concentrations b.used_most,
        t.flow_now ∙ cleared_all 0 o.flows s.used b.flow_past l.flows b.used_most,
      )

  pub head_long : (flags' : List Bool) (conc' flow' : List ℕ) → (flags' ≡ unflagged) × (conc' ≡ zeros) × (flow' ≡ zeros) → Long (in_open o.runs o.measured o.states flags' conc' flow')
  head_long flags' conc' flow' z =
      let l = k.long in
      let n : length zeros ≡ most_hours = table_length (λ i. 0) most_hours in
      record {
        runs = l.runs;
        measured = l.measured;
        states = l.states;
        flags = ap length z.0 ∙ table_length (λ i. false) most_hours;
        concentrations = ap length z.1 ∙ n;
        flows = ap length z.2 ∙ n;
      }

pub kept-head : (done : List Line) (v : View) (s : Sums) (h : Head) (o : Open) (d : Done) (flags' : List Bool) (conc' flow' : List ℕ) (r : Taken)
    → Kept (Between done) v s o d → h.days ≤ most_days → (1 ≤ h.pollutant) × (h.pollutant ≤ total_cells) → length done < most_lines
    → HeadTaken v s h Air o.flags o.concentrations o.flows flags' conc' flow' r → Kept (Inside (begun h) done) r.view r.sums (in_open o.runs o.measured o.states flags' conc' flow') d
kept-head done v s h o d flags' conc' flow' r k days p room t =
    let z = head_cleared k h Air flags' conc' flow' r t in
    record {
      view = t.view ∙ ap (λ (u : View). after_head u h Air) k.view ∙ view_head done h;
      lines = omega arith;
      done = k.done;
      long = head_long k _ _ _ z;
      books = books_as (begun h) (begun-books h o.runs o.measured o.states days p) t.sums (open_is _ _ _ _ _ _ _ _ _ _ _ _ refl refl refl z.0 z.1 z.2);
    }

-- ---- a record of the open line: the lines that are done stay
kept_line : (x y : StackLine) (done : List Line) {v v' : View} {s s' : Sums} {o o' : Open} {d : Done} → Kept (Inside x done) v s o d → v' ≡ view_of (Inside y done) → Long o' → LineBooks y s' o'
    → Kept (Inside y done) v' s' o' d
kept_line x y done k w l b = record { view = w; lines = k.lines; done = k.done; long = l; books = b }

-- ---- a day
pub put_length : (g : ℕ → ℕ) (c from : ℕ) (cells : List ℕ) → from + c ≤ length cells → length (put_from g c from cells) ≡ length cells
put_length g c from cells l = simp (length-append, length-take, length-drop) (omega (arith, table_length g c))

-- what a day measured is what its rounding keeps
value-by : (d : Day) (k : ℕ) (f : Values → ℕ) (v : ℕ) → f zeroes ≡ 0 → (bit k d.masks.measured ≡ 1 → v ≡ f (values_of (pair_at d k))) → ((bit k d.masks.measured ≡ 1 → ⊥) → v ≡ 0)
    → (b r : Bool) → eqb (bit k d.masks.measured) 1 ≡ b → f (in_cell (pick b (valid (pair_at d k)) (pick r missing stopped))) ≡ v
unfolding in_cell pick
value-by d k f v z on off true r e = sym (on (eqb-true _ 1 e))
value-by d k f v z on off false true e = z ∙ sym (off (eqb-false _ 1 e))
value-by d k f v z on off false false e = z ∙ sym (off (eqb-false _ 1 e))

module _ (d : Day) (fine-hours : judge_hours d ≡ fine) (k : ℕ) (l : k < 24) where
  day_c : (in_cell (slot_of d k)).c ≡ concentration_at d k
  unfolding slot_of zeroes values_of
  day_c =
      value-by d k (λ v. v.c) (concentration_at d k) refl (λ e. (day_accepted d fine-hours k l e).concentration-is) (concentration-blank d k)
      (eqb (bit k d.masks.measured) 1) (eqb (bit k d.masks.run) 1) refl

  day_l : (in_cell (slot_of d k)).l ≡ flow_at d k
  unfolding slot_of zeroes values_of
  day_l =
      value-by d k (λ v. v.l) (flow_at d k) refl (λ e. (day_accepted d fine-hours k l e).flow-is) (flow-blank d k)
      (eqb (bit k d.masks.measured) 1) (eqb (bit k d.masks.run) 1) refl

pub kept-day : (x : StackLine) (done : List Line) (bytes : List ℕ) (v : View) (s : Sums) (o : Open) (e : Done) (runs' measured' states' conc' flow' : List ℕ) (r : Taken)
    → Kept (Inside x done) v s o e → length x.days < x.head.days → (masks_of bytes).day ≡ length x.days
    → DayTaken bytes v s (masks_of bytes) o.runs o.measured o.states o.concentrations o.flows runs' measured' states' conc' flow' r → judge_hours (day_of bytes) ≡ fine
    → Kept (Inside (with_day x (day_of bytes)) done) r.view r.sums (in_open runs' measured' states' o.flags conc' flow') e
unfolding day_of
kept-day x done bytes v s o e runs' measured' states' conc' flow' r k more turn t f =
    let d = day_of bytes in
    let n = length x.days in
    let m = masks_of bytes in
    let cv = concentration_at d in
    let lv = flow_at d in
    let sv = hour_state d in
    let er : runs' ≡ set o.runs n m.run = t.runs_now ∙ ap (λ (i : ℕ). set o.runs i m.run) turn in
    let em : measured' ≡ set o.measured n m.measured = t.measured_now ∙ ap (λ (i : ℕ). set o.measured i m.measured) turn in
    let es : states' ≡ put_from sv hours_of_day (hours_of_day * n) o.states = t.states_now ∙ ap (λ (i : ℕ). put_from sv hours_of_day (hours_of_day * i) o.states) turn in
    let ec : conc' ≡ put_from cv hours_of_day (hours_of_day * n) o.concentrations = t.conc_now ∙ ap (λ (i : ℕ). put_from cv hours_of_day (hours_of_day * i) o.concentrations) turn in
    let el : flow' ≡ put_from lv hours_of_day (hours_of_day * n) o.flows = t.flow_now ∙ ap (λ (i : ℕ). put_from lv hours_of_day (hours_of_day * i) o.flows) turn in
    let books = day_books x d k.books more cv lv (day_c d f) (day_l d f) (λ i l. concentration-most d i) (λ i l. flow-most d i) k.long in
    kept_line x (with_day x d) done k (t.view ∙ ap (λ (w : View). after_day w m) k.view ∙ view_day x done d (k.books.early more).0 (k.books.early more).1)
    (long_as _ _ _ _ _ _ k.long (ap length er ∙ length-set o.runs n m.run) (ap length em ∙ length-set o.measured n m.measured)
    (ap length es ∙ put_length sv hours_of_day (hours_of_day * n) o.states (omega (arith, k.books.period, k.long.states))) refl
    (ap length ec ∙ put_length cv hours_of_day (hours_of_day * n) o.concentrations (omega (arith, k.books.period, k.long.concentrations)))
    (ap length el ∙ put_length lv hours_of_day (hours_of_day * n) o.flows (omega (arith, k.books.period, k.long.flows))))
    (books_as (with_day x d) books t.sums (open_is _ _ _ _ _ _ _ _ _ _ _ _ er em es refl ec el))

-- ---- surveys: an accepted pair's kept values are its values
survey-c : (t : Survey) → PairAccepted t.pair → survey_c t ≡ (values_of t.pair).c
unfolding flagged_of stated values_of
survey-c t e = ap (λ (r : Option ℕ). (flagged_of r).value) e.concentration-value

survey-l : (t : Survey) → PairAccepted t.pair → survey_l t ≡ (values_of t.pair).l
unfolding flagged_of stated values_of
survey-l t e = ap (λ (r : Option ℕ). (flagged_of r).value) e.flow-value

most_c : (t : Survey) → PairAccepted t.pair → (values_of t.pair).c ≤ most_concentration
unfolding values_of
most_c t e = e.concentration-most

most_l : (t : Survey) → PairAccepted t.pair → (values_of t.pair).l ≤ most_flow
unfolding values_of
most_l t e = e.flow-most

-- a survey that is beaten adds nothing
pub adds_nothing : (s : Sums) → with_survey s nothing ≡ s
adds_nothing s =
    let n : s.surveyed + 0 ≡ s.surveyed = omega arith in
    let w : 0 + s.weight ≡ s.weight = omega arith in
    ap₂ (λ (i j : ℕ). record { surveyed = i; weight = j; sulphur = s.sulphur; ash = s.ash; used = s.used }) n w

module _ (x : StackLine) (done : List Line) (v : View) (s : Sums) (t : Survey) (o : Open) (d : Done) (k : Kept (Inside x done) v s o d)
    (hour : t.hour < hours_of_day * x.head.days) (all_days : length x.days ≡ x.head.days) (room : surveys x < most_surveys) (ok : PairAccepted t.pair)
  where
    abbrev c : ℕ
    c = (values_of t.pair).c

    abbrev l : ℕ
    l = (values_of t.pair).l

    abbrev found : ℕ
    found = found_by t.hour o.runs o.measured

    -- its figures are its values
    figures-are : (P : ℕ → ℕ → Type 0) → P (survey_c t) (survey_l t) → P c l
    figures-are P p = subst₂ P (survey-c t ok) (survey-l t ok) p

    abbrev tables : Tables
    tables = in_tables o.measured o.states o.concentrations o.flows

    -- the lists after it, and how long they are
    abbrev after : List Bool → Tables → Open
    after flags' o' = in_open o.runs o'.measured o'.states flags' o'.concentrations o'.flows

    long_after : (flags' : List Bool) → length flags' ≡ length o.flags → Long (after flags' (measured_at t.hour c l tables))
    long_after flags' f =
        long_as _ _ _ _ _ _ k.long refl (length-set o.measured _ _) (length-set o.states t.hour 2) f (length-set o.concentrations t.hour c) (length-set o.flows t.hour l)

    -- a survey that stands: the view, the lists and the books, for the line y that has it
    stands : (y : StackLine) (flags' : List Bool) (o' : Tables) (w : Weighed) (r : Taken) → o' ≡ measured_at t.hour (survey_c t) (survey_l t) tables → w ≡ standing (survey_c t) (survey_l t) found
        → r.sums ≡ with_survey s w → length flags' ≡ length o.flags → (w.found ≡ found → r.view ≡ view_of (Inside y done)) → LineBooks y (with_survey s (standing c l found)) (after flags' (measured_at t.hour c l tables))
        → Kept (Inside y done) r.view r.sums (after flags' o') d
    stands y flags' o' w r et ew es f ev books =
        let e : o' ≡ measured_at t.hour c l tables = figures-are (λ i j. o' ≡ measured_at t.hour i j tables) et in
        let q : r.sums ≡ with_survey s (standing c l found) = es ∙ ap (with_survey s) (figures-are (λ i j. w ≡ standing i j found) ew) in
        subst (λ (z : Tables). Kept (Inside y done) r.view r.sums (after flags' z) d) (sym e)
        (kept_line x y done k (ev (ap (λ (u : Weighed). u.found) ew)) (long_after flags' f) (books_as y books q refl))

    -- the tables that a survey leaves
    module _ (k' : Marks) (conc' flow' : List ℕ) where
      abbrev left : Tables
      left = in_tables k'.measured k'.states conc' flow'

      -- masks and flags under the code's names
      named : (y : StackLine) (r : Taken) (flags' : List Bool) → k'.runs ≡ o.runs → k'.flags ≡ flags' → Kept (Inside y done) r.view r.sums (after flags' left) d
          → Kept (Inside y done) r.view r.sums (open_in k' conc' flow') d
      named y r flags' p q w =
          subst₂ (λ (rs : List ℕ) (fs : List Bool). Kept (Inside y done) r.view r.sums (in_open rs k'.measured k'.states fs conc' flow') d) (sym p) (sym q) w

      pub kept-enforcement : (r : Taken) → x.plant ≡ [] → SurveyTaken Enforcement v s t (marks_of o) o.concentrations o.flows k' conc' flow' r
          → Kept (Inside (with_enforcement x t) done) r.view r.sums (open_in k' conc' flow') d
      kept-enforcement r none e =
          named (with_enforcement x t) r (set o.flags t.hour true) e.runs_stay e.flags_now
          (stands (with_enforcement x t) (set o.flags t.hour true) left e.weighed r (e.put.tables ∙ sym (pick_false _ _ _ _ refl refl)) (e.put.weighs ∙ sym (pick_false _ _ _ _ refl refl)) e.sums (length-set o.flags t.hour true)
          (λ q.
          e.view ∙ ap₂ (λ (w : View) (n : ℕ). after_enforcement w t.hour n) k.view q
          ∙ view_enforcement x done t found (enforcement_lacking x t k.books k.long all_days hour room (most_c t ok) (most_l t ok) found none))
          (enforcement_books x t k.books k.long all_days hour room (most_c t ok) (most_l t ok) found none))

    -- a flag is 1 where an enforcement survey stands
    flag_is : get_or o.flags t.hour false ≡ flag_at x.enforcement t.hour
    flag_is = ap (λ (l : List Bool). get_or l t.hour false) k.books.surveys.flagged ∙ table_at (flag_at x.enforcement) most_hours t.hour false (omega (arith, k.books.period))

    module _ (k' : Marks) (conc' flow' : List ℕ) (r : Taken) (e : SurveyTaken Plant v s t (marks_of o) o.concentrations o.flows k' conc' flow' r) where
      abbrev o' : Tables
      o' = left k' conc' flow'

      plant_by : (b : Bool) → has_survey t.hour x.enforcement ≡ b → beats o.flags t.hour ≡ b → Kept (Inside (with_plant x t) done) r.view r.sums (after o.flags o') d
      plant_by true h q =
          let ew : e.weighed ≡ nothing = e.put.weighs ∙ sym (pick_true _ _ _ _ q refl) in
          let es : r.sums ≡ s = e.sums ∙ ap (with_survey s) ew ∙ adds_nothing s in
          let et : o' ≡ tables = e.put.tables ∙ sym (pick_true _ _ _ _ q refl) in
          let ev = view_plant x done t 0 (ap lacking (days_beaten x t h) ∙ (let z : lacking (days_after x) ≡ lacking (days_after x) - 0 = omega arith in z)) in
          subst (λ (z : Tables). Kept (Inside (with_plant x t) done) r.view r.sums (after o.flags z) d) (sym et)
          (kept_line x (with_plant x t) done k (e.view ∙ ap₂ (λ (w : View) (n : ℕ). after_plant w t.hour n) k.view (ap (λ (u : Weighed). u.found) ew) ∙ ev) k.long
          (books_as (with_plant x t) (beaten_books x t h k.books all_days room) es refl))
      plant_by false h q =
          stands (with_plant x t) o.flags o' e.weighed r (e.put.tables ∙ sym (pick_false _ _ _ _ q refl)) (e.put.weighs ∙ sym (pick_false _ _ _ _ q refl)) e.sums refl
          (λ z.
          e.view ∙ ap₂ (λ (w : View) (n : ℕ). after_plant w t.hour n) k.view z
          ∙ view_plant x done t found (plant_lacking x t k.books k.long all_days hour room (most_c t ok) (most_l t ok) found h))
          (plant_books x t k.books k.long all_days hour room (most_c t ok) (most_l t ok) found h)

      pub kept-plant : Kept (Inside (with_plant x t) done) r.view r.sums (open_in k' conc' flow') d
      unfolding flag_at
      kept-plant =
          named k' conc' flow' (with_plant x t) r o.flags e.runs_stay e.flags_now
          (plant_by (has_survey t.hour x.enforcement) refl flag_is)

-- ---- a batch
pub kept-batch : (x : StackLine) (done : List Line) (v : View) (s : Sums) (b : Batch) (o : Open) (d : Done) (r : Taken)
    → Kept (Inside x done) v s o d → b.kg + fuel x.batches ≤ most_fuel → b.sulphur ≤ most_sulphur → b.ash ≤ most_ash
    → BatchTaken v s b r → Kept (Inside (with_batch x b) done) r.view r.sums o d
kept-batch x done v s b o d r k most sm am e =
    kept_line x (with_batch x b) done k (e.view ∙ ap (λ (w : View). after_batch w b.kg) k.view ∙ view_batch x done b) k.long
    (books_as (with_batch x b) (batch-books x b k.books most sm am) e.sums refl)

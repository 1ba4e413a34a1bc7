-- The end of a line: its grams, its row and its cells are those of the rules. Assumes nothing.
use Rattle.std.specs.Prelude.{None}
use mathlib.Core.Path.{◌≡◌, refl, ◌∙◌, sym, ap, ap₂, subst}
use mathlib.Core.Bool.{Bool, true, false}
use mathlib.Core.List.{List, [], ◌∷◌, ◌++◌, map, append_assoc}
use Prim.Native.Nat.{ℕ, suc, ◌+◌, ◌-◌, ◌*◌, ◌<◌, ◌≤◌}
use native.Mathlib.Nat.{zero-add}
use native.Mathlib.Omega.{arith}
use native.Mathlib.Decide.{dec_lt, ℕ_discrete}
use lib.ListN.{length, drop, get_or, set, length-map, length-set, get_or-eq_default}
use lib.Seq.{take_at, drop_at, drop-drop, get_or-set_same, get_or-set_other}
use lib.Dec.{eqb}
use borrow.Author.Tests.{eqb-true, eqb-false, eq-eqb, ne_eqb}
use Rattle.law.specs.Numbers.{hours_of_day, most_days, most_hours, most_lines, row_cells, total_cells, per_gram, most_grams}
use Rattle.law.specs.Words.{need, pick, sum_of, table, over, halves_up}
use Rattle.law.proofs.Tabled.{table_length, table_at, table_set}
use Rattle.rules.specs.declared.Head.{Head}
use Rattle.rules.specs.declared.View.{View}
use Rattle.rules.specs.Hours.{running, lacking, run_masks, measured_masks, first_missing}
use Rattle.rules.specs.Lines.{StackLine, days_after, hours, surveys, fuel}
use Rattle.rules.specs.Outfalls.{Line, OfStack, head_of_line}
use Rattle.rules.specs.Method.{method_of, method}
use Rattle.rules.specs.Tables.{coefficients_of}
use Rattle.rules.specs.Fill.{Values, cs, ls, filled, unfilled}
use Rattle.rules.specs.Grams.{hourly, amount, automatic, manual, sulphur_of, grams, grams_of}
use Rattle.rules.specs.Measured.{of_stack}
use Rattle.rules.specs.Row.{stack_row, row_of, rows_of, total_of, totals_of, stack_held, held, cells, concentration_cells, flow_cells}
use Rattle.rules.specs.Walk.{Between, Inside, view_of}
use Rattle.rules.proofs.Methods.{grams-automatic, grams-manual, grams-fuel}
use Rattle.answers.proofs.Rows.{rows_long}
use Rattle.fills.specs.Gaps.{filled_cells}
use Rattle.fills.specs.Weights.{products}
use Rattle.fills.proofs.Products.{products-amounts}
use Rattle.fuel.specs.Fuel.{ash_of, fuel_figure}
use Rattle.fuel.proofs.Figures.{line_figure}
use Rattle.walk.specs.declared.books.Sums.{Sums}
use Rattle.walk.specs.declared.books.Taken.{Taken}
use Rattle.walk.specs.declared.books.Done.{Done}
use Rattle.walk.specs.Views.{after_end}
use Rattle.walk.specs.Books.{no_rows, put_from, values_at, Open, in_open, DoneKept, CellsKept, Kept}
use Rattle.walk.specs.Closing.{grams_in, period_weight, LineGrams, with_grams}
use Rattle.walk.specs.Taking.{EndTaken}
use Rattle.hours.specs.States.{period_states}
use Rattle.line.specs.Line.{row_in}
use Rattle.rules.specs.Judge.{line_method}
use Rattle.walk.proofs.Views.{survey-count, view_end}
use Rattle.walk.proofs.Filled.{hours-long, unfilled-concentrations, unfilled-flows, filled-concentrations, filled-flows, held-length, held-cells}
use Rattle.walk.proofs.Cleared.{cells-past}
use Rattle.walk.proofs.Standing.{put_length}

-- the method of the view is the line's
pub method-is : (x : StackLine) (done : List Line) → line_method (view_of (Inside x done)) ≡ method x
unfolding view_of method surveys
method-is x done =
    ap₂ (λ (a b : ℕ). method_of x.head (a + b) (running x.days) (lacking (days_after x))) (survey-count x.enforcement) (survey-count x.plant)

-- a cell is within the limit of its quantity
table_most : (f : ℕ → ℕ) (M : ℕ) → ((h : ℕ) → f h ≤ M) → (h : ℕ) → Dec (h < most_hours) → get_or (table f most_hours) h 0 ≤ M
table_most f M m h (yes l) = subst (λ (n : ℕ). n ≤ M) (sym (table_at f most_hours h 0 l)) (m h)
table_most f M m h (no l) = subst (λ (n : ℕ). n ≤ M) (sym (get_or-eq_default (table f most_hours) 0 (let e : length (table f most_hours) ≤ h = omega (arith, table_length f most_hours) in e))) (omega arith)

pub cells-most : {value : ℕ → ℕ} {most : ℕ} {cells : List ℕ} → CellsKept value most cells → (h : ℕ) → get_or cells h 0 ≤ most
cells-most {value} {most} c h = subst (λ (l : List ℕ). get_or l h 0 ≤ most) (sym c.hold) (table_most value most c.within h (dec_lt h most_hours))

-- ---- method 1: what is weighed is the sum of the filled hours
module _ (x : StackLine) (few : length x.days ≤ most_days) where
  weighed : period_weight (hours_of_day * length x.days) (filled_cells (period_states (run_masks x.days) (measured_masks (days_after x)) (length x.days)) (table (λ h. (values_at (hours x) h).c) most_hours)) (filled_cells (period_states (run_masks x.days) (measured_masks (days_after x)) (length x.days)) (table (λ h. (values_at (hours x) h).l) most_hours))
      ≡ sum_of amount (hourly filled (of_stack x))
  weighed = ap₂ products (filled-concentrations x few).0 (filled-flows x few).0 ∙ sym (products-amounts (hourly filled (of_stack x)))

-- ---- what each method leaves
pub record Closes (x : StackLine) (conc' flow' : List ℕ) (g : ℕ) : Type 0 where
  pub figure : g ≡ grams x
  pub concentrations : conc' ≡ cells (cs (stack_held x))
  pub flows : flow' ≡ cells (ls (stack_held x))

held-filled : (x : StackLine) → eqb (method x) 1 ≡ true → stack_held x ≡ hourly filled (of_stack x)
unfolding stack_held pick
held-filled x t = rw t

held_plain : (x : StackLine) → eqb (method x) 1 ≡ false → stack_held x ≡ hourly unfilled (of_stack x)
unfolding stack_held pick
held_plain x t = rw t

-- one cell of a list set, none of it too large
set-most : (xs : List ℕ) (k v M : ℕ) → ((i : ℕ) → get_or xs i 0 ≤ M) → v ≤ M → (i : ℕ) → get_or (set xs k v) i 0 ≤ M
set-most xs k v M m l i = by (ℕ_discrete i k) (dec_lt k (length xs))
  where
    by : Dec (i ≡ k) → Dec (k < length xs) → get_or (set xs k v) i 0 ≤ M
    by (yes e) (yes h) = subst (λ (j : ℕ). get_or (set xs k v) j 0 ≤ M) (sym e) (subst (λ (n : ℕ). n ≤ M) (sym (get_or-set_same xs k v 0 h)) l)
    by (yes e) (no h) = subst (λ (n : ℕ). n ≤ M) (sym (get_or-eq_default (set xs k v) 0 (let q : length (set xs k v) ≤ i = omega (arith, e, length-set xs k v) in q))) (omega arith)
    by (no e) h = subst (λ (n : ℕ). n ≤ M) (sym (get_or-set_other xs k i v 0 e)) (m i)

-- ---- the row goes behind the rows
seven : (a b c d e f g : ℕ) → table (λ i. get_or (a ∷ b ∷ c ∷ d ∷ e ∷ f ∷ g ∷ []) i 0) 7 ≡ a ∷ b ∷ c ∷ d ∷ e ∷ f ∷ g ∷ []
unfolding table
seven a b c d e f g = refl

pub row_same : (a b c d e f g a' b' c' d' e' f' g' : ℕ) → a ≡ a' → b ≡ b' → c ≡ c' → d ≡ d' → e ≡ e' → f ≡ f' → g ≡ g'
    → a ∷ b ∷ c ∷ d ∷ e ∷ f ∷ g ∷ [] ≡ a' ∷ b' ∷ c' ∷ d' ∷ e' ∷ f' ∷ g' ∷ []
row_same a b c d e f g a' b' c' d' e' f' g' i j k l m n o = cc

row-behind : (n : ℕ) (row rows rest out out' : List ℕ) (w : ℕ → ℕ) → length rows ≡ n → out ≡ rows ++ drop n rest → table w 7 ≡ row → out' ≡ put_from w 7 n out → out' ≡ (rows ++ row) ++ drop (n + 7) rest
row-behind n row rows rest out out' w l r e o =
    o ∙ ap (put_from w 7 n) r
    ∙ ap₂ (λ (s t : List ℕ). s ++ over w 7 t) (take_at rows (drop n rest) n l) (drop_at rows (drop n rest) n l)
    ∙ ap₂ (λ (s t : List ℕ). rows ++ (s ++ t)) e (drop-drop 7 n rest)
    ∙ sym (append_assoc rows row (drop (n + 7) rest))

-- ---- a line more of either world: its row goes behind the rows, and its grams to the total of its pollutant
module _ (line : Line) (done : List Line) (v : View) (d d' : Done) (m g first : ℕ) (k : DoneKept done d) (room : length done < most_lines) (lines : v.lines ≡ length done)
    (pollutant : v.head.pollutant ≡ (head_of_line line).pollutant) (in_cells : (1 ≤ v.head.pollutant) × (v.head.pollutant ≤ total_cells))
    (row_is : row_in v m g first ≡ row_of line) (figure : g ≡ grams_of line) (small : g ≤ most_grams)
    (rows : d'.rows ≡ put_from (λ i. get_or (row_in v m g first) i 0) row_cells (row_cells * v.lines) d.rows) (totals : d'.totals ≡ with_grams d.totals v.head.pollutant g)
  where
    rows_now_here : d'.rows ≡ (rows_of done ++ row_of line) ++ drop (row_cells * suc (length done)) no_rows
    rows_now_here =
        let n : row_cells * length done + row_cells ≡ row_cells * suc (length done) = omega arith in
        let w : ℕ → ℕ = λ i. get_or (row_in v m g first) i 0 in
        row-behind (row_cells * length done) (row_of line) (rows_of done) no_rows d.rows d'.rows w (rows_long done) k.rows (seven _ _ _ _ _ _ _ ∙ row_is)
        (rows ∙ ap (λ (i : ℕ). put_from w row_cells (row_cells * i) d.rows) lines)
        ∙ ap (λ (i : ℕ). (rows_of done ++ row_of line) ++ drop i no_rows) n

    -- the totals of the lines done, in cells
    total_at : (i : ℕ) → i < total_cells → get_or d.totals i 0 ≡ total_of (i + 1) done
    unfolding totals_of
    total_at i l = ap (λ (t : List ℕ). get_or t i 0) k.totals ∙ table_at (λ j. total_of (j + 1) done) total_cells i 0 l

    abbrev own : ℕ
    own = v.head.pollutant - 1

    own_less : own < total_cells
    own_less = omega (arith, in_cells)

    own_total : g + get_or d.totals own 0 ≡ total_of (own + 1) (line ∷ done)
    unfolding total_of sum_of need
    own_total =
        let n : (head_of_line line).pollutant ≡ own + 1 = omega (arith, pollutant, in_cells) in
        ap₂ (λ (i j : ℕ). i + j) figure (total_at own own_less) ∙ rw (eq-eqb (head_of_line line).pollutant (own + 1) n)

    other_total : (i : ℕ) → (i ≡ own → ⊥) → total_of (i + 1) (line ∷ done) ≡ total_of (i + 1) done
    unfolding total_of sum_of need
    other_total i n = rw (ne_eqb (head_of_line line).pollutant (i + 1) (λ q. n (omega (arith, q, pollutant, in_cells)))) (zero-add _)

    totals_now : d'.totals ≡ totals_of (line ∷ done)
    unfolding totals_of
    totals_now =
        totals
        ∙ ap (λ (t : List ℕ). set t own (g + get_or d.totals own 0)) k.totals
        ∙ table_set (λ i. total_of (i + 1) done) (λ i. total_of (i + 1) (line ∷ done)) total_cells own (g + get_or d.totals own 0) 0 own_less (sym own_total) (λ i l. other_total i)

    total_most : (i : ℕ) → get_or d'.totals i 0 ≤ suc (length done) * most_grams
    total_most i =
        subst (λ (t : List ℕ). get_or t i 0 ≤ suc (length done) * most_grams) (sym totals)
        (set-most d.totals own (g + get_or d.totals own 0) (suc (length done) * most_grams) (λ j. omega (arith, k.most j)) (omega (arith, k.most own, small)) i)

    pub done_more : DoneKept (line ∷ done) d'
    unfolding rows_of
    done_more =
        record {
          rows = rows_now_here;
          totals = totals_now;
          most = total_most;
          long = ap length rows ∙ put_length _ row_cells (row_cells * v.lines) d.rows (omega (arith, lines, room, k.long)) ∙ k.long;
        }

module _ (x : StackLine) (done : List Line) (v : View) (s : Sums) (o : Open) (d : Done)
    (k : Kept (Inside x done) v s o d) (all_days : length x.days ≡ x.head.days)
    (entry : (method x ≡ 1 → ⊥) → (method x ≡ 2 → ⊥) → coefficients_of x.head ≡ None → ⊥)
  where
    few : length x.days ≤ most_days
    few = omega (arith, k.books.period)

    few_hours : length (hours x) ≤ most_hours
    few_hours = omega (arith, few, hours-long x)

    abbrev line_states : List ℕ
    line_states = period_states (run_masks x.days) (measured_masks (days_after x)) v.head.days

    abbrev line_first : ℕ
    line_first = first_missing (run_masks x.days) (measured_masks (days_after x)) v.head.days

    v_head : v.head ≡ x.head
    unfolding view_of
    v_head = ap (λ (w : View). w.head) k.view

    v_pollutant : v.head.pollutant ≡ x.head.pollutant
    v_pollutant = ap (λ (h : Head). h.pollutant) v_head

    v_running : v.running ≡ running x.days
    unfolding view_of
    v_running = ap (λ (w : View). w.running) k.view

    v_missing : v.missing ≡ lacking (days_after x)
    unfolding view_of
    v_missing = ap (λ (w : View). w.missing) k.view

    v_lines : v.lines ≡ length done
    unfolding view_of
    v_lines = ap (λ (w : View). w.lines) k.view

    v_fuel : v.fuel ≡ fuel x.batches
    unfolding view_of
    v_fuel = ap (λ (w : View). w.fuel) k.view

    v_method : line_method v ≡ method x
    v_method = ap line_method k.view ∙ method-is x done

    v_days : v.head.days ≡ length x.days
    v_days = ap (λ (h : Head). h.days) v_head ∙ sym all_days

    fuel-figure : fuel_figure v.head v.fuel s.sulphur s.ash ≡ fuel_figure x.head (fuel x.batches) (sulphur_of x.batches) (ash_of x.batches)
    fuel-figure = rw (v_head, v_fuel, k.books.fuel.largest, k.books.fuel.summed)

    module _ (conc' flow' : List ℕ) (g : ℕ) (l : LineGrams (line_method v) v s line_states o.concentrations o.flows conc' flow' g) where
      closes_by : (p q : Bool) → eqb (method x) 1 ≡ p → eqb (method x) 2 ≡ q → Closes x conc' flow' g
      unfolding automatic manual
      closes_by true q t u =
          let z = eqb-true (method x) 1 t in
          let f = l.automatic (v_method ∙ z) in
          let state : ℕ → List ℕ = λ n. period_states (run_masks x.days) (measured_masks (days_after x)) n in
          let c : conc' ≡ filled_cells (state (length x.days)) (table (λ h. (values_at (hours x) h).c) most_hours) = f.concentrations ∙ ap₂ (λ (n : ℕ) (t : List ℕ). filled_cells (state n) t) v_days k.books.concentrations.hold in
          let w : flow' ≡ filled_cells (state (length x.days)) (table (λ h. (values_at (hours x) h).l) most_hours) = f.flows ∙ ap₂ (λ (n : ℕ) (t : List ℕ). filled_cells (state n) t) v_days k.books.flows.hold in
          record {
            figure =
                f.grams ∙ ap (λ (n : ℕ). halves_up (period_weight (hours_of_day * n) conc' flow') per_gram) v_days
                ∙ ap₂ (λ (i j : List ℕ). halves_up (period_weight (hours_of_day * length x.days) i j) per_gram) c w
                ∙ ap (λ (n : ℕ). halves_up n per_gram) (weighed x few) ∙ sym (grams-automatic x z);
            concentrations = c ∙ (filled-concentrations x few).1 ∙ ap (λ (w : List Values). cells (cs w)) (sym (held-filled x t));
            flows = w ∙ (filled-flows x few).1 ∙ ap (λ (vs : List Values). cells (ls vs)) (sym (held-filled x t));
          }
      closes_by false true t u =
          let f = l.manual (v_method ∙ eqb-true (method x) 2 u) in
          record {
            figure = f.2 ∙ rw (k.books.surveys.weighed, k.books.surveys.counted, v_running) refl ∙ sym (grams-manual x (eqb-true (method x) 2 u));
            concentrations = f.0 ∙ k.books.concentrations.hold ∙ unfilled-concentrations (of_stack x) few_hours ∙ ap (λ (w : List Values). cells (cs w)) (sym (held_plain x t));
            flows = f.1 ∙ k.books.flows.hold ∙ unfilled-flows (of_stack x) few_hours ∙ ap (λ (w : List Values). cells (ls w)) (sym (held_plain x t));
          }
      closes_by false false t u =
          let n = eqb-false (method x) 1 t in
          let m = eqb-false (method x) 2 u in
          let f = l.fuel (λ e. n (sym v_method ∙ e)) (λ e. m (sym v_method ∙ e)) in
          record {
            figure = f.2 ∙ ap grams_in (fuel-figure ∙ line_figure x.head x.batches k.books.fuel.range (entry n m)) ∙ sym (grams-fuel x n m);
            concentrations = f.0 ∙ k.books.concentrations.hold ∙ unfilled-concentrations (of_stack x) few_hours ∙ ap (λ (w : List Values). cells (cs w)) (sym (held_plain x t));
            flows = f.1 ∙ k.books.flows.hold ∙ unfilled-flows (of_stack x) few_hours ∙ ap (λ (w : List Values). cells (ls w)) (sym (held_plain x t));
          }

      closes : Closes x conc' flow' g
      closes = closes_by (eqb (method x) 1) (eqb (method x) 2) refl refl

    module _ (conc' flow' : List ℕ) (d' : Done) (r : Taken) (e : EndTaken v s line_states line_first o.concentrations o.flows d conc' flow' d' r) where
      shut : Closes x conc' flow' e.grams
      shut = closes conc' flow' e.grams e.figures

      row_is : row_in v (line_method v) e.grams line_first ≡ stack_row x
      unfolding stack_row
      row_is =
          row_same _ _ _ _ _ _ _ _ _ _ _ _ _ _ (ap (λ (h : Head). h.stack) v_head) (ap (λ (h : Head). h.pollutant) v_head)
          v_method shut.figure v_running v_missing (ap (first_missing (run_masks x.days) (measured_masks (days_after x))) v_days)

      pub kept-end : Kept (Between (OfStack x ∷ done)) r.view r.sums (in_open o.runs o.measured o.states o.flags conc' flow') d'
      unfolding row_of grams_of head_of_line held concentration_cells flow_cells cs ls
      kept-end =
          let c = shut.concentrations in
          let l = shut.flows in
          let used : r.sums.used ≡ hours_of_day * x.head.days = ap (λ (u : Sums). u.used) e.stated.sums ∙ k.books.used in
          record {
            view = e.stated.view ∙ ap after_end k.view ∙ view_end x done;
            lines = omega (arith, k.lines);
            done =
                done_more (OfStack x) done v d d' (line_method v) e.grams line_first k.done (omega (arith, k.lines)) v_lines (v_pollutant ∙ refl)
                (omega (arith, v_pollutant, k.books.pollutant), omega (arith, v_pollutant, k.books.pollutant)) row_is shut.figure e.small e.stated.rows_now e.stated.totals_now_here;
            long =
                record {
                  runs = k.long.runs;
                  measured = k.long.measured;
                  states = k.long.states;
                  flags = k.long.flags;
                  concentrations = ap length c ∙ held-cells x (λ w. w.c) few;
                  flows = ap length l ∙ held-cells x (λ w. w.l) few;
                };
            books =
                record {
                  conc_held_here = c;
                  flow_held = l;
                  used_most = omega (arith, used, k.books.period);
                  flags_past = λ h m. k.books.surveys.past h (omega (arith, used, m));
                  conc_past = λ h m. ap (λ (t : List ℕ). get_or t h 0) c ∙ cells-past (map (λ w. w.c) (stack_held x)) r.sums.used h (omega (arith, used, k.books.days, length-map (stack_held x) (λ w. w.c), held-length x)) m;
                  flow_past = λ h m. ap (λ (t : List ℕ). get_or t h 0) l ∙ cells-past (map (λ w. w.l) (stack_held x)) r.sums.used h (omega (arith, used, k.books.days, length-map (stack_held x) (λ w. w.l), held-length x)) m;
                };
          }

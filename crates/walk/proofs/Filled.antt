-- The end of a line: what the cells hold then, filled or not, and what is weighed. Assumes nothing.
use mathlib.Core.Path.{◌≡◌, refl, ◌∙◌, sym, ap, ap₂}
use mathlib.Core.List.{List, [], ◌++◌, map, reverse}
use Prim.Native.Nat.{ℕ, ◌+◌, ◌-◌, ◌*◌, ◌<◌, ◌≤◌}
use native.Mathlib.Omega.{arith}
use lib.ListN.{length, length-append, take, drop, get_or, replicate, length-take, length-drop, length-map, length-replicate, take-append-drop, get_or-replicate, get_or-map, get_or-eq_default}
use lib.Seq.{get_or-take, get_or-drop, ext_get_or}
use lib.Dec.{eqb}
use Rattle.law.specs.Numbers.{hours_of_day, most_days, most_hours}
use Rattle.law.specs.Words.{pick, table}
use Rattle.law.proofs.Tests.{pick_case}
use Rattle.law.proofs.Tabled.{table_length, table_at, table_is}
use Rattle.rules.specs.declared.Pair.{Pair}
use Rattle.rules.specs.Slots.{Slot, valid, missing, stopped, map_slot, entry, entries}
use Rattle.rules.specs.Hours.{run_masks, measured_masks}
use Rattle.rules.specs.Lines.{StackLine, days_after, hours}
use Rattle.rules.specs.Fill.{Values, zeroes, cs, ls, fill, mean_up, same, filled, unfilled}
use Rattle.rules.specs.Grams.{values_of, slots, hourly}
use Rattle.rules.specs.Method.{method}
use Rattle.rules.specs.Row.{cells, stack_held}
use Rattle.rules.specs.Measured.{Measured, of_stack}
use Rattle.hours.specs.States.{state_at}
use Rattle.rules.proofs.Days.{length-slots}
use Rattle.rules.proofs.Surveyed.{days_length, days_runs}
use Rattle.hours.proofs.Laws.{slot_state, slot_in, state_slot}
use Rattle.fills.specs.Gaps.{slot_at, row, filled_cells}
use Rattle.rules.proofs.Slots.{entries_length, line_at}
use Rattle.fills.proofs.Filled.{filled-line, filled-rest}
use Rattle.fills.proofs.Alone.{cs-alone, ls-alone}
use Rattle.walk.specs.Books.{in_cell, values_at}

-- ---- an hour of a line after step 1, or a day: what the cells hold where nothing is filled
entry_plain : (before after : List (Slot Values)) (o : Slot Pair) → entry (λ v. v) unfilled zeroes before (map_slot values_of o) after ≡ in_cell o
unfolding entry map_slot in_cell unfilled
entry_plain before after (valid p) = refl
entry_plain before after missing = refl
entry_plain before after stopped = refl

module _ (m : Measured) (few : length m.after ≤ most_hours) where
  slots-all : length (slots m) ≡ length m.after
  unfolding slots
  slots-all = length-map m.after (map_slot values_of)

  slots_at : (h : ℕ) → get_or (slots m) h stopped ≡ map_slot values_of (get_or m.after h stopped)
  unfolding slots map_slot
  slots_at h = get_or-map (map_slot values_of) m.after h stopped

  module _ (f : Values → ℕ) (zero-f : f zeroes ≡ 0) where
    abbrev span : ℕ
    span = length m.after

    abbrev plain : List ℕ
    plain = table (λ h. f (values_at m.after h)) most_hours

    -- those behind the period hold nothing
    rest_zero : drop span plain ≡ replicate (most_hours - span) 0
    unfolding values_at in_cell
    rest_zero =
        ext_get_or 0 (drop span plain) (replicate (most_hours - span) 0) (simp (length-drop, length-replicate) (omega (arith, table_length (λ h. f (values_at m.after h)) most_hours)))
        (λ h l.
        let w : span + h < most_hours = omega (arith, length-drop span plain, table_length (λ h. f (values_at m.after h)) most_hours) in
        get_or-drop span plain h 0 ∙ table_at (λ k. f (values_at m.after k)) most_hours (span + h) 0 w ∙ ap (λ (o : Slot Pair). f (in_cell o)) (get_or-eq_default m.after stopped (let z : span ≤ span + h = omega arith in z)) ∙ zero-f
        ∙ sym (get_or-replicate (most_hours - span) h 0 0 (omega arith)))

    plain_cells : (es : List ℕ) → length es ≡ span → ((h : ℕ) → h < span → get_or es h 0 ≡ f (values_at m.after h)) → plain ≡ cells es
    unfolding cells
    plain_cells es long at =
        let size : length plain ≡ most_hours = table_length (λ h. f (values_at m.after h)) most_hours in
        let front : take span plain ≡ es =
        ext_get_or 0 (take span plain) es (simp length-take (omega arith))
        (λ h l.
        let w : h < span = omega (arith, simp length-take at l) in
        get_or-take span plain h 0 w ∙ table_at (λ k. f (values_at m.after k)) most_hours h 0 (omega arith) ∙ sym (at h w)) in
        sym (take-append-drop span plain) ∙ ap₂ (λ (t u : List ℕ). t ++ u) front (rest_zero ∙ ap (λ (k : ℕ). replicate (most_hours - k) 0) (sym long))

  unfilled-at : (h : ℕ) → h < length m.after → get_or (hourly unfilled m) h zeroes ≡ values_at m.after h
  unfolding hourly values_at
  unfilled-at h l =
      line_at (λ v. v) unfilled zeroes (slots m) h zeroes (omega (arith, slots-all))
      ∙ ap (λ (o : Slot Values). entry (λ v. v) unfilled zeroes (reverse (take h (slots m))) o (drop (h + 1) (slots m))) (slots_at h)
      ∙ entry_plain (reverse (take h (slots m))) (drop (h + 1) (slots m)) (get_or m.after h stopped)

  unfilled-long : (f : Values → ℕ) → length (map f (hourly unfilled m)) ≡ length m.after
  unfolding hourly
  unfilled-long f = length-map (hourly unfilled m) f ∙ entries_length (λ v. v) unfilled zeroes [] (slots m) ∙ slots-all

  pub unfilled-concentrations : table (λ h. (values_at m.after h).c) most_hours ≡ cells (cs (hourly unfilled m))
  unfolding cs zeroes
  unfilled-concentrations =
      plain_cells (λ v. v.c) refl (cs (hourly unfilled m)) (unfilled-long (λ v. v.c))
      (λ h l. get_or-map (λ (v : Values). v.c) (hourly unfilled m) h zeroes ∙ ap (λ (v : Values). v.c) (unfilled-at h l))

  pub unfilled-flows : table (λ h. (values_at m.after h).l) most_hours ≡ cells (ls (hourly unfilled m))
  unfolding ls zeroes
  unfilled-flows =
      plain_cells (λ v. v.l) refl (ls (hourly unfilled m)) (unfilled-long (λ v. v.l))
      (λ h l. get_or-map (λ (v : Values). v.l) (hourly unfilled m) h zeroes ∙ ap (λ (v : Values). v.l) (unfilled-at h l))

-- ---- an hour of a stack
abbrev N : StackLine → ℕ
N x = hours_of_day * length x.days

abbrev slot_now : StackLine → ℕ → Slot Pair
slot_now x h = get_or (hours x) h stopped

pub hours-long : (x : StackLine) → length (hours x) ≡ hours_of_day * length x.days
unfolding hours
hours-long x = length-slots (days_after x) ∙ ap (λ (n : ℕ). hours_of_day * n) (days_length x)

-- a slot by its state and the value of its hour
slot_by : (f : Values → ℕ) (o : Slot Pair) → map_slot f (map_slot values_of o) ≡ slot_in (slot_state o) (f (in_cell o))
unfolding map_slot slot_state slot_in in_cell pick
slot_by f (valid p) = refl
slot_by f missing = refl
slot_by f stopped = refl

stopped-zero : (f : Values → ℕ) → f zeroes ≡ 0 → (o : Slot Pair) → map_slot f (map_slot values_of o) ≡ stopped → f (in_cell o) ≡ 0
unfolding map_slot in_cell
stopped-zero f z (valid p) e = absurd (let t : ◌≡◌ {A = ℕ} 0 1 = cc in omega arith)
stopped-zero f z missing e = z
stopped-zero f z stopped e = z

-- ---- one quantity f of the line's hours: states and cells are its slots
abbrev pub line_states : StackLine → List ℕ
line_states x = table (state_at (run_masks x.days) (measured_masks (days_after x))) (hours_of_day * length x.days)

abbrev pub line_values : (Values → ℕ) → StackLine → List ℕ
line_values f x = table (λ h. f (values_at (hours x) h)) most_hours

module _ (x : StackLine) (few : length x.days ≤ most_days) (f : Values → ℕ) (zero-f : f zeroes ≡ 0) where
  most_hours_here : length (hours x) ≤ most_hours
  most_hours_here = omega (arith, hours-long x)

  slots-long : length (slots (of_stack x)) ≡ N x
  slots-long = slots-all (of_stack x) most_hours_here ∙ hours-long x

  abbrev states : List ℕ
  states = line_states x

  abbrev values : List ℕ
  values = line_values f x

  all_hours : length states ≡ N x
  all_hours = table_length (state_at (run_masks x.days) (measured_masks (days_after x))) (N x)

  slot_is : (h : ℕ) → h < N x → slot_at states values h ≡ map_slot f (map_slot values_of (slot_now x h))
  unfolding slot_at slot_in values_at hours
  slot_is h l =
      ap₂ (λ (s v : ℕ). slot_in s v) (table_at (state_at (run_masks x.days) (measured_masks (days_after x))) (N x) h 0 l) (table_at (λ k. f (values_at (hours x) k)) most_hours h 0 (omega arith))
      ∙ ap (λ (s : ℕ). slot_in s (f (in_cell (slot_now x h)))) (sym (state_slot (days_after x) h ∙ ap (λ (r : List ℕ). state_at r (measured_masks (days_after x)) h) (days_runs x)))
      ∙ sym (slot_by f (slot_now x h))

  slots-are : row states values ≡ map (map_slot f) (slots (of_stack x))
  unfolding map_slot
  slots-are =
      ap (table (slot_at states values)) all_hours
      ∙ sym (table_is (slot_at states values) (N x) stopped (map (map_slot f) (slots (of_stack x))) (length-map (slots (of_stack x)) (map_slot f) ∙ slots-long)
      (λ h l. get_or-map (map_slot f) (slots (of_stack x)) h stopped ∙ ap (map_slot f) (slots_at (of_stack x) most_hours_here h) ∙ sym (slot_is h l)))

  still : (h : ℕ) → h < length states → slot_at states values h ≡ stopped → get_or values h 0 ≡ 0
  unfolding values_at hours
  still h l e =
      let m : h < N x = omega (arith, all_hours) in
      table_at (λ k. f (values_at (hours x) k)) most_hours h 0 (omega arith) ∙ stopped-zero f zero-f (slot_now x h) (sym (slot_is h m) ∙ e)

  -- filled: each hour's entry, and nothing behind the period
  pub filled-cells : (es : List ℕ) → es ≡ entries (λ v. v) (fill mean_up same) 0 [] (map (map_slot f) (slots (of_stack x))) → (take (N x) (filled_cells states values) ≡ es) × (filled_cells states values ≡ cells es)
  unfolding cells
  filled-cells es e =
      let front : take (N x) (filled_cells states values) ≡ es =
      ap (λ (k : ℕ). take k (filled_cells states values)) (sym all_hours)
      ∙ filled-line states values still
      ∙ ap (entries (λ v. v) (fill mean_up same) 0 []) slots-are ∙ sym e in
      let back : drop (N x) (filled_cells states values) ≡ replicate (most_hours - N x) 0 =
      ap (λ (k : ℕ). drop k (filled_cells states values)) (sym all_hours) ∙ filled-rest states values ∙ ap (λ (k : ℕ). drop k values) all_hours ∙ ap (λ (k : ℕ). drop k values) (sym (hours-long x)) ∙ rest_zero (of_stack x) most_hours_here f zero-f ∙ ap (λ (k : ℕ). replicate (most_hours - k) 0) (hours-long x) in
      let long : length es ≡ N x = ap length e ∙ entries_length (λ v. v) (fill mean_up same) 0 [] (map (map_slot f) (slots (of_stack x))) ∙ length-map (slots (of_stack x)) (map_slot f) ∙ slots-long in
      (front, sym (take-append-drop (N x) (filled_cells states values)) ∙ ap₂ (λ (t u : List ℕ). t ++ u) front (back ∙ ap (λ (k : ℕ). replicate (most_hours - k) 0) (sym long)))

-- ---- both quantities
module _ (x : StackLine) (few : length x.days ≤ most_days) where
  pub filled-concentrations : (take (N x) (filled_cells (line_states x) (line_values (λ v. v.c) x)) ≡ cs (hourly filled (of_stack x))) × (filled_cells (line_states x) (line_values (λ v. v.c) x) ≡ cells (cs (hourly filled (of_stack x))))
  unfolding hourly zeroes
  filled-concentrations = filled-cells x few (λ v. v.c) refl (cs (hourly filled (of_stack x))) (cs-alone (slots (of_stack x)))

  pub filled-flows : (take (N x) (filled_cells (line_states x) (line_values (λ v. v.l) x)) ≡ ls (hourly filled (of_stack x))) × (filled_cells (line_states x) (line_values (λ v. v.l) x) ≡ cells (ls (hourly filled (of_stack x))))
  unfolding hourly zeroes
  filled-flows = filled-cells x few (λ v. v.l) refl (ls (hourly filled (of_stack x))) (ls-alone (slots (of_stack x)))

-- ---- a line's cells are 2,208, whatever they hold
pub hourly-length : (m : Measured) (rule : ℕ → List Values → List Values → Values) → length (hourly rule m) ≡ length m.after
unfolding hourly slots
hourly-length m rule = entries_length (λ v. v) rule zeroes [] (slots m) ∙ length-map m.after (map_slot values_of)

pub held-length : (x : StackLine) → length (stack_held x) ≡ hours_of_day * length x.days
unfolding stack_held
held-length x =
    pick_case (λ (t : List Values). length t ≡ hours_of_day * length x.days) (eqb (method x) 1) (hourly filled (of_stack x)) (hourly unfilled (of_stack x)) (λ _. hourly-length (of_stack x) filled ∙ hours-long x) (λ _. hourly-length (of_stack x) unfilled ∙ hours-long x)

pub held-cells : (x : StackLine) (f : Values → ℕ) → length x.days ≤ most_days → length (cells (map f (stack_held x))) ≡ most_hours
unfolding cells
held-cells x f l = simp (length-append, length-replicate) (omega (arith, length-map (stack_held x) f, held-length x))

-- What a record that is taken in does to the values of each hour of its line. Assumes nothing.
use mathlib.Core.Path.{◌≡◌, ◌∙◌, sym, ap}
use mathlib.Core.List.{List, [], ◌∷◌, ◌++◌}
use Prim.Native.Nat.{ℕ, ◌+◌, ◌*◌, ◌<◌, ◌≤◌}
use native.Mathlib.Omega.{arith}
use lib.ListN.{length, get_or, set, get_or-append}
use lib.Seq.{get_or-append-add, get_or-set_same, get_or-set_other}
use Rattle.law.specs.Numbers.{hours_of_day}
use Rattle.law.specs.Words.{table}
use Rattle.law.proofs.Tabled.{table_at}
use Rattle.rules.specs.declared.Head.{Head}
use Rattle.rules.specs.declared.Pair.{Pair}
use Rattle.rules.specs.declared.Survey.{Survey}
use Rattle.rules.specs.Records.{Day}
use Rattle.rules.specs.Slots.{Slot, valid, stopped}
use Rattle.rules.specs.Hours.{slot_of, slots_of}
use Rattle.rules.specs.Lines.{StackLine, days_after, hours, put_survey}
use Rattle.rules.specs.Walk.{begun, with_day}
use Rattle.rules.specs.Fill.{zeroes}
use Rattle.rules.specs.Grams.{values_of}
use Rattle.rules.proofs.Days.{length-slots, slot_past}
use Rattle.rules.proofs.Surveyed.{days_length, days_early, put_slots}
use Rattle.walk.specs.Books.{in_cell, values_at}

-- ---- past the days of a line nothing stands
pub past-zero : (x : StackLine) (h : ℕ) → hours_of_day * length x.days ≤ h → values_at (hours x) h ≡ zeroes
unfolding values_at in_cell hours
past-zero x h l = ap in_cell (slot_past (days_after x) h (omega (arith, days_length x)))

pub begun-zero : (hd : Head) (h : ℕ) → values_at (hours (begun hd)) h ≡ zeroes
unfolding begun
begun-zero hd h = past-zero (begun hd) h (omega arith)

-- ---- a day more, before the first survey: the hours before it stay, and its own hold what it measured
module _ (x : StackLine) (d : Day) (e : x.enforcement ≡ []) (q : x.plant ≡ []) where
  pub after-day : days_after (with_day x d) ≡ d ∷ days_after x
  unfolding with_day
  after-day = days_early (with_day x d) e q ∙ ap (λ (ds : List Day). d ∷ ds) (sym (days_early x e q))

  pub day_before : (h : ℕ) → h < hours_of_day * length x.days → values_at (hours (with_day x d)) h ≡ values_at (hours x) h
  unfolding slots_of values_at hours
  day_before h l =
      ap (λ (ds : List Day). in_cell (get_or (slots_of ds) h stopped)) after-day
      ∙ ap in_cell (get_or-append (slots_of (days_after x)) (table (slot_of d) 24) stopped h (omega (arith, length-slots (days_after x), days_length x)))

  pub day_own : (k : ℕ) → k < 24 → values_at (hours (with_day x d)) (hours_of_day * length x.days + k) ≡ in_cell (slot_of d k)
  unfolding slots_of values_at hours
  day_own k l =
      let n : hours_of_day * length x.days ≡ length (slots_of (days_after x)) = omega (arith, length-slots (days_after x), days_length x) in
      ap (λ (ds : List Day). in_cell (get_or (slots_of ds) (hours_of_day * length x.days + k) stopped)) after-day
      ∙ ap (λ (i : ℕ). in_cell (get_or (slots_of (days_after x) ++ table (slot_of d) 24) (i + k) stopped)) n
      ∙ ap in_cell (get_or-append-add (slots_of (days_after x)) (table (slot_of d) 24) k stopped ∙ table_at (slot_of d) 24 k stopped l)

-- ---- a survey that stands: its own hour holds its values, and every other stays
module _ (x y : StackLine) (s : Survey) (is : days_after y ≡ put_survey s (days_after x)) (l : s.hour < hours_of_day * length x.days) where
  in_days : s.hour < hours_of_day * length (days_after x)
  in_days = omega (arith, days_length x)

  slots-now : slots_of (days_after y) ≡ set (slots_of (days_after x)) s.hour (valid s.pair)
  slots-now = ap slots_of is ∙ put_slots s (days_after x) in_days

  pub survey-own : values_at (hours y) s.hour ≡ values_of s.pair
  unfolding values_at in_cell hours
  survey-own =
      ap (λ (t : List (Slot Pair)). in_cell (get_or t s.hour stopped)) slots-now
      ∙ ap in_cell (get_or-set_same (slots_of (days_after x)) s.hour (valid s.pair) stopped (omega (arith, length-slots (days_after x), in_days)))

  pub survey-other : (h : ℕ) → (h ≡ s.hour → ⊥) → values_at (hours y) h ≡ values_at (hours x) h
  unfolding values_at hours
  survey-other h n =
      ap (λ (t : List (Slot Pair)). in_cell (get_or t h stopped)) slots-now ∙ ap in_cell (get_or-set_other (slots_of (days_after x)) s.hour h (valid s.pair) stopped n)

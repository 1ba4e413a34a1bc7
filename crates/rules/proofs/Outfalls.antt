-- The days of an outfall's line: what a day and a survey do to them and to their counts; and which surveys speak, of either world. Assumes nothing.
use mathlib.Core.Path.{◌≡◌, refl, ◌∙◌, ap, ap₂}
use mathlib.Core.Bool.{Bool, true, false}
use mathlib.Core.List.{List, [], ◌∷◌, ◌++◌, map, reverse}
use Prim.Native.Nat.{ℕ, zero, suc, ◌+◌, ◌-◌, ◌<◌, ◌≤◌}
use native.Mathlib.Omega.{arith}
use lib.ListN.{length, get_or, set, take, drop, length-append, length-set, length-map, get_or-map}
use lib.Dec.{eqb}
use Rattle.law.specs.Words.{pick, sum_of, seek}
use Rattle.rules.specs.declared.Pair.{Pair}
use Rattle.rules.specs.declared.Survey.{Survey}
use Rattle.rules.specs.declared.WaterDay.{WaterDay}
use Rattle.rules.specs.Slots.{Slot, valid, missing, stopped, runs, lacks, running_in, missing_in, first_missing_in, map_slot, entry}
use Rattle.rules.specs.Lines.{has_survey, besides, speaking}
use Rattle.rules.specs.Outfalls.{OutfallLine, day_of_outfall, days_in_turn, put_on_days, surveyed_days, outfall_days, OfOutfall}
use Rattle.rules.specs.Fill.{Values, zeroes, unfilled}
use Rattle.rules.specs.Grams.{values_of, slots, hourly}
use Rattle.rules.specs.Row.{held}
use Rattle.rules.proofs.Slots.{line_at}
use Rattle.rules.specs.Walk.{with_water_day}

-- ---- which surveys speak when one more comes
module _ (enforcement plant : List Survey) (s : Survey) where
  -- an enforcement survey, before the plant's
  pub speaks_first : plant ≡ [] → speaking (s ∷ enforcement) plant ≡ s ∷ speaking enforcement plant
  unfolding besides
  speaks_first e = rw e

  -- a plant survey, where enforcement has none and where it has one
  pub speaks_too : has_survey s.hour enforcement ≡ false → speaking enforcement (s ∷ plant) ≡ s ∷ speaking enforcement plant
  unfolding besides pick
  speaks_too t = rw t

  pub speaks_not : has_survey s.hour enforcement ≡ true → speaking enforcement (s ∷ plant) ≡ speaking enforcement plant
  unfolding besides pick
  speaks_not t = rw t

-- ---- sums over a list with one more at its end, with one changed, and of ones
module _ {A : Type 0} where
  pub sum-behind : (f : A → ℕ) (xs : List A) (a : A) → sum_of f (xs ++ (a ∷ [])) ≡ f a + sum_of f xs
  unfolding sum_of
  sum-behind f [] a = refl
  sum-behind f (x ∷ xs) a = omega (arith, sum-behind f xs a)

  pub sum-set : (f : A → ℕ) (xs : List A) (i : ℕ) (a d : A) → i < length xs → sum_of f (set xs i a) + f (get_or xs i d) ≡ f a + sum_of f xs
  unfolding sum_of
  sum-set f [] i a d l = absurd (omega arith)
  sum-set f (x ∷ xs) zero a d l = omega arith
  sum-set f (x ∷ xs) (suc i) a d l = omega (arith, sum-set f xs i a d (omega arith))

  pub sum_ones : (f : A → ℕ) → ((a : A) → f a ≤ 1) → (xs : List A) → sum_of f xs ≤ length xs
  unfolding sum_of
  sum_ones f e [] = omega arith
  sum_ones f e (x ∷ xs) = omega (arith, e x, sum_ones f e xs)

  pub sum-has : (f : A → ℕ) (xs : List A) (i : ℕ) (d : A) → i < length xs → f (get_or xs i d) ≤ sum_of f xs
  unfolding sum_of
  sum-has f [] i d l = absurd (omega arith)
  sum-has f (x ∷ xs) zero d l = omega arith
  sum-has f (x ∷ xs) (suc i) d l = omega (arith, sum-has f xs i d (omega arith))

  -- one more at the end leaves the others
  pub behind_other : (xs : List A) (a d : A) (k : ℕ) → (k ≡ length xs → ⊥) → get_or (xs ++ (a ∷ [])) k d ≡ get_or xs k d
  behind_other [] a d zero n = absurd (n refl)
  behind_other [] a d (suc k) n = refl
  behind_other (x ∷ xs) a d zero n = refl
  behind_other (x ∷ xs) a d (suc k) n = behind_other xs a d k (λ e. n (ap suc e))

-- ---- two tests that agree find the same
seek_same : (hit hit' : ℕ → Bool) (answer : ℕ → ℕ) (none i n : ℕ) → ((k : ℕ) → k < i + n → hit k ≡ hit' k) → seek hit answer none i n ≡ seek hit' answer none i n
unfolding seek
seek_same hit hit' answer none i zero e = refl
seek_same hit hit' answer none i (suc n) e =
    ap₂ (λ (b : Bool) (r : ℕ). pick b (answer i) r) (e i (omega arith)) (seek_same hit hit' answer none (suc i) n (λ k l. e k (omega arith)))

-- ---- how many run, how many lack data
module _ {A : Type 0} where
  runs_one : (s : Slot A) → runs s ≤ 1
  unfolding runs
  runs_one (valid a) = omega arith
  runs_one missing = omega arith
  runs_one stopped = omega arith

  lacks_one : (s : Slot A) → lacks s ≤ 1
  unfolding lacks
  lacks_one (valid a) = omega arith
  lacks_one missing = omega arith
  lacks_one stopped = omega arith

  pub running-few : (s : List (Slot A)) → running_in s ≤ length s
  unfolding running_in
  running-few s = sum_ones runs runs_one s

  pub missing_few : (s : List (Slot A)) → missing_in s ≤ length s
  unfolding missing_in
  missing_few s = sum_ones lacks lacks_one s

  pub lacks_few : (s : List (Slot A)) (i : ℕ) → i < length s → lacks (get_or s i stopped) ≤ missing_in s
  unfolding missing_in
  lacks_few s i l = sum-has lacks s i stopped l

  -- one that is measured now
  pub missing_set : (s : List (Slot A)) (i : ℕ) (a : A) → i < length s → missing_in (set s i (valid a)) ≡ missing_in s - lacks (get_or s i stopped)
  unfolding missing_in lacks
  missing_set s i a l = omega (arith, sum-set lacks s i (valid a) stopped l)

  -- the first that lacks data, by any count that says which do
  pub first-missing : (s : List (Slot A)) (f : ℕ → ℕ) → ((k : ℕ) → k < length s → f k ≡ lacks (get_or s k stopped)) → seek (λ i. eqb (f i) 1) (λ i. i + 1) 0 0 (length s) ≡ first_missing_in s
  unfolding first_missing_in
  first-missing s f e =
      seek_same (λ i. eqb (f i) 1) (λ i. eqb (lacks (get_or s i stopped)) 1) (λ i. i + 1) 0 0 (length s) (λ k l. ap (λ (m : ℕ). eqb m 1) (e k (omega arith)))

-- ---- the days of a line
turn_long : (ds : List WaterDay) → length (days_in_turn ds) ≡ length ds
unfolding days_in_turn
turn_long [] = refl
turn_long (d ∷ ds) = simp length-append (omega (arith, turn_long ds))

puts_long : (ss : List Survey) (days : List (Slot Pair)) → length (put_on_days ss days) ≡ length days
unfolding put_on_days
puts_long [] days = refl
puts_long (s ∷ ss) days = length-set (put_on_days ss days) s.hour (valid s.pair) ∙ puts_long ss days

pub days_long : (x : OutfallLine) → length (outfall_days x) ≡ length x.days
unfolding outfall_days
days_long x = puts_long (surveyed_days x) (days_in_turn x.days) ∙ turn_long x.days

pub running-most : (x : OutfallLine) → running_in (days_in_turn x.days) ≤ length x.days
running-most x = omega (arith, running-few (days_in_turn x.days), turn_long x.days)

pub missing_most : (x : OutfallLine) → missing_in (outfall_days x) ≤ length x.days
missing_most x = omega (arith, missing_few (outfall_days x), days_long x)

-- before the first survey a day more is one more at the end
module _ (x : OutfallLine) (d : WaterDay) (e : x.enforcement ≡ []) (q : x.plant ≡ []) where
  pub days_behind : outfall_days (with_water_day x d) ≡ outfall_days x ++ (day_of_outfall d ∷ [])
  unfolding outfall_days surveyed_days besides put_on_days days_in_turn with_water_day
  days_behind = rw (e, q)

-- "no day is filled": a missing day holds nothing
pub not_filled : (x : OutfallLine) (d : ℕ) → d < length (outfall_days x) → get_or (outfall_days x) d stopped ≡ missing → get_or (held (OfOutfall x)) d zeroes ≡ zeroes
unfolding held hourly slots map_slot entry unfilled
not_filled x d l e =
    let s = map (map_slot values_of) (outfall_days x) in
    let n : d < length s = omega (arith, l, length-map (outfall_days x) (map_slot values_of)) in
    line_at (λ v. v) unfilled zeroes s d zeroes n
    ∙ ap (λ (o : Slot Values). entry (λ v. v) unfilled zeroes (reverse (take d s)) o (drop (d + 1) s)) (get_or-map (map_slot values_of) (outfall_days x) d stopped ∙ ap (map_slot values_of) e)

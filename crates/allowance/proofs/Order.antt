-- A reading at least as large never lowers a value, a fill, the sum or the grams, for every divisor of a gram and every fill rule that rises. Assumes nothing.
use mathlib.Core.Path.{◌≡◌, refl, subst, subst₂}
use Prim.Native.Nat.{ℕ, ◌+◌, ◌*◌, ◌<◌, ◌≤◌}
use native.Mathlib.Nat.{le_refl, mul-le-mul, mul-pos}
use native.Mathlib.Omega.{arith}
use mathlib.Core.List.{List, [], Forall₂}
use lib.ListN.{length}
use Rattle.law.specs.Words.{sum_of, halves_up}
use Rattle.law.proofs.Halves.{halves_mono}
use Rattle.reading.specs.Reading.{reading, exact}
use Rattle.reading.proofs.Laws.{in_order}
use Rattle.rules.specs.declared.Pair.{Pair}
use Rattle.rules.specs.Slots.{Slot, entries}
use Rattle.rules.specs.Lines.{StackLine, hours}
use Rattle.rules.specs.Outfalls.{OutfallLine, outfall_days}
use Rattle.rules.specs.Measured.{Measured, of_stack, of_outfall}
use Rattle.rules.specs.Fill.{Values, zeroes, mean_up, same, filled, unfilled}
use Rattle.rules.specs.Grams.{values_of, slots, hourly, amount, automatic, survey_values, manual}
use Rattle.rules.proofs.Alike.{Alike, entries_alike, slots-alike, length-alike}
use Rattle.allowance.proofs.Sums.{sum_mono}
use Rattle.allowance.proofs.Account.{Rule}
use Rattle.allowance.proofs.Fills.{both-alike}

-- ---- a value
-- both exact readings of an hour at most those of another, and so its values
abbrev pub AtMost : Pair → Pair → Type 0
AtMost p q =
    (exact (reading p.concentration) ≤ exact (reading q.concentration)) × (exact (reading p.flow) ≤ exact (reading q.flow))

abbrev pub Below : Values → Values → Type 0
Below v w = (v.c ≤ w.c) × (v.l ≤ w.l)

pub values_mono : (p q : Pair) → AtMost p q → Below (values_of p) (values_of q)
unfolding values_of
values_mono p q h = (
  in_order _ (reading p.concentration) (reading q.concentration) h.0,
  in_order _ (reading p.flow) (reading q.flow) h.1,
)

pub amount-mono : (v w : Values) → Below v w → amount v ≤ amount w
unfolding amount
amount-mono v w h = mul-le-mul h.0 h.1

-- ---- a fill: each of its two values, or at least its amount, as where one hour lends both
abbrev pub RisesEach : Rule Values → Type 0
RisesEach rule = (g : ℕ) (b a y x : List Values) → Forall₂ Below b y → Forall₂ Below a x → Below (rule g b a) (rule g y x)

abbrev pub Rises : Rule Values → Type 0
Rises rule = (g : ℕ) (b a y x : List Values) → Forall₂ Below b y → Forall₂ Below a x → amount (rule g b a) ≤ amount (rule g y x)

mean_mono : (b y a x : ℕ) → b ≤ y → a ≤ x → mean_up b a ≤ mean_up y x
unfolding mean_up
mean_mono b y a x h g = halves_mono (b + a) (y + x) 2 (omega arith) (omega arith)

pub filled-rises_each : RisesEach filled
unfolding filled same
filled-rises_each g b a y x h k =
    both-alike ◌≤◌ ◌≤◌ mean_up mean_up same same (le_refl 0) (λ a x b y h g. omega arith) (le_refl 0) (λ a x h. h) mean_mono g h k

pub filled-rises : Rises filled
filled-rises g b a y x h k = amount-mono (filled g b a) (filled g y x) (filled-rises_each g b a y x h k)

pub unfilled-rises : Rises unfilled
unfolding unfilled
unfilled-rises g b a y x h k = le_refl _

-- ---- every hour of a line
pub entries_mono : (rule : Rule Values) → RisesEach rule → {s t : List (Slot Values)} → Forall₂ (Alike Below) s t
    → Forall₂ Below (entries (λ v. v) rule zeroes [] s) (entries (λ v. v) rule zeroes [] t)
entries_mono rule rises h = entries_alike Below (λ v. v) rule zeroes (λ v. v) rule zeroes (λ v w r. r) rises (le_refl _, le_refl _) Forall₂.nil h

-- ---- the sum and the grams, by any rule that rises
module _ (rule : Rule Values) (rises : Rises rule) where
  pub total_mono : {s t : List (Slot Values)} → Forall₂ (Alike Below) s t → sum_of amount (entries (λ v. v) rule zeroes [] s) ≤ sum_of amount (entries (λ v. v) rule zeroes [] t)
  total_mono h =
      sum_mono amount amount (λ v w r. r)
      (entries_alike (λ v w. amount v ≤ amount w) (λ v. v) rule zeroes (λ v. v) rule zeroes amount-mono rises (le_refl _) Forall₂.nil h)

  pub grams-mono : (U : ℕ) → 0 < U → {s t : List (Slot Values)} → Forall₂ (Alike Below) s t
      → halves_up (sum_of amount (entries (λ v. v) rule zeroes [] s)) U ≤ halves_up (sum_of amount (entries (λ v. v) rule zeroes [] t)) U
  grams-mono U u {s} {t} h =
      halves_mono (sum_of amount (entries (λ v. v) rule zeroes [] s)) (sum_of amount (entries (λ v. v) rule zeroes [] t)) U u (total_mono h)

-- ---- a line of either kind: its hours or days after step 1, or its surveys, have readings at most those of another's, in the same units of a gram
pub automatic-mono : (rule : Rule Values) → Rises rule → (m n : Measured) → 0 < m.units → m.units ≡ n.units → Forall₂ (Alike AtMost) m.after n.after
    → automatic rule m ≤ automatic rule n
unfolding automatic hourly slots
automatic-mono rule rises m n u e h =
    subst (λ (U : ℕ). automatic rule m ≤ halves_up (sum_of amount (hourly rule n)) U) e
    (grams-mono rule rises m.units u (slots-alike Below values_of values_of values_mono h))

pub manual-mono : (m n : Measured) → 0 < m.units → m.units ≡ n.units → 0 < length m.surveys → m.ran ≤ n.ran
    → Forall₂ (λ s t. AtMost s.pair t.pair) m.surveys n.surveys → manual m ≤ manual n
unfolding manual survey_values
manual-mono m n u e some r h =
    let a = sum_of (λ s. amount (survey_values s)) m.surveys * m.ran in
    let b = sum_of (λ s. amount (survey_values s)) n.surveys * n.ran in
    subst₂ (λ (i U : ℕ). halves_up a (length m.surveys * m.units) ≤ halves_up b (i * U)) (length-alike h) e
    (halves_mono a b (length m.surveys * m.units) (mul-pos some u)
    (mul-le-mul
    (sum_mono (λ s. amount (survey_values s)) (λ s. amount (survey_values s)) (λ s t z. amount-mono (survey_values s) (survey_values t) (values_mono s.pair t.pair z)) h)
    r))

-- ---- in air and in water: the units of two lines are the same
pub stack_mono : (x y : StackLine) → Forall₂ (Alike AtMost) (hours x) (hours y) → automatic filled (of_stack x) ≤ automatic filled (of_stack y)
stack_mono x y h = automatic-mono filled filled-rises (of_stack x) (of_stack y) (omega arith) refl h

pub outfall_mono : (x y : OutfallLine) → Forall₂ (Alike AtMost) (outfall_days x) (outfall_days y)
    → automatic unfilled (of_outfall x) ≤ automatic unfilled (of_outfall y)
outfall_mono x y h = automatic-mono unfilled unfilled-rises (of_outfall x) (of_outfall y) (omega arith) refl h

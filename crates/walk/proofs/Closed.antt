-- What the calls at the end of a line leave, put together. Assumes nothing.
use mathlib.Core.Path.{◌≡◌, refl, ◌∙◌, sym, ap, ap₂, subst, subst₂}
use mathlib.Core.List.{List}
use Prim.Native.Nat.{ℕ, ◌+◌, ◌*◌, ◌^◌, ◌≤◌, ◌<◌}
use native.Mathlib.Nat.{mul-le-mul, mul-le-mul_right, mul_assoc, mul_comm}
use native.Mathlib.Omega.{arith}
use lib.ListN.{length, take, get_or, length-take}
use lib.Seq.{get_or-take}
use lib.Dec.{eqb}
use Rattle.law.specs.Numbers.{hours_of_day, most_days, most_hours, most_surveys, most_concentration, most_flow, most_amount, per_gram, per_gram_of_water, most_grams}
use Rattle.law.specs.Words.{pick, halves_up, largest}
use Rattle.law.proofs.Tests.{pick_true, pick_false, pick_case}
use Rattle.law.proofs.Halves.{halves_within}
use mathlib.Core.Bool.{Bool, true, false}
use borrow.Author.Tests.{eqb-true, eqb-false}
use Rattle.rules.specs.declared.View.{View}
use Rattle.walk.specs.declared.books.Sums.{Sums}
use Rattle.walk.specs.Taking.{LineStated, EndReady, EndTaken, WaterEndReady}
use Rattle.hours.specs.States.{state_at, period_states}
use Rattle.rules.specs.Hours.{first_missing}
use Rattle.fills.proofs.Period.{period_now, period_filled, period_plain}
use Rattle.walk.specs.declared.books.Taken.{Taken}
use Rattle.walk.specs.declared.books.Done.{Done}
use Rattle.walk.specs.Views.{ran_by, lacks_by}
use Rattle.rules.specs.Judge.{line_method, daily_method}
use Rattle.law.proofs.Tabled.{table_length}
use Rattle.fills.specs.Gaps.{filled_cells}
use Rattle.fills.specs.Weights.{products}
use Rattle.fills.proofs.Bounds.{largest-each, filled-most, products-most}
use Rattle.walk.specs.Closing.{Limits, period_weight, daily_grams, line_grams, LineGrams}

-- a day of an outfall adds at most one
pub ran_one : (state : ℕ) → ran_by state ≤ 1
ran_one state = pick_case (λ (n : ℕ). n ≤ 1) (eqb state 0) 0 1 (λ _. omega arith) (λ _. omega arith)

pub lacks_one : (state : ℕ) → lacks_by state ≤ 1
lacks_one state = pick_case (λ (n : ℕ). n ≤ 1) (eqb state 1) 1 0 (λ _. omega arith) (λ _. omega arith)

-- half of what n grams are in units fits, and twice that is what they are
pub halves_fit : (g n : ℕ) → g ≤ per_gram → n < 2 ^ 32 → g * n ≤ per_gram * 2 ^ 32
halves_fit g n l m = mul-le-mul {n₂ = per_gram} {m₂ = 2 ^ 32} l (omega (arith, m))

pub units_are : (g n : ℕ) → 2 * (g * n) ≡ n * (2 * g)
units_are g n = sym (mul_assoc 2 g n) ∙ mul_comm (2 * g) n

module _ (runs measured : List ℕ) (days : ℕ) (few : days ≤ most_days) where
  states_length : length (period_states runs measured days) ≡ hours_of_day * days
  states_length = table_length (state_at runs measured) (hours_of_day * days)

  filled-largest : (M : ℕ) (cells : List ℕ) → length cells ≡ most_hours → ((h : ℕ) → get_or cells h 0 ≤ M) → largest (take (hours_of_day * days) (filled_cells (period_states runs measured days) cells)) ≤ M
  filled-largest M cells e m =
      let states = period_states runs measured days in
      largest-each M (take (hours_of_day * days) (filled_cells states cells))
      (λ k l.
      let i : k < hours_of_day * days = omega (arith, simp length-take at l) in
      subst (λ (v : ℕ). v ≤ M) (sym (get_or-take (hours_of_day * days) (filled_cells states cells) k 0 i)) (filled-most M states cells (λ j t. m j) k (omega (arith, states_length))))

  pub period_products : (conc flow : List ℕ) → length conc ≡ most_hours → length flow ≡ most_hours → Limits conc flow
      → products (take (hours_of_day * days) (filled_cells (period_states runs measured days) conc)) (take (hours_of_day * days) (filled_cells (period_states runs measured days) flow)) ≤ most_hours * most_amount
  period_products conc flow c f l =
      let xs = take (hours_of_day * days) (filled_cells (period_states runs measured days) conc) in
      let ys = take (hours_of_day * days) (filled_cells (period_states runs measured days) flow) in
      let n : length xs ≤ most_hours = simp length-take (omega arith) in
      omega (arith, products-most most_concentration most_flow xs ys (filled-largest most_concentration conc c l.concentrations) (filled-largest most_flow flow f l.flows))

  pub period_most : (conc flow conc' flow' : List ℕ) → length conc ≡ most_hours → length flow ≡ most_hours → Limits conc flow
      → conc' ≡ filled_cells (period_states runs measured days) conc → flow' ≡ filled_cells (period_states runs measured days) flow → period_weight (hours_of_day * days) conc' flow' ≤ most_hours * most_amount
  period_most conc flow conc' flow' c f l p q =
      subst (λ (n : ℕ). n ≤ most_hours * most_amount) (sym (ap₂ (period_weight (hours_of_day * days)) p q)) (period_products conc flow c f l)

-- ---- no line's grams are too large
taken-largest : (M : ℕ) (cells : List ℕ) (n : ℕ) → ((h : ℕ) → get_or cells h 0 ≤ M) → largest (take n cells) ≤ M
taken-largest M cells n m =
    largest-each M (take n cells) (λ k l. let i : k < n = omega (arith, simp length-take at l) in subst (λ (v : ℕ). v ≤ M) (sym (get_or-take n cells k 0 i)) (m k))

halves_most : (units n d m : ℕ) → 0 < d → units ≤ d → n ≤ m → 2 * (units * halves_up n d) ≤ 2 * m + d
halves_most units n d m z l h =
    let w = halves_within n d z in
    let k : units * halves_up n d ≤ d * halves_up n d = mul-le-mul_right (halves_up n d) l in
    omega (arith, w.1)

-- of a line of an outfall
module _ (v : View) (s : Sums) (conc flow totals : List ℕ) (e : WaterEndReady v s conc flow totals) where
  pub days_products : period_weight v.head.days conc flow ≤ most_days * most_amount
  days_products =
      let xs = take v.head.days conc in
      let ys = take v.head.days flow in
      let n : length xs ≤ most_days = simp length-take (omega (arith, e.days)) in
      omega (arith, products-most most_concentration most_flow xs ys (taken-largest most_concentration conc v.head.days e.limits.concentrations) (taken-largest most_flow flow v.head.days e.limits.flows))

  daily_by : (b : Bool) → eqb (daily_method v) 1 ≡ b → daily_grams (daily_method v) v s conc flow ≤ most_grams
  unfolding pick
  daily_by true t = rw t (omega (arith, halves_most per_gram_of_water (period_weight v.head.days conc flow) (1 * per_gram_of_water) (most_days * most_amount) (omega arith) (omega arith) days_products))
  daily_by false t =
      let one = e.some (eqb-false _ 1 t) in
      let h = halves_most per_gram_of_water (s.weight * v.running) (s.surveyed * per_gram_of_water) (most_surveys * most_amount * most_days) (omega arith) (omega arith) (mul-le-mul {n₂ = most_surveys * most_amount} {m₂ = most_days} e.weight e.running) in
      rw t (omega (arith, h, e.surveyed))

  pub daily_small : daily_grams (daily_method v) v s conc flow ≤ most_grams
  daily_small = daily_by (eqb (daily_method v) 1) refl

module _ (v : View) (s : Sums) (runs measured states conc flow conc' flow' : List ℕ) (totals : List ℕ) (g : ℕ) (e : EndReady v s runs measured states conc flow totals) where
  abbrev figures : ℕ → Type 0
  figures m = LineGrams m v s (period_states runs measured v.head.days) conc flow conc' flow' g

  small_by : (m : ℕ) → m ≡ line_method v → figures m → (a b : Bool) → eqb m 1 ≡ a → eqb m 2 ≡ b → g ≤ most_grams
  small_by m q r true b t u =
      let k = r.automatic (eqb-true m 1 t) in
      let most = period_most runs measured v.head.days e.days conc flow conc' flow' e.conc_long e.flow_long e.limits k.concentrations k.flows in
      omega (arith, k.grams, halves_most per_gram (period_weight (hours_of_day * v.head.days) conc' flow') per_gram (most_hours * most_amount) (omega arith) (omega arith) most)
  small_by m q r false true t u =
      let z = eqb-true m 2 u in
      let k = r.manual z in
      let one = e.some (sym q ∙ z) in
      let h = halves_most per_gram (s.weight * v.running) (s.surveyed * per_gram) (most_surveys * most_amount * most_hours) (omega arith) (omega arith) (mul-le-mul {n₂ = most_surveys * most_amount} {m₂ = most_hours} e.weight e.running) in
      omega (arith, k.2, h, e.surveyed)
  small_by m q r false false t u =
      let k = r.fuel (eqb-false m 1 t) (eqb-false m 2 u) in
      omega (arith, k.2, e.fuel)

  pub line_small : (m : ℕ) → m ≡ line_method v → figures m → g ≤ most_grams
  line_small m q r = small_by m q r (eqb m 1) (eqb m 2) refl refl

  -- ---- filled under method 1, and else as they were
  module _ (m first : ℕ) (is : first ≡ first_missing runs measured v.head.days) (cells : List ℕ) where
    abbrev now : List ℕ
    now = period_now runs measured states v.head.days first is e.said m conc flow cells

    filled-now : m ≡ 1 → length cells ≡ most_hours → now ≡ filled_cells (period_states runs measured v.head.days) cells
    filled-now z l = period_filled runs measured states v.head.days first is e.said m conc flow cells z e.days e.conc_long e.flow_long l

    plain-now : (m ≡ 1 → ⊥) → now ≡ cells
    plain-now z = period_plain runs measured states v.head.days first is e.said m conc flow cells z

  module _ (m first : ℕ) (is : first ≡ first_missing runs measured v.head.days) (ec : conc' ≡ now m first is conc) (el : flow' ≡ now m first is flow)
    where
      pub weight_most : m ≡ 1 → period_weight (hours_of_day * v.head.days) conc' flow' ≤ most_hours * most_amount
      weight_most z = period_most runs measured v.head.days e.days conc flow conc' flow' e.conc_long e.flow_long e.limits (ec ∙ filled-now m first is conc z e.conc_long) (el ∙ filled-now m first is flow z e.flow_long)

      line_by_here : (a b : Bool) → eqb m 1 ≡ a → eqb m 2 ≡ b → m ≡ line_method v → g ≡ line_grams m v s conc' flow' → figures m
      line_by_here true b t u q r =
          let z = eqb-true m 1 t in
          record {
            automatic = λ _. record { concentrations = ec ∙ filled-now m first is conc z e.conc_long; flows = el ∙ filled-now m first is flow z e.flow_long; grams = r ∙ sym (pick_true _ _ _ _ t refl) };
            manual = λ i. absurd (omega arith);
            fuel = λ n _. absurd (n z);
          }
      line_by_here false true t u q r =
          let n = eqb-false m 1 t in
          let z = eqb-true m 2 u in
          record {
            automatic = λ i. absurd (n i);
            manual = λ _. (ec ∙ plain-now m first is conc n, el ∙ plain-now m first is flow n, r ∙ sym (pick_false _ _ _ _ t refl) ∙ sym (pick_true _ _ _ _ u refl));
            fuel = λ _ i. absurd (i z);
          }
      line_by_here false false t u q r =
          let n = eqb-false m 1 t in
          record {
            automatic = λ i. absurd (n i);
            manual = λ i. absurd (eqb-false m 2 u i);
            fuel = λ _ _. (ec ∙ plain-now m first is conc n, el ∙ plain-now m first is flow n, r ∙ sym (pick_false _ _ _ _ t refl) ∙ sym (pick_false _ _ _ _ u refl));
          }

      pub line_is : m ≡ line_method v → g ≡ line_grams m v s conc' flow' → figures m
      line_is q r = line_by_here (eqb m 1) (eqb m 2) refl refl q r

  -- ---- the end of a line, put together
  pub end_taken : (d d' : Done) (r : Taken) (m first : ℕ) → m ≡ line_method v → figures m → LineStated v s (line_method v) g first d d' r
      → EndTaken v s (period_states runs measured v.head.days) first conc flow d conc' flow' d' r
  end_taken d d' r m first q l t = record { grams = g; small = line_small m q l; figures = subst figures q l; stated = t }

-- ---- a line is stated by the method and the first missing hour or day that were found
pub stated-by : (v : View) (s : Sums) (g : ℕ) {d d' : Done} {r : Taken} {m m' first first' : ℕ} → m ≡ m' → first ≡ first' → LineStated v s m g first d d' r
    → LineStated v s m' g first' d d' r
stated-by v s g {d} {d'} {r} p q t = subst₂ (λ (i j : ℕ). LineStated v s i g j d d' r) p q t

pub figure-by : (v : View) (s : Sums) (conc flow : List ℕ) (m g : ℕ) → m ≡ daily_method v → g ≡ daily_grams m v s conc flow → g ≡ daily_grams (daily_method v) v s conc flow
figure-by v s conc flow m g q e = e ∙ ap (λ (i : ℕ). daily_grams i v s conc flow) q

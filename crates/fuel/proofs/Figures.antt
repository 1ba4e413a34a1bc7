-- The figures: no product is too long, and what the code keeps of the batches gives the grams of the rules. Assumes nothing.
use mathlib.Core.Path.{◌≡◌, refl, sym, ap, subst}
use mathlib.Core.List.{List, [], ◌∷◌}
use Prim.Native.Nat.{ℕ, ◌+◌, ◌-◌, ◌*◌, ◌≤◌}
use native.Mathlib.Nat.{mul-le-mul}
use native.Mathlib.Omega.{arith}
use Rattle.law.specs.Numbers.{most_sulphur, most_ash, most_fuel}
use Rattle.law.specs.Words.{need_all, halves_up}
use Rattle.law.proofs.Tests.{need_le}
use Rattle.law.proofs.Halves.{halves_fit}
use Rattle.rules.specs.declared.Head.{Head}
use Rattle.std.specs.Prelude.{Option, Some, None}
use Rattle.rules.specs.declared.Batch.{Batch}
use Rattle.rules.specs.declared.Coefficients.{Coefficients}
use Rattle.rules.specs.declared.Coefficients.TheVariants.{Balance, Oxides, Dust}
use Rattle.rules.proofs.Grams.{bottom_some}
use Rattle.rules.specs.Tables.{coefficients_of}
use Rattle.rules.specs.OnPaper.{OnPaper, says_no, says}
use Rattle.rules.specs.Lines.{fuel}
use Rattle.rules.specs.Grams.{sulphur_of, fuel_top, fuel_bottom, fuel_grams}
use Rattle.fuel.specs.Fuel.{ash_of, top_of, found_of, figure_of, Ranged, fuel_figure, InRange}
use Rattle.tables.specs.Rows.{Small}
use Rattle.tables.proofs.Bounds.{coefficients_small}
use Rattle.fuel.proofs.Batches.{top_is}

-- every entry that the tables have
pub entry_small : (h : Head) (entry : Option Coefficients) → coefficients_of h ≡ entry → Small entry
entry_small h entry e = subst Small e (coefficients_small h)

-- ---- products
pub a_fits : (a ash : ℕ) → a ≤ 936 → ash ≤ most_fuel * most_ash → a * ash ≤ 93_600_000_000_000_000
a_fits a ash l s = mul-le-mul {n₁ = a} {m₁ = ash} {n₂ = 936} {m₂ = 100_000_000_000_000} l s

module _ (kg : ℕ) (few : kg ≤ most_fuel) where
  pub burnt_fits : (q : ℕ) → 2 * kg * (1_000 - q) ≤ 20_000_000_000_000
  burnt_fits q = mul-le-mul {n₁ = 2 * kg} {m₁ = 1_000 - q} {n₂ = 20_000_000_000} {m₂ = 1_000} (omega arith) (omega arith)

  pub sulphured_fits : (q sulphur : ℕ) → sulphur ≤ most_sulphur → 2 * kg * (1_000 - q) * sulphur ≤ 40_000_000_000_000_000
  sulphured_fits q sulphur s = mul-le-mul {n₁ = 2 * kg * (1_000 - q)} {m₁ = sulphur} {n₂ = 20_000_000_000_000} {m₂ = most_sulphur} (burnt_fits q) s

  pub balance_fits : (q sulphur k : ℕ) → sulphur ≤ most_sulphur → k ≤ 90 → 2 * kg * (1_000 - q) * sulphur * k ≤ 3_600_000_000_000_000_000
  balance_fits q sulphur k s l = mul-le-mul {n₁ = 2 * kg * (1_000 - q) * sulphur} {m₁ = k} {n₂ = 40_000_000_000_000_000} {m₂ = 90} (sulphured_fits q sulphur s) l

  pub oxides_fits : (coefficient : ℕ) → coefficient ≤ 801 → kg * coefficient ≤ 8_010_000_000_000
  oxides_fits coefficient l = mul-le-mul {n₁ = kg} {m₁ = coefficient} {n₂ = most_fuel} {m₂ = 801} few l

  pub b_fits : (b : ℕ) → b ≤ 1_113 → 100 * b * kg ≤ 1_113_000_000_000_000
  b_fits b l = mul-le-mul {n₁ = 100 * b} {m₁ = kg} {n₂ = 111_300} {m₂ = most_fuel} (omega arith) few

  pub dust_fits : (a b ash : ℕ) → a ≤ 936 → b ≤ 1_113 → ash ≤ most_fuel * most_ash → a * ash + 100 * b * kg ≤ 94_713_000_000_000_000
  dust_fits a b ash l m n = omega (arith, a_fits a ash l n, b_fits b m)

-- ---- the figure of an entry that the tables have
pub by_entry : (h : Head) (kg sulphur ash : ℕ) (entry : Option Coefficients) (r : OnPaper) → coefficients_of h ≡ entry → r ≡ figure_of entry kg sulphur ash → r ≡ figure_of (coefficients_of h) kg sulphur ash
by_entry h kg sulphur ash entry r e f = rw e f

-- ---- within the document's range the figure is that of the entry
pub in_range : (h : Head) (kg sulphur ash : ℕ) (entry : Option Coefficients) (r : OnPaper) → Ranged kg sulphur ash → coefficients_of h ≡ entry → r ≡ figure_of entry kg sulphur ash → r ≡ fuel_figure h kg sulphur ash
unfolding fuel_figure need_all
in_range h kg sulphur ash entry r l e f = need_le _ _ _ _ _ l.0 (need_le _ _ _ _ _ l.1 (need_le _ _ _ _ _ l.2 (by_entry h kg sulphur ash entry r e f)))

-- ---- the figure of a line's batches is the grams of the rules
found_is : (entry : Option Coefficients) (batches : List Batch) → found_of entry (fuel batches) (sulphur_of batches) (ash_of batches) ≡ says (fuel_grams entry batches ∷ [])
unfolding fuel_grams
found_is entry batches = ap (λ (t : ℕ). says (halves_up t (fuel_bottom entry) ∷ [])) (top_is entry batches)

pub figure-is : (entry : Option Coefficients) (batches : List Batch) → (entry ≡ None → ⊥) → figure_of entry (fuel batches) (sulphur_of batches) (ash_of batches) ≡ says (fuel_grams entry batches ∷ [])
unfolding figure_of
figure-is (Some (Balance q k)) batches n = found_is (Some (Balance q k)) batches
figure-is (Some (Oxides x)) batches n = found_is (Some (Oxides x)) batches
figure-is (Some (Dust a b)) batches n = found_is (Some (Dust a b)) batches
figure-is None batches n = absurd (n refl)

-- ---- the call on a line's batches
ranged : {batches : List Batch} → InRange batches → Ranged (fuel batches) (sulphur_of batches) (ash_of batches)
ranged i = (i.kg, i.sulphur, omega (arith, i.kg, i.ash))

module _ (h : Head) (batches : List Batch) (i : InRange batches) where
  pub line_figure : (coefficients_of h ≡ None → ⊥) → fuel_figure h (fuel batches) (sulphur_of batches) (ash_of batches) ≡ says (fuel_grams (coefficients_of h) batches ∷ [])
  line_figure n = sym (in_range h _ _ _ (coefficients_of h) _ (ranged i) refl (sym (figure-is (coefficients_of h) batches n)))

  pub line_wanting : coefficients_of h ≡ None → fuel_figure h (fuel batches) (sulphur_of batches) (ash_of batches) ≡ says_no 7
  unfolding figure_of
  line_wanting e = sym (in_range h _ _ _ None _ (ranged i) e refl)

-- ---- no more grams than the fuel weighs
top_fits : (entry : Option Coefficients) (kg sulphur ash : ℕ) → Small entry → Ranged kg sulphur ash → top_of entry kg sulphur ash ≤ fuel_bottom entry * 10_000_000_000_000
unfolding top_of fuel_bottom
top_fits (Some (Balance q k)) kg sulphur ash s l = omega (arith, balance_fits kg l.0 q sulphur k l.1 s.1)
top_fits (Some (Oxides x)) kg sulphur ash s l = omega (arith, oxides_fits kg l.0 x s)
top_fits (Some (Dust a b)) kg sulphur ash s l = omega (arith, dust_fits kg l.0 a b ash s.0 s.1 l.2)
top_fits None kg sulphur ash s l = omega arith

pub grams-fit : (h : Head) (batches : List Batch) → InRange batches → fuel_grams (coefficients_of h) batches ≤ 10_000_000_000_000
unfolding fuel_grams
grams-fit h batches i =
    let entry = coefficients_of h in
    halves_fit (fuel_top entry batches) (fuel_bottom entry) 10_000_000_000_000 (bottom_some entry)
    (subst (λ (t : ℕ). t ≤ fuel_bottom entry * 10_000_000_000_000) (top_is entry batches)
    (top_fits entry (fuel batches) (sulphur_of batches) (ash_of batches) (entry_small h entry refl) (ranged i)))

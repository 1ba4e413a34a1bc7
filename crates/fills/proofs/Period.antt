-- The period of a line: the code's test, and what it leaves where the states are those that the masks say. Assumes nothing.
use mathlib.Core.Path.{◌≡◌, refl, ◌∙◌, sym, ap, ap₂}
use mathlib.Core.Bool.{Bool, true, false, not, ◌&&◌}
use mathlib.Core.List.{List}
use Prim.Native.Nat.{ℕ, ◌*◌, ◌≤◌, min}
use native.Mathlib.Omega.{arith}
use lib.ListN.{length, take}
use lib.Dec.{eqb, leb}
use borrow.Author.Tests.{leb-true, eqb-true, eq-eqb, le-leb, ne_eqb}
use Rattle.law.specs.Numbers.{hours_of_day, most_days, most_hours}
use Rattle.law.specs.Words.{pick}
use Rattle.law.proofs.Tabled.{table_length}
use Rattle.law.proofs.Tests.{both_true}
use Rattle.rules.specs.Hours.{first_missing}
use Rattle.hours.specs.States.{state_at, period_states}
use Rattle.hours.proofs.Whole.{no_missing_table}
use Rattle.fills.specs.Gaps.{filled_cells}
use Rattle.fills.specs.Period.{is_filled, period_cells}
use Rattle.fills.proofs.Whole.{no_gap}

-- the code's test
pub guard_is : (method first days d both room : ℕ) (conc flow : List ℕ) → d ≡ days → both ≡ min (length conc) (length flow) → room ≡ min most_hours both
    → ((eqb method 1 && leb (hours_of_day * d) room) && not (eqb first 0)) ≡ is_filled method first days conc flow
unfolding is_filled
guard_is method first days d both room conc flow g e f =
    ap₂ (λ (k n : ℕ). (eqb method 1 && leb (hours_of_day * k) n) && not (eqb first 0)) g (f ∙ ap (min most_hours) e)

-- what a period that is filled asks
pub filled-fits : (method first days : ℕ) (conc flow : List ℕ) → is_filled method first days conc flow ≡ true → (hours_of_day * days ≤ most_hours) × (hours_of_day * days ≤ length conc) × (hours_of_day * days ≤ length flow)
unfolding is_filled
filled-fits method first days conc flow e =
    let l : hours_of_day * days ≤ min most_hours (min (length conc) (length flow)) = leb-true _ _ (both_true (eqb method 1) _ (both_true _ (not (eqb first 0)) e).0).1 in
    (omega arith, omega arith, omega arith)

and_false : (b : Bool) → (b && false) ≡ false
and_false true = refl
and_false false = refl

-- ---- where the states are those that the masks say, a period is filled under method 1, and else as it was
module _ (runs measured states : List ℕ) (days first : ℕ) (is : first ≡ first_missing runs measured days) (said : take (hours_of_day * days) states ≡ period_states runs measured days) where
  -- a line that lacks no hour is as if filled
  whole-line : (cells : List ℕ) → hours_of_day * days ≤ length cells → first ≡ 0 → cells ≡ filled_cells (period_states runs measured days) cells
  whole-line cells l w =
      sym (no_gap (period_states runs measured days) cells (omega (arith, table_length (state_at runs measured) (hours_of_day * days))) (λ k m. no_missing_table runs measured days (sym is ∙ w) k))

  module _ (method : ℕ) (conc flow cells : List ℕ) where
    abbrev pub period_now : List ℕ
    period_now = period_cells (is_filled method first days conc flow) (take (hours_of_day * days) states) cells

    period_by : (t : Bool) → eqb first 0 ≡ t → method ≡ 1 → days ≤ most_days → length conc ≡ most_hours → length flow ≡ most_hours → length cells ≡ most_hours
        → period_now ≡ filled_cells (period_states runs measured days) cells
    unfolding is_filled pick
    period_by true e m d c f l = rw (e, and_false _) (whole-line cells (omega arith) (eqb-true first 0 e))
    period_by false e m d c f l =
        rw (e, eq-eqb method 1 m, le-leb (hours_of_day * days) (min most_hours (min (length conc) (length flow))) (omega arith)) (ap (λ (t : List ℕ). filled_cells t cells) said)

    pub period_filled : method ≡ 1 → days ≤ most_days → length conc ≡ most_hours → length flow ≡ most_hours → length cells ≡ most_hours
        → period_now ≡ filled_cells (period_states runs measured days) cells
    period_filled = period_by (eqb first 0) refl

    pub period_plain : (method ≡ 1 → ⊥) → period_now ≡ cells
    unfolding is_filled pick
    period_plain m = rw (ne_eqb method 1 m) refl

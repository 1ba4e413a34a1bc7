-- Numbers that a record is refused with for another reason than a field: a claim on none of them holds of no such fault. Assumes nothing.
use Prim.Native.Nat.{ℕ}
use mathlib.Core.Bool.{Bool, false}
use mathlib.Core.List.{List, [], ◌∷◌}
use mathlib.Core.Path.{◌≡◌, refl}
use lib.Dec.{eqb}
use Rattle.std.specs.Prelude.{Option, Some, None}
use Rattle.law.specs.Words.{need, need_all}
use Rattle.law.proofs.Tests.{need_case, pick_case}
use Rattle.rules.specs.Refusals.{Fault}
use Rattle.rules.specs.declared.Record.TheVariants.{Bad}
use Rattle.rules.specs.declared.View.{View}
use Rattle.rules.specs.declared.Coefficients.{Coefficients}
use Rattle.rules.specs.declared.Coefficients.TheVariants.{Balance, Oxides, Dust}
use Rattle.rules.specs.OnPaper.{record_on_paper, coefficients_on_paper}
use Rattle.rules.specs.Judge.{refuse, fine, first, blamed, judge_stopped, judge_entry, judge_fuel, judge_stopped_day, judge_method}
use Rattle.answers.specs.Places.{of_field}

-- ---- numbers that records are refused with beside those of their fields; Q holds of none of them, nor of 0
pub record Quiet (Q : ℕ → Bool) : Type 0 where
  pub zero : Q 0 ≡ false
  pub one : Q 1 ≡ false
  pub two : Q 2 ≡ false
  pub five : Q 5 ≡ false
  pub six : Q 6 ≡ false
  pub seven : Q 7 ≡ false
  pub eighteen : Q 18 ≡ false

module _ (Q : ℕ → Bool) (quiet : Quiet Q) where
  abbrev pub Silent : Fault → Type 0
  Silent f = Q f.number ≡ false

  pub silent_fine : Silent fine
  unfolding fine
  silent_fine = quiet.zero

  pub silent_need : (number place : ℕ) (t : Bool) (f : Fault) → Q number ≡ false → Silent f → Silent (need (refuse number place) t f)
  unfolding refuse
  silent_need number place t f n s = need_case Silent (refuse number place) t f (λ _. n) (λ _. s)

  pub silent_first : (f g : Fault) → Silent f → Silent g → Silent (first f g)
  unfolding first
  silent_first f g p q = need_case Silent f (eqb f.number 0) g (λ _. p) (λ _. q)

  -- out of place
  pub silent_placed : (ts : List Bool) → Silent (need_all (refuse 2 0) ts fine)
  unfolding need_all
  silent_placed [] = silent_fine
  silent_placed (t ∷ ts) = silent_need 2 0 t _ quiet.two (silent_placed ts)

  pub silent_bad : Silent (blamed (record_on_paper Bad).number)
  unfolding blamed record_on_paper
  silent_bad = silent_need 1 0 _ _ quiet.one silent_fine

  pub silent_stopped : (runs : List ℕ) (hour : ℕ) → Silent (judge_stopped runs hour)
  unfolding judge_stopped
  silent_stopped runs hour = silent_need 5 0 _ _ quiet.five silent_fine

  pub silent_stopped_day : (states : List ℕ) (day : ℕ) → Silent (judge_stopped_day states day)
  unfolding judge_stopped_day
  silent_stopped_day states day = silent_need 5 0 _ _ quiet.five silent_fine

  silent_entry : (entry : Option Coefficients) → Silent (judge_entry entry)
  unfolding judge_entry blamed need refuse fine coefficients_on_paper
  silent_entry (Some (Balance q k)) = quiet.zero
  silent_entry (Some (Oxides coefficient)) = quiet.zero
  silent_entry (Some (Dust a b)) = quiet.zero
  silent_entry None = quiet.seven

  silent_fuel : (v : View) → Silent (judge_fuel v)
  unfolding judge_fuel
  silent_fuel v = pick_case Silent _ _ _ (λ _. silent_fine) (λ _. silent_need 6 0 _ _ quiet.six (silent_entry _))

  pub silent_method : (v : View) → Silent (judge_method v)
  unfolding judge_method
  silent_method v = pick_case Silent _ _ _ (λ _. silent_need 18 0 _ _ quiet.eighteen silent_fine) (λ _. silent_fuel v)

pub quiet_fields : Quiet of_field
unfolding of_field
quiet_fields = record { zero = refl; one = refl; two = refl; five = refl; six = refl; seven = refl; eighteen = refl }

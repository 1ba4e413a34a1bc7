-- The line of the totals by its numbers: what refuses it, and the totals that it gives. Assumes nothing.
use mathlib.Core.Path.{◌≡◌, refl, sym, ap, ◌∙◌}
use mathlib.Core.Bool.{Bool, true, false, true≢false}
use mathlib.Core.List.{List}
use Prim.Native.Nat.{ℕ, ◌+◌}
use native.Mathlib.Numerals.{add-one}
use native.Mathlib.Omega.{arith}
use lib.Dec.{eqb}
use lib.ListN.{length}
use borrow.Author.Tests.{eq-eqb, ne_eqb}
use Rattle.std.proofs.Common.{Result, Ok, Err}
use Rattle.std.specs.Prelude.{◌↔◌}
use Rattle.std.specs.Result.{IsOk, IfOk, result_or}
use Rattle.law.specs.Words.{need}
use Rattle.rules.specs.declared.Refusal.{Refusal}
use Rattle.rules.specs.declared.Refusal.TheVariants.{BadLine, OutOfRange}
use Rattle.rules.specs.declared.Refused.{Refused}
use Rattle.rules.specs.Refusals.{Fault, number_of, told, fault_in}
use Rattle.rules.specs.Judge.{refuse, fine}
use Rattle.rules.proofs.Refusals.{numbered, fault_only}
use Rattle.filing.specs.Filing.{numbers_in, totals_from, totals_told}
use Rattle.filing.specs.Parts.{Lined, read_by}

-- an array that is not full, and one that is
pub not_whole : {D E P : Type 0} (r : Result (List ℕ) D) (f e : E) → Err f ≡ result_or r (Err e) → (IsOk r ↔ P) → (P → ⊥) × (f ≡ e)
not_whole (Ok x) f e h v = absurd (cc)
not_whole (Err d) f e h v = (λ p. true≢false (sym (v.1 p)), cc)

pub whole : {D E P : Type 0} (r : Result (List ℕ) D) (x y : List ℕ) (e : E) → Ok x ≡ result_or r (Err e) → (IsOk r ↔ P) → IfOk r (λ z. z ≡ y) → P × (x ≡ y)
whole (Ok z) x y e h v q = (v.0 refl, cc)
whole (Err d) x y e h v q = absurd (cc)

-- a test that is refused does not hold, and this is its refusal; and one that is not holds
pub refused_test : (A : Type 0) (f : Refused) (r : Refusal) (n : ℕ) (holds : Bool) → told {A = A} (Err f) ≡ need (refuse (number_of r) n) holds fine
    → (holds ≡ false) × (f ≡ record { refusal = r; place = n })
unfolding need refuse fine told fault_in
refused_test A f r n true e = absurd (true≢false (sym (ap (λ (x : Fault). eqb x.number 0) e) ∙ numbered f.refusal))
refused_test A f r n false e = (refl, fault_only f (record { refusal = r; place = n }) e)

pub taken_test : {A : Type 0} (a : A) (r : Refusal) (n : ℕ) (holds : Bool) → told (Ok a) ≡ need (refuse (number_of r) n) holds fine → holds ≡ true
unfolding need refuse fine told fault_in
taken_test a r n true e = refl
taken_test a r n false e = absurd (true≢false (ap (λ (x : Fault). eqb x.number 0) e ∙ numbered r))

module _ (line : ℕ) (text : List ℕ) where
  abbrev pub Totals : Result (List ℕ) Refused → Type 0
  Totals r = (cells : List ℕ) → read_by r cells ≡ totals_from line cells text

  abbrev pub malformed : Refused
  malformed = record { refusal = BadLine; place = line }

  not_five : (numbers_in 5 text ≡ 5 → ⊥) → Totals (Err malformed)
  unfolding totals_from need read_by told fault_in totals_told
  not_five o cells = sym (rw (ne_eqb (numbers_in 5 text) 5 o))

  pub totals_none : numbers_in 5 text ≡ 0 → (r : Result (List ℕ) Refused) → r ≡ Err malformed → Totals r
  totals_none z r e = rw e (not_five (λ q. omega arith))

  module _ (totals : List ℕ) (fits : Bool) (rest : List ℕ) (l : Lined 5 text totals fits rest) where
    pub totals_few : (length totals ≡ 5 → ⊥) → (r : Result (List ℕ) Refused) → r ≡ Err malformed → Totals r
    totals_few o r e = rw e (not_five (λ q. o (l.counts ∙ q)))

    module _ (five : length totals ≡ 5) where
      is_five : eqb (numbers_in 5 text) 5 ≡ true
      is_five = eq-eqb (numbers_in 5 text) 5 (sym l.counts ∙ five)

      pub totals_over : fits ≡ false → (r : Result (List ℕ) Refused) → r ≡ Err (record { refusal = OutOfRange; place = line }) → Totals r
      unfolding totals_from need read_by told fault_in totals_told
      totals_over f r e cells = rw e (sym (rw (is_five, sym l.fit ∙ f)))

      module _ (f : fits ≡ true) where
        pub totals_not_last : (length rest ≡ 0 → ⊥) → (r : Result (List ℕ) Refused) → r ≡ Err (record { refusal = BadLine; place = line + 1 }) → Totals r
        unfolding totals_from need read_by told fault_in totals_told
        totals_not_last o r e cells = rw e (sym (rw (is_five, sym l.fit ∙ f, sym l.behind, ne_eqb (length rest) 0 o, add-one)))

        pub totals_taken : length rest ≡ 0 → (t : List ℕ) → t ≡ totals → Totals (Ok t)
        unfolding totals_from need read_by told fault_in totals_told
        totals_taken o t e cells = sym (rw (is_five, sym l.fit ∙ f, sym l.behind, eq-eqb (length rest) 0 o, e, l.values f))

-- The first missing day of an outfall's line: among the days that have a state, and none behind them. Assumes nothing.
use mathlib.Core.Path.{◌≡◌, refl, ap, ◌∙◌, sym}
use mathlib.Core.Bool.{Bool, true, false}
use mathlib.Core.List.{List}
use Prim.Native.Nat.{ℕ, ◌+◌, ◌<◌, ◌≤◌, min}
use native.Mathlib.Decide.{dec_lt}
use native.Mathlib.Omega.{arith}
use lib.ListN.{length, get_or, take, length-take, get_or-eq_default}
use lib.Seq.{get_or-take}
use lib.Dec.{eqb}
use mir.Val.{bool_byte}
use borrow.Author.Tests.{eq-eqb, ne_eqb}
use Rattle.law.specs.Words.{pick}
use Rattle.law.proofs.Seek.{seek_first, seek_none}
use Rattle.line.specs.Days.{lacks_on, first_lacking}

hit_by : (t : Bool) → eqb (pick t 1 0) 1 ≡ t
unfolding pick
hit_by true = refl
hit_by false = refl

byte-of : (t : Bool) → bool_byte t ≡ pick t 1 0
unfolding pick
byte-of true = refl
byte-of false = refl

-- a day counts as the byte of its test
pub found_on : (states : List ℕ) (day d n : ℕ) (t : Bool) → n ≡ bool_byte t → t ≡ eqb (get_or states d 0) 1 → d ≡ day → n ≡ lacks_on states day
unfolding lacks_on
found_on states day d n t e f g = e ∙ byte-of t ∙ ap (λ (b : Bool). pick b 1 0) (f ∙ ap (λ (k : ℕ). eqb (get_or states k 0) 1) g)

module _ (states : List ℕ) where
  hit_is : (day : ℕ) → eqb (lacks_on states day) 1 ≡ eqb (get_or states day 0) 1
  unfolding lacks_on
  hit_is day = hit_by (eqb (get_or states day 0) 1)

  module _ (days d n : ℕ) (f : d ≡ days) (e : n ≡ min (length states) d) where
    here : (k : ℕ) → k < n → get_or (take n states) k 0 ≡ get_or states k 0
    here k l = get_or-take n states k 0 l

    pub first_found : (day : ℕ) → day < length (take n states) → get_or (take n states) day 0 ≡ 1 → ((k : ℕ) → k < day → get_or (take n states) k 0 ≡ 1 → ⊥) → day + 1 ≡ first_lacking states days
    unfolding first_lacking
    first_found day l one none =
        let m : day < n = omega (arith, length-take n states) in
        sym (seek_first (λ d. eqb (lacks_on states d) 1) (λ d. d + 1) 0 days day (omega arith)
        (hit_is day ∙ eq-eqb _ 1 (sym (here day m) ∙ one))
        (λ k q. hit_is k ∙ ne_eqb _ 1 (λ z. none k q (here k (omega arith) ∙ z))))

    past_by : (k : ℕ) → ((j : ℕ) → j < length (take n states) → get_or (take n states) j 0 ≡ 1 → ⊥) → Dec (k < n) → k < days → get_or states k 0 ≡ 1 → ⊥
    past_by k none (yes l) q z = none k (omega (arith, length-take n states)) (here k l ∙ z)
    past_by k none (no l) q z = let p : length states ≤ k = omega arith in omega (arith, get_or-eq_default states 0 p)

    pub first_none : ((k : ℕ) → k < length (take n states) → get_or (take n states) k 0 ≡ 1 → ⊥) → 0 ≡ first_lacking states days
    unfolding first_lacking
    first_none none =
        sym (seek_none (λ d. eqb (lacks_on states d) 1) (λ d. d + 1) 0 days
        (λ k q. hit_is k ∙ ne_eqb _ 1 (past_by k none (dec_lt k n) q)))

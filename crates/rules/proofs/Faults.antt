-- Faults in a row: the first of them, and what it says that there is none. Assumes nothing.
use Prim.Native.Nat.{ℕ, ◌+◌, ◌≤◌}
use mathlib.Core.Bool.{Bool, true, false}
use mathlib.Core.List.{List, [], ◌∷◌}
use mathlib.Core.Path.{◌≡◌, refl, sym, ap, ap₂, ◌∙◌}
use native.Mathlib.Omega.{arith}
use lib.ListN.{get_or}
use lib.Dec.{eqb}
use borrow.Author.Tests.{eqb-true, eqb-false}
use Rattle.law.specs.Words.{need, need_all, pick}
use Rattle.law.proofs.Tests.{need_false, need_case, need_eq, need_not_eq, pick_case, all_passed}
use Rattle.rules.specs.Refusals.{Fault}
use Rattle.rules.specs.Judge.{refuse, fine, first, blamed, at_place}

by_first : (f g k : Fault) (t : Bool) → eqb f.number 0 ≡ t → first (need f t g) k ≡ need f t (first g k)
unfolding first need
by_first f g k true h = refl
by_first f g k false h = rw h

pub first-first : (f g k : Fault) → first (first f g) k ≡ first f (first g k)
unfolding first
first-first f g k = by_first f g k (eqb f.number 0) refl

pub first_fine : (f : Fault) → first fine f ≡ f
unfolding first fine need
first_fine f = refl

first-refused : (number place : ℕ) (f : Fault) → eqb number 0 ≡ false → refuse number place ≡ first (refuse number place) f
unfolding first refuse
first-refused number place f e = need_false (refuse number place) (eqb number 0) f e

-- the first of two faults, each by its own rule
pub first-parts : (r f g f' g' : Fault) → r ≡ first f g → f ≡ f' → g ≡ g' → r ≡ first f' g'
first-parts r f g f' g' e p q = e ∙ ap₂ first p q

-- and where the first is a test of its own
pub first-need : (number place : ℕ) (t : Bool) (g : Fault) → eqb number 0 ≡ false → first (need (refuse number place) t fine) g ≡ need (refuse number place) t g
unfolding need
first-need number place true g e = first_fine g
first-need number place false g e = sym (first-refused number place g e)

-- a test by another that is the same
pub need_by : (n x : Fault) (t w : Bool) → t ≡ w → need n t x ≡ need n w x
need_by n x t w e = ap (λ (u : Bool). need n u x) e

-- a fault that refuses, or is fine: nothing fine after it changes it
abbrev pub Stands : Fault → Type 0
Stands f = first f fine ≡ f

pub stands_fine : Stands fine
stands_fine = first_fine fine

pub stands_need : (number place : ℕ) (t : Bool) (f : Fault) → eqb number 0 ≡ false → Stands f → Stands (need (refuse number place) t f)
stands_need number place t f e s =
    need_case (λ (x : Fault). first x fine ≡ x) (refuse number place) t f (λ _. sym (first-refused number place fine e)) (λ _. s)

pub stands_all : (number place : ℕ) (ts : List Bool) (f : Fault) → eqb number 0 ≡ false → Stands f → Stands (need_all (refuse number place) ts f)
unfolding need_all
stands_all number place [] f e s = s
stands_all number place (t ∷ ts) f e s = stands_need number place t _ e (stands_all number place ts f e s)

pub stands_pick : (t : Bool) (f g : Fault) → Stands f → Stands g → Stands (pick t f g)
stands_pick t f g p q = pick_case (λ (x : Fault). first x fine ≡ x) t f g (λ _. p) (λ _. q)

pub stands_first : (f g : Fault) → Stands g → Stands (first f g)
stands_first f g s = first-first f g fine ∙ ap (first f) s

blamed-by : (number place : ℕ) (t : Bool) → eqb number 0 ≡ t → Stands (need (refuse number place) t fine)
unfolding need
blamed-by number place true e = stands_fine
blamed-by number place false e = sym (first-refused number place fine e)

pub stands_blamed : (number : ℕ) → Stands (blamed number)
unfolding blamed
stands_blamed number = blamed-by number 0 (eqb number 0) refl

pub ruleset stands = (stands_fine, stands_blamed, stands_need, stands_all, stands_pick, stands_first)

refuses : (t : Bool) → t ≡ false → t ≡ true → ⊥
refuses t p q = let z : ◌≡◌ {A = ℕ} 0 1 = cc in omega arith

-- what passed every test passed each
pub passed : (number place : ℕ) (t : Bool) (f : Fault) → eqb number 0 ≡ false → need (refuse number place) t f ≡ fine → (t ≡ true) × (f ≡ fine)
unfolding need refuse fine
passed number place true f e h = (refl, h)
passed number place false f e h = absurd (refuses (eqb number 0) e (ap (λ (x : Fault). eqb x.number 0) h))

pub each_passed : (number place : ℕ) (ts : List Bool) → eqb number 0 ≡ false → need_all (refuse number place) ts fine ≡ fine → (i : ℕ) → get_or ts i true ≡ true
unfolding refuse fine
each_passed number place ts e = all_passed (λ f. f ≡ fine) (refuse number place) fine (λ h. refuses (eqb number 0) e (ap (λ (x : Fault). eqb x.number 0) h)) ts

-- a fault of number 0 is none
pub stands_zero : (f : Fault) → Stands f → f.number ≡ 0 → f ≡ fine
unfolding first
stands_zero f s z = sym s ∙ sym (need_eq f fine fine f.number 0 z refl)

-- where the first of two refuses nothing, neither does its own, and the second speaks
pub first_goes : (f g : Fault) → f.number ≡ 0 → g ≡ first f g
unfolding first
first_goes f g z = need_eq f g g f.number 0 z refl

pub first_stops : (f g : Fault) → (f.number ≡ 0 → ⊥) → f ≡ first f g
unfolding first
first_stops f g n = need_not_eq f g f.number 0 n

pub first-passed : (f g : Fault) → (first f g).number ≡ 0 → f.number ≡ 0
first-passed f g z = by (eqb f.number 0) refl
  where
    by : (t : Bool) → eqb f.number 0 ≡ t → f.number ≡ 0
    by true e = eqb-true f.number 0 e
    by false e = ap (λ (x : Fault). x.number) (first_stops f g (eqb-false f.number 0 e)) ∙ z

pub both-passed : (f g : Fault) → Stands f → first f g ≡ fine → (f ≡ fine) × (g ≡ fine)
unfolding fine
both-passed f g s e =
    let z = first-passed f g (ap (λ (x : Fault). x.number) e) in
    (stands_zero f s z, first_goes f g z ∙ e)

-- ---- a fault's place lies within so many bytes
abbrev pub Within : ℕ → Fault → Type 0
Within n f = f.place ≤ n

pub within_fine : (n : ℕ) → Within n fine
unfolding fine
within_fine n = omega arith

pub within_refuse : (n number : ℕ) → Within n (refuse number 0)
unfolding refuse
within_refuse n number = omega arith

pub within_need : (n number : ℕ) (t : Bool) (f : Fault) → Within n f → Within n (need (refuse number 0) t f)
within_need n number t f w = need_case (Within n) (refuse number 0) t f (λ _. within_refuse n number) (λ _. w)

pub within_all : (n number : ℕ) (ts : List Bool) (f : Fault) → Within n f → Within n (need_all (refuse number 0) ts f)
unfolding need_all
within_all n number [] f w = w
within_all n number (t ∷ ts) f w = within_need n number t _ (within_all n number ts f w)

pub within_pick : (n : ℕ) (t : Bool) (f g : Fault) → Within n f → Within n g → Within n (pick t f g)
within_pick n t f g p q = pick_case (Within n) t f g (λ _. p) (λ _. q)

pub within_first : (n : ℕ) (f g : Fault) → Within n f → Within n g → Within n (first f g)
unfolding first
within_first n f g p q = need_case (Within n) f (eqb f.number 0) g (λ _. p) (λ _. q)

pub within_blamed : (n number : ℕ) → Within n (blamed number)
unfolding blamed
within_blamed n number = within_need n number (eqb number 0) fine (within_fine n)

pub ruleset withins = (within_fine, within_refuse, within_need, within_all, within_pick, within_first, within_blamed)

-- ---- the place of the record added
placed_by : (place : ℕ) (f : Fault) (t : Bool) → eqb f.number 0 ≡ t → (need (refuse f.number (place + f.place)) t fine).number ≡ f.number
unfolding need refuse fine
placed_by place f true e = sym (eqb-true f.number 0 e)
placed_by place f false e = refl

pub at_place-number : (place : ℕ) (f : Fault) → (at_place place f).number ≡ f.number
unfolding at_place
at_place-number place f = placed_by place f (eqb f.number 0) refl

pub at_place-refused : (place : ℕ) (f : Fault) → (f.number ≡ 0 → ⊥) → refuse f.number (place + f.place) ≡ at_place place f
unfolding at_place
at_place-refused place f n = need_not_eq (refuse f.number (place + f.place)) fine f.number 0 n

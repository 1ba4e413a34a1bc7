-- Cells past those that were used are 0, so that clearing these clears all. Assumes nothing.
use mathlib.Core.Path.{◌≡◌, refl, sym, ap, ◌∙◌}
use mathlib.Core.Bool.{Bool, true, false}
use mathlib.Core.List.{List, [], ◌++◌}
use Prim.Native.Nat.{ℕ, ◌+◌, ◌-◌, ◌≤◌}
use native.Mathlib.Omega.{arith}
use lib.ListN.{length, drop, get_or, replicate, length-append, length-drop, length-replicate, get_or-replicate, get_or-append, get_or-eq_default}
use lib.Seq.{get_or-append-add, get_or-drop}
use lib.Dec.{ltb}
use borrow.Author.Tests.{ltb-true, ltb-false}
use Rattle.law.specs.Numbers.{most_hours}
use Rattle.law.specs.Words.{table}
use Rattle.law.proofs.Tabled.{table_is}
use Rattle.rules.specs.Row.{cells}

module _ {A : Type 0} (z : A) where
  zero_at : (m k : ℕ) (t : Bool) → ltb k m ≡ t → get_or (replicate m z) k z ≡ z
  zero_at m k true e = get_or-replicate m k z z (ltb-true k m e)
  zero_at m k false e = get_or-eq_default (replicate m z) z (omega (arith, length-replicate {A = A} m z, ltb-false k m e))

  pub replicate_zero : (m k : ℕ) → get_or (replicate m z) k z ≡ z
  replicate_zero m k = zero_at m k (ltb k m) refl

  pub table_zero : (n k : ℕ) → get_or (table (λ i. z) n) k z ≡ z
  table_zero n k = ap (λ (t : List A). get_or t k z) (sym (table_is (λ i. z) n z (replicate n z) (length-replicate n z) (λ i l. get_or-replicate n i z z l))) ∙ replicate_zero n k

  -- the cells that were used are cleared
  module _ (xs : List A) (n : ℕ) (past : (h : ℕ) → n ≤ h → get_or xs h z ≡ z) where
    over_zero : (k : ℕ) (t : Bool) → ltb k n ≡ t → get_or (replicate n z ++ drop n xs) k z ≡ z
    over_zero k true e =
        let l = ltb-true k n e in
        get_or-append (replicate n z) (drop n xs) z k (omega (arith, length-replicate {A = A} n z, l)) ∙ replicate_zero n k
    over_zero k false e =
        let l = ltb-false k n e in
        let i : k ≡ length (replicate n z) + (k - n) = omega (arith, length-replicate {A = A} n z, l) in
        let j : n + (k - n) ≡ k = omega (arith, l) in
        ap (λ (m : ℕ). get_or (replicate n z ++ drop n xs) m z) i ∙ get_or-append-add (replicate n z) (drop n xs) (k - n) z ∙ get_or-drop n xs (k - n) z ∙ ap (λ (m : ℕ). get_or xs m z) j ∙ past k l

    pub cleared_all : length xs ≡ most_hours → n ≤ most_hours → replicate n z ++ drop n xs ≡ table (λ i. z) most_hours
    cleared_all e l =
        table_is (λ i. z) most_hours z (replicate n z ++ drop n xs) (length-append (replicate n z) (drop n xs) ∙ omega (arith, length-replicate {A = A} n z, length-drop n xs, e, l))
        (λ k m. over_zero k (ltb k n) refl)

pub cells-past : (vs : List ℕ) (n h : ℕ) → length vs ≤ n → n ≤ h → get_or (cells vs) h 0 ≡ 0
unfolding cells
cells-past vs n h l m =
    let i : h ≡ length vs + (h - length vs) = omega (arith, l, m) in
    ap (λ (k : ℕ). get_or (vs ++ replicate (most_hours - length vs) 0) k 0) i ∙ get_or-append-add vs (replicate (most_hours - length vs) 0) (h - length vs) 0
    ∙ replicate_zero 0 (most_hours - length vs) (h - length vs)

-- a cleared work slice has 2,208 cells
pub clear_long : (xs : List ℕ) → xs ≡ cells [] → length xs ≡ most_hours
unfolding cells
clear_long xs e = ap length e ∙ length-replicate {A = ℕ} most_hours 0

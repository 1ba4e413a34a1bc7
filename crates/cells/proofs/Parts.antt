-- What `fill` and `copy_from_slice` leave, in the words of the rules: 0, and the figures, from the front; a count within the cells is itself. Assumes nothing.
use Rattle.std.specs.Prelude.{ℕ, min, zero, suc, ◌≡◌, ◌≤◌, List, ◌++◌, ◌∷◌, [], length, take, drop, get_or, replicate, refl}
use Rattle.std.proofs.Common.{sym, ◌∙◌, ap, arith}
use Rattle.std.proofs.lemmas.List.{replicate_more}
use native.Mathlib.Numerals.{add-one}
use lib.ListN.{length-take}
use lib.Seq.{get_or-take}
use Rattle.law.specs.Words.{table, over}
use Rattle.law.proofs.Tabled.{table_is}

zeros : (n : ℕ) → replicate {A = ℕ} n 0 ≡ table (λ h. 0) n
unfolding table
zeros zero = refl
zeros (suc n) = ap (λ (k : ℕ). replicate {A = ℕ} k 0) (sym (add-one n)) ∙ sym (replicate_more n 0) ∙ ap (λ (t : List ℕ). t ++ (0 ∷ [])) (zeros n)

pub cleared : (xs ys : List ℕ) (n m : ℕ) → ys ≡ replicate {A = ℕ} (length (take n xs)) 0 → n ≤ length xs → n ≡ m → ys ++ drop n xs ≡ over (λ h. 0) m xs
cleared xs ys n m e h l =
    ap (λ (t : List ℕ). t ++ drop n xs) (e ∙ ap (λ (k : ℕ). replicate {A = ℕ} k 0) (length-take n xs ∙ omega arith) ∙ zeros n) ∙ ap (λ (k : ℕ). over (λ h. 0) k xs) l

pub copied : (xs ys zs : List ℕ) (n m : ℕ) → ys ≡ take n zs → n ≤ length zs → n ≡ m → ys ++ drop n xs ≡ over (λ k. get_or zs k 0) m xs
copied xs ys zs n m e l k =
    let front : take n zs ≡ table (λ i. get_or zs i 0) n = table_is (λ i. get_or zs i 0) n 0 (take n zs) (length-take n zs ∙ omega arith) (λ i h. get_or-take n zs i 0 h) in
    ap (λ (t : List ℕ). t ++ drop n xs) (e ∙ front) ∙ ap (λ (j : ℕ). over (λ i. get_or zs i 0) j xs) k

-- as many as are asked for, where there are so many
pub first-all : (xs : List ℕ) (n : ℕ) → n ≤ length xs → over (λ h. 0) (min n (length xs)) xs ≡ over (λ h. 0) n xs
first-all xs n l = let e : min n (length xs) ≡ n = omega arith in ap (λ (k : ℕ). over (λ h. 0) k xs) e

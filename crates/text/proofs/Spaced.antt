-- Numbers written with a space between two and a line feed behind the last. Assumes nothing.
use mathlib.Core.Path.{◌≡◌, refl, sym, ap, ◌∙◌}
use mathlib.Core.List.{List, [], ◌∷◌, ◌++◌, append_assoc}
use Prim.Native.Nat.{ℕ, ◌+◌, ◌*◌, ◌≤◌}
use native.Mathlib.Omega.{arith}
use lib.ListN.{length, take, length-append}
use Rattle.std.specs.Prelude.{flat_map}
use Rattle.std.proofs.lemmas.List.{nil_from_length, take_all}
use Rattle.law.specs.Written.{Wrote}
use Rattle.law.proofs.Wrote.{wrote_on, wrote_as}
use Rattle.text.specs.Numbers.{decimal, spaced}
use Rattle.text.proofs.Numbers.{decimal-most}

-- a number and the space behind it
abbrev pub with_space : ℕ → List ℕ
with_space n = decimal n ++ (32 ∷ [])

-- each but the last with the space behind it
pub spaced_last : (others : List ℕ) (last : ℕ) → flat_map with_space others ++ (decimal last ++ (10 ∷ [])) ≡ spaced (others ++ (last ∷ []))
unfolding spaced
spaced_last [] last = refl
spaced_last (n ∷ []) last = append_assoc (with_space n) [] (decimal last ++ (10 ∷ [])) ∙ append_assoc (decimal n) (32 ∷ []) (decimal last ++ (10 ∷ []))
spaced_last (n ∷ m ∷ ns) last =
    append_assoc (with_space n) (flat_map with_space (m ∷ ns)) (decimal last ++ (10 ∷ []))
    ∙ ap (λ (t : List ℕ). with_space n ++ t) (spaced_last (m ∷ ns) last)
    ∙ append_assoc (decimal n) (32 ∷ []) (spaced (m ∷ (ns ++ (last ∷ []))))

-- 21 bytes for each number and one more are enough
pub spaced-most : (cells : List ℕ) → length (spaced cells) ≤ 21 * length cells + 1
unfolding spaced
spaced-most [] = omega arith
spaced-most (n ∷ []) = omega (arith, length-append (decimal n) (10 ∷ []), decimal-most n)
spaced-most (n ∷ m ∷ ns) = omega (arith, length-append (decimal n) (32 ∷ spaced (m ∷ ns)), decimal-most n, spaced-most (m ∷ ns))

-- no numbers, and the last behind the others
pub wrote_no_cells : (cells a b : List ℕ) (at k : ℕ) → length cells ≡ 0 → Wrote a at (10 ∷ []) b k → Wrote a at (spaced cells) b k
unfolding spaced
wrote_no_cells cells a b at k e w = wrote_as a b _ _ at k (sym (ap spaced (nil_from_length cells e))) w

pub wrote_cells : (cells others : List ℕ) (last : ℕ) (a b c : List ℕ) (at i j k : ℕ) → cells ≡ others ++ (last ∷ []) → length others ≤ i
    → Wrote a at (flat_map with_space (take i others)) b j → Wrote b j (decimal last ++ (10 ∷ [])) c k → Wrote a at (spaced cells) c k
wrote_cells cells others last a b c at i j k e l p q =
    wrote_as a c _ _ at k (ap (λ (xs : List ℕ). flat_map with_space xs ++ (decimal last ++ (10 ∷ []))) (take_all i others l) ∙ spaced_last others last ∙ ap spaced (sym e)) (wrote_on a b c _ _ at j k p q)

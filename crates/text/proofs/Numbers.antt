-- A number in decimal: what `itoa` prints is the definition's text. Assumes nothing.
use mathlib.Core.Path.{◌≡◌, sym, ap, ◌∙◌}
use mathlib.Core.List.{List, [], ◌∷◌, ◌++◌, append_assoc, append-nil}
use Prim.Native.Nat.{ℕ, zero, suc, ◌+◌, ◌*◌, ◌/◌, ◌%◌, ◌^◌, ◌<◌, ◌≤◌}
use native.Mathlib.Omega.{arith}
use lib.ListN.{length, length-append}
use lib.Pow.{pow-add}
use lib.Dec.{ltb}
use borrow.Author.Tests.{lt-ltb, le-ltb}
use Rattle.std.specs.Fmt.{decimal as printed}
use Rattle.std.proofs.lemmas.Fmt.{decimal_by_steps, length-decimal-le}
use Rattle.law.specs.Words.{pick}
use Rattle.law.proofs.Tests.{pick_case}
use Rattle.text.specs.Numbers.{decimal_from, decimal}

pub ten_times : (k : ℕ) → 10 ^ suc k ≡ 10 * 10 ^ k
ten_times k = let e : suc k ≡ 1 + k = omega arith in ap (λ (j : ℕ). 10 ^ j) e ∙ pow-add 10 1 k

-- in so many places as there are digits, or more
Prints : ℕ → List ℕ → Type 0
Prints n digits = (places : ℕ) (t : List ℕ) → length digits ≤ places → decimal_from places n t ≡ digits ++ t

prints_one : (n : ℕ) → n < 10 → Prints n ((48 + n) ∷ [])
unfolding Prints decimal_from pick
prints_one n l zero t f = absurd (omega (arith, f))
prints_one n l (suc p) t f = let e : n % 10 ≡ n = omega (arith, l) in rw (lt-ltb n 10 l) (ap (λ (d : ℕ). (48 + d) ∷ t) e)

prints_more : (n : ℕ) (ds : List ℕ) → 10 ≤ n → Prints (n / 10) ds → Prints n (ds ++ ((48 + n % 10) ∷ []))
unfolding Prints decimal_from pick
prints_more n ds l h zero t f = absurd (omega (arith, f, length-append ds ((48 + n % 10) ∷ [])))
prints_more n ds l h (suc p) t f =
    rw (le-ltb n 10 l)
    (h p ((48 + n % 10) ∷ t) (omega (arith, f, length-append ds ((48 + n % 10) ∷ []))) ∙ sym (append_assoc ds ((48 + n % 10) ∷ []) t))

-- a u64 has at most 20 digits
pub decimal-is : (n : ℕ) → n < 2 ^ 64 → printed n ≡ decimal n
unfolding Prints decimal
decimal-is n l = sym (decimal_by_steps Prints prints_one prints_more n l 20 [] (length-decimal-le 20 n (omega arith) (omega (arith, l)) l) ∙ append-nil (printed n))

-- and a number is at most 20 bytes long
from_most : (places n : ℕ) (t : List ℕ) → length (decimal_from places n t) ≤ places + length t
unfolding decimal_from
from_most zero n t = omega arith
from_most (suc p) n t =
    let text = (48 + n % 10) ∷ t in
    pick_case (λ x. length x ≤ suc p + length t) (ltb n 10) text (decimal_from p (n / 10) text) (λ h. omega arith) (λ h. omega (arith, from_most p (n / 10) text))

pub decimal-most : (n : ℕ) → length (decimal n) ≤ 20
unfolding decimal
decimal-most n = omega (arith, from_most 20 n [])

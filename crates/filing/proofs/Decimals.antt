-- A number in decimal, read back: it is digits, at least one, and their number. Assumes nothing.
use mathlib.Core.Path.{◌≡◌, refl, sym, ap, subst, ◌∙◌}
use mathlib.Core.Bool.{true, false}
use mathlib.Core.List.{List, [], ◌∷◌, ◌++◌, append_assoc, append-nil}
use Prim.Native.Nat.{ℕ, zero, suc, ◌+◌, ◌/◌, ◌%◌, ◌^◌, ◌<◌}
use native.Mathlib.Omega.{arith}
use lib.Dec.{ltb}
use lib.ListN.{length, length-append}
use borrow.Author.Tests.{lt-ltb, ltb-true, le-leb, ne_eqb}
use Rattle.law.specs.Words.{pick}
use Rattle.law.specs.Digits.{up_to, past, is_digit, all_digits, value_from, value, number_to}
use Rattle.law.proofs.Tests.{pick_case}
use Rattle.law.proofs.Digits.{and_false, value_on, each_on, digits_before, stop_behind, some_number, not_number}
use Rattle.text.specs.Numbers.{decimal_from, decimal}
use Rattle.text.proofs.Numbers.{ten_times}

-- digits of a number before a text
record Digits (n : ℕ) (text whole : List ℕ) : Type 0 where
  digits : List ℕ
  before : whole ≡ digits ++ text
  each : all_digits digits ≡ true
  some : 0 < length digits
  is : value digits ≡ n

is_digit_lem : (d : ℕ) → d < 10 → is_digit (48 + d) ≡ true
unfolding is_digit
is_digit_lem d l = rw (le-leb 48 (48 + d) (omega arith), le-leb (48 + d) 57 (omega arith))

one_digit : (n : ℕ) (text : List ℕ) → n < 10 → Digits n text ((48 + n % 10) ∷ text)
unfolding all_digits value_from
one_digit n text l =
    record { digits = (48 + n % 10) ∷ []; before = refl; each = rw (is_digit_lem (n % 10) (omega arith)); some = omega arith; is = omega arith }

more_digits : (n : ℕ) (text whole : List ℕ) → Digits (n / 10) ((48 + n % 10) ∷ text) whole → Digits n text whole
more_digits n text whole d =
    let b = 48 + n % 10 in
    record {
      digits = d.digits ++ (b ∷ []);
      before = d.before ∙ sym (append_assoc d.digits (b ∷ []) text);
      each = each_on d.digits b d.each (is_digit_lem (n % 10) (omega arith));
      some = omega (arith, length-append d.digits (b ∷ []));
      is = omega (arith, value_on 0 d.digits b, d.is);
    }

digits_of : (places n : ℕ) (text : List ℕ) → n < 10 ^ suc places → Digits n text (decimal_from (suc places) n text)
unfolding decimal_from pick
digits_of zero n text l = let h : n < 10 = omega (arith, ten_times 0) in rw (lt-ltb n 10 h) (one_digit n text h)
digits_of (suc p) n text l =
    let b = 48 + n % 10 in
    pick_case (Digits n text) (ltb n 10) (b ∷ text) (decimal_from (suc p) (n / 10) (b ∷ text)) (λ e. one_digit n text (ltb-true n 10 e))
    (λ _. more_digits n text _ (digits_of p (n / 10) (b ∷ text) (omega (arith, ten_times (suc p)))))

-- the digits of a number that has at most 20
pub record Decimal (n : ℕ) (digits : List ℕ) : Type 0 where
  pub each : all_digits digits ≡ true
  pub some : 0 < length digits
  pub is : value digits ≡ n

pub decimal-back : (n : ℕ) → n < 10 ^ 20 → Decimal n (decimal n)
unfolding decimal
decimal-back n l =
    let d = digits_of 19 n [] l in
    let e : decimal_from 20 n [] ≡ d.digits = d.before ∙ append-nil d.digits in
    subst (Decimal n) (sym e) (record { each = d.each; some = d.some; is = d.is })

-- a field of a number, which ends with its stop, read back
pub record Field (stop n : ℕ) (rest s : List ℕ) : Type 0 where
  pub formed : number_to stop s ≡ true
  pub is : value (up_to stop s) ≡ n
  pub behind : past stop s ≡ rest

module _ (stop : ℕ) (no : is_digit stop ≡ false) (n : ℕ) (l : n < 10 ^ 20) (rest : List ℕ) where
  pub field_back : Field stop n rest (decimal n ++ (stop ∷ rest))
  unfolding number_to
  field_back =
      let d = decimal-back n l in
      let z = stop_behind stop no (decimal n) rest d.each in
      record { formed = rw (z.0, z.2, some_number (decimal n) d.each d.some); is = ap value z.0 ∙ d.is; behind = z.1 }

  -- with another stop it is no number, and what stands behind that stop does not stand in it
  pub field-other : (other : ℕ) → is_digit other ≡ false → (stop ≡ other → ⊥)
      → (number_to other (decimal n ++ (stop ∷ rest)) ≡ false) × (past other (decimal n ++ (stop ∷ rest)) ≡ past other rest)
  unfolding number_to up_to past pick
  field-other other none o =
      let d = decimal-back n l in
      let z = digits_before other none (decimal n) (stop ∷ rest) d.each in
      let q = ne_eqb stop other o in
      let up : up_to other (decimal n ++ (stop ∷ rest)) ≡ decimal n ++ (stop ∷ up_to other rest) = z.0 ∙ rw q in
      (rw (up, (not_number (decimal n) stop (up_to other rest) no).1, and_false), z.1 ∙ rw q)

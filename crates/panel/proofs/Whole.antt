-- Whole numbers up to 2 ^ 53 in a binary64: the cast and the sum are exact, and a lawful total is the cast of its own number. Assumes nothing.
use Rattle.std.proofs.Common.{◌≡◌, ℕ, ◌+◌, ◌*◌, ◌/◌, ◌%◌, ◌^◌, ◌<◌, ◌≤◌, Bool, true, false, not, ◌&&◌, T, eqb, ltb, leb, pos, sym, refl, ap, ◌∙◌, subst, true≢false, lt_of_le_of_lt, zero-lt-suc, mul_assoc, mul_comm, add-mul, mul-lt-mul_of_pos_right, mul-pos, mul-one, arith, lit<, le→leb, eqb→eq, lt→ltb, leb→le}
use lib.Dec.{eqb_refl}
use lib.Ieee.{Float, nan, inf, fin, Format, binary64, up, down, round, of_int, to_unsigned, in_unsigned, in_float, fits, is_nan, add, sum, lt, to_bits, of_bits}
use lib.Ieee as ieee
use lib.Ieee.Fits.{down_pos, of_int-fits}
use lib.Ieee.Casts.{to_unsigned_cut}
use lib.Ieee.Exact.{HasValue}
use lib.Ieee.Back.{round_whole, whole_unique, unsigned_back, Float-back_unsigned}
use lib.Ieee.Scale.{round_same}
use lib.Ieee.Bits.{of_bits-to_bits}
use Rattle.panel.specs.Lawful.{whole, lawful_total, as_total}

-- ---- the rules' test and number are those of a cast to u64
within : (a b c : Bool) → (T b → T c) → a && b ≡ (a && b && true) && c
within true true true f = refl
within true true false f = absurd (f tt)
within true false c f = refl
within false b c f = refl

never : (b : Bool) → false ≡ b && false
never true = refl
never false = refl

small : (n : ℕ) → n ≤ 2 ^ 53 → n < 2 ^ 64
small n h = lt_of_le_of_lt h (lit< tt)

pub lawful-cast : (x : Float) → lawful_total x ≡ in_unsigned binary64 64 x
unfolding lawful_total in_unsigned ieee.whole
lawful-cast nan = refl
lawful-cast (inf s) = refl
lawful-cast (fin true m e) = never (eqb (m * up e % down e) 0 && leb (m * up e / down e) (2 ^ 53) && not (true && eqb m 0))
lawful-cast (fin false m e) =
    let n = m * up e / down e in
    within (eqb (m * up e % down e) 0) (leb n (2 ^ 53)) (ltb n (2 ^ 64)) (λ t. lt→ltb n (2 ^ 64) (small n (leb→le n (2 ^ 53) t)))

module _ (x : Float) (t : T (lawful_total x)) where
  pub castable : T (in_unsigned binary64 64 x)
  castable = subst T (lawful-cast x) t

pub whole-cast : (x : Float) → T (lawful_total x) → whole x ≡ to_unsigned 64 x
unfolding whole lawful_total
whole-cast nan t = absurd t
whole-cast (inf s) t = absurd t
whole-cast (fin s m e) t = sym (to_unsigned_cut binary64 64 s m e (castable (fin s m e) t))

-- ---- a whole number as a total
pub cast_ok : (n : ℕ) → n ≤ 2 ^ 53 → T (in_float binary64 (pos n))
unfolding in_float
cast_ok n h = le→leb n (2 ^ 53) h

pub total_fits : (n : ℕ) → T (fits binary64 (as_total n))
unfolding as_total
total_fits n = of_int-fits binary64 (pos n)

-- it has the number's value, exactly, and the sign +
pub value : (n : ℕ) → n ≤ 2 ^ 53 → HasValue (as_total n) false n 1
unfolding as_total of_int
value n h = round_whole binary64 false n h

-- no other binary64 has that value
pub value-only : (x : Float) (n : ℕ) → T (fits binary64 x) → n ≤ 2 ^ 53 → HasValue x false n 1 → x ≡ as_total n
value-only x n f h v = whole_unique binary64 x (as_total n) false n f (total_fits n) v (value n h)

pub total_lawful : (n : ℕ) → n ≤ 2 ^ 53 → T (lawful_total (as_total n))
unfolding as_total
total_lawful n h = subst T (sym (lawful-cast (as_total n))) (unsigned_back binary64 64 n (cast_ok n h) (small n h)).0

pub whole_of : (n : ℕ) → n ≤ 2 ^ 53 → whole (as_total n) ≡ n
unfolding as_total
whole_of n h = whole-cast (as_total n) (total_lawful n h) ∙ (unsigned_back binary64 64 n (cast_ok n h) (small n h)).1

-- ---- a lawful total is such a cast
module _ (x : Float) (f : T (fits binary64 x)) (t : T (lawful_total x)) where
  pub whole_le : whole x ≤ 2 ^ 53
  unfolding in_float
  whole_le = subst (λ (n : ℕ). n ≤ 2 ^ 53) (sym (whole-cast x t)) (leb→le (to_unsigned 64 x) (2 ^ 53) (Float-back_unsigned binary64 64 x f (castable x t)).0)

  pub again : as_total (whole x) ≡ x
  unfolding as_total
  again = ap as_total (whole-cast x t) ∙ (Float-back_unsigned binary64 64 x f (castable x t)).1

-- ---- sums
sums : (mu de nu dd a b : ℕ) → mu * 1 ≡ a * de → nu * 1 ≡ b * dd → (mu * dd + nu * de) * 1 ≡ (a + b) * (de * dd)
sums mu de nu dd a b p q =
    let e1 : mu * dd ≡ a * (de * dd) = ap (λ (x : ℕ). x * dd) (sym (mul-one mu) ∙ p) ∙ mul_assoc a de dd in
    let e2 : nu * de ≡ b * (de * dd) = ap (λ (x : ℕ). x * de) (sym (mul-one nu) ∙ q) ∙ mul_assoc b dd de ∙ ap (λ (x : ℕ). b * x) (mul_comm dd de) in
    mul-one (mu * dd + nu * de) ∙ ap (λ (x : ℕ). x + nu * de) e1 ∙ ap (λ (x : ℕ). a * (de * dd) + x) e2 ∙ sym (add-mul a b (de * dd))

-- the sum of two whole floats that are not negative is the whole number's sum, rounded once
sum-of : (f : Format) (x y : Float) (a b : ℕ) → HasValue x false a 1 → HasValue y false b 1 → add f x y ≡ round f false (a + b) 1
unfolding add sum
sum-of f nan y a b v w = elim v [ ]
sum-of f (inf _) y a b v w = elim v [ ]
sum-of f (fin true m e) y a b v w = absurd (true≢false v.0)
sum-of f (fin false m e) nan a b v w = elim w [ ]
sum-of f (fin false m e) (inf _) a b v w = elim w [ ]
sum-of f (fin false m e) (fin true n d) a b v w = absurd (true≢false w.0)
sum-of f (fin false m e) (fin false n d) a b v w =
    round_same f false (m * up e * down d + n * up d * down e) (down e * down d) (a + b) 1 (mul-pos (down_pos e) (down_pos d)) (zero-lt-suc 0)
    (sums (m * up e) (down e) (n * up d) (down d) a b v.1 w.1)

add_whole : (a b : ℕ) → a ≤ 2 ^ 53 → b ≤ 2 ^ 53 → add binary64 (as_total a) (as_total b) ≡ as_total (a + b)
unfolding as_total of_int
add_whole a b h k = sum-of binary64 (as_total a) (as_total b) a b (value a h) (value b k)

-- the f64 sum of a lawful total and a whole number is the total of the sum, up to 2 ^ 53
pub add_exact : (x : Float) (q : ℕ) → T (fits binary64 x) → T (lawful_total x) → whole x + q ≤ 2 ^ 53 → add binary64 x (as_total q) ≡ as_total (whole x + q)
add_exact x q f t h = ap (λ (y : Float). add binary64 y (as_total q)) (sym (again x f t)) ∙ add_whole (whole x) q (whole_le x f t) (omega arith)

-- ---- the tests of the code
above_of : (x : Float) (n : ℕ) → HasValue x false n 1 → T (lt (fin true 1 (pos 0)) x)
unfolding lt
above_of nan n v = elim v [ ]
above_of (inf _) n v = elim v [ ]
above_of (fin true m e) n v = absurd (true≢false v.0)
above_of (fin false m e) n v = lt→ltb 0 (1 * 1 * down e + m * up e * 1) (more (down e) (m * up e * 1) (down_pos e))
  where
    more : (d k : ℕ) → 0 < d → 0 < 1 * 1 * d + k
    more d k h = omega arith

below_of : (x : Float) (n : ℕ) → n < 2 ^ 64 → HasValue x false n 1 → T (lt x (fin false 1 (pos 64)))
unfolding lt
below_of nan n h v = elim v [ ]
below_of (inf _) n h v = elim v [ ]
below_of (fin true m e) n h v = absurd (true≢false v.0)
below_of (fin false m e) n h v =
    lt→ltb (m * up e * 1) (1 * 2 ^ 64 * down e) (subst (λ (k : ℕ). k < 1 * 2 ^ 64 * down e) (sym v.1) (mul-lt-mul_of_pos_right h (down_pos e)))

-- a lawful total lies between the bounds that the code tests
module _ (x : Float) (f : T (fits binary64 x)) (t : T (lawful_total x)) where
  pub lawful-value : HasValue x false (whole x) 1
  lawful-value = subst (λ (y : Float). HasValue y false (whole x) 1) (again x f t) (value (whole x) (whole_le x f t))

  pub lawful-above : T (lt (fin true 1 (pos 0)) x)
  lawful-above = above_of x (whole x) lawful-value

  pub lawful-below : T (lt x (fin false 1 (pos 64)))
  lawful-below = below_of x (whole x) (small (whole x) (whole_le x f t)) lawful-value

no_nan : (x : Float) (n : ℕ) → HasValue x false n 1 → T (not (is_nan x))
unfolding is_nan
no_nan nan n v = elim v [ ]
no_nan (inf _) n v = elim v [ ]
no_nan (fin s m e) n v = tt

pub cast_no_nan : (n : ℕ) → n ≤ 2 ^ 53 → T (not (is_nan (as_total n)))
cast_no_nan n h = no_nan (as_total n) n (value n h)

pub above_no_nan : (x : Float) → T (lt (fin true 1 (pos 0)) x) → T (not (is_nan x))
unfolding lt is_nan
above_no_nan nan t = t
above_no_nan (inf s) t = tt
above_no_nan (fin s m e) t = tt

both_ways : (a b : Bool) → (T a → T b) → (T b → T a) → a ≡ b
both_ways true true f g = refl
both_ways true false f g = absurd (f tt)
both_ways false true f g = absurd (g tt)
both_ways false false f g = refl

-- what fails a test that each lawful total passes is not lawful
pub fails : (b : Bool) → (T b → ⊥) → false ≡ b
fails b h = both_ways false b (λ t. absurd t) (λ t. absurd (h t))

-- a float has the bits of its own number's cast exactly where it is lawful
pub same_bits : (x : Float) (n : ℕ) → T (fits binary64 x) → n ≡ to_unsigned 64 x → n ≤ 2 ^ 53 → eqb (to_bits binary64 (as_total n)) (to_bits binary64 x) ≡ lawful_total x
same_bits x n f q h = both_ways (eqb (to_bits binary64 (as_total n)) (to_bits binary64 x)) (lawful_total x) to from
  where
    to : T (eqb (to_bits binary64 (as_total n)) (to_bits binary64 x)) → T (lawful_total x)
    to t =
        let e : to_bits binary64 (as_total n) ≡ to_bits binary64 x = eqb→eq (to_bits binary64 (as_total n)) (to_bits binary64 x) t in
        let w : as_total n ≡ x = sym (of_bits-to_bits binary64 (as_total n) (total_fits n)) ∙ ap (of_bits binary64) e ∙ of_bits-to_bits binary64 x f in
        subst (λ (y : Float). T (lawful_total y)) w (total_lawful n h)

    from : T (lawful_total x) → T (eqb (to_bits binary64 (as_total n)) (to_bits binary64 x))
    from t =
        let w : as_total n ≡ x = ap as_total (q ∙ sym (whole-cast x t)) ∙ again x f t in
        subst (λ (y : Float). T (eqb (to_bits binary64 (as_total n)) (to_bits binary64 y))) w (eqb_refl (to_bits binary64 (as_total n)))

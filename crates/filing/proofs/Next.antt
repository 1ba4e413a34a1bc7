-- A number of a line: the digits that a text starts with, their number, and the byte that stands behind them. Assumes nothing.
use mathlib.Core.Path.{◌≡◌, refl, sym, ap, subst, ◌∙◌}
use mathlib.Core.Bool.{Bool, true, false, not}
use mathlib.Core.List.{List, [], ◌∷◌, ◌++◌, append-nil}
use Prim.Native.Nat.{ℕ, suc, ◌+◌, ◌-◌, ◌*◌, ◌<◌, ◌≤◌}
use native.Mathlib.Omega.{arith}
use lib.Dec.{ltb, eqb}
use lib.ListN.{length, take, drop, get_or, length-append, drop_of_length-le}
use borrow.Author.Tests.{ltb-false, lt-ltb, le-ltb, ne_eqb, eqb-true, eqb-false}
use Rattle.std.proofs.Common.{Option, Some, None, cond}
use Rattle.std.specs.Prelude.{unwrap_or}
use Rattle.std.specs.List.{position_or_len}
use Rattle.std.specs.Char.{is_ascii_digit}
use Rattle.std.proofs.lemmas.List.Sums.{prefix_len-le-length}
use Rattle.law.specs.Words.{pick}
use Rattle.law.specs.Digits.{line_feed, up_to, past, has, is_digit, all_digits, value_from, value, number_to}
use Rattle.law.proofs.Tests.{both_true, false_true}
use Rattle.law.proofs.Digits.{and_false, byte_at, digit_between, digits_before, stop_behind, none_behind, some_number, not_number, not_first}
use Rattle.filing.specs.Filing.{space, filed_limit}
use Rattle.filing.specs.Parts.{kept, DigitsFirst, NoNumber, Next}

-- ---- the digits, up to the first byte that is none
abbrev pub stops : ℕ → Bool
stops b = not (is_ascii_digit b)

digit_is : (b : ℕ) → is_ascii_digit b ≡ is_digit b
unfolding is_digit
digit_is b = refl

abbrev First : List ℕ → ℕ → Type 0
First s n = DigitsFirst s (take n s) (drop n s)

first_on : (b : ℕ) (s : List ℕ) (n : ℕ) (t : Bool) → is_digit b ≡ t → First s n → First (b ∷ s) (cond (not (not t)) (1 + n) 0)
unfolding all_digits
first_on b s n true e f =
    let more : First (b ∷ s) (suc n) = record { whole = ap (λ (r : List ℕ). b ∷ r) f.whole; each = rw e f.each; stopped = f.stopped } in
    let one : suc n ≡ 1 + n = omega arith in
    subst (First (b ∷ s)) one more
first_on b s n false e f = record { whole = refl; each = refl; stopped = e }

first_at : (s : List ℕ) → First s (position_or_len stops s)
unfolding is_digit all_digits
first_at [] = record { whole = refl; each = refl; stopped = refl }
first_at (b ∷ s) = first_on b s (position_or_len stops s) (is_ascii_digit b) (sym (digit_is b)) (first_at s)

end_is : (s : List ℕ) (n : ℕ) → n ≤ length s → (t : Bool) → ltb n (length s) ≡ t → unwrap_or (cond t (Some n) None) (length s) ≡ n
end_is s n l true e = refl
end_is s n l false e = omega (arith, ltb-false n (length s) e)

pub digits_are : (s a b : List ℕ) (r : Option ℕ) (end : ℕ) → r ≡ cond (ltb (position_or_len stops s) (length s)) (Some (position_or_len stops s)) None
    → end ≡ unwrap_or r (length s) → a ≡ take end s → b ≡ drop end s → DigitsFirst s a b
digits_are s a b r end e u p q =
    let n = position_or_len stops s in
    let m : end ≡ n = u ∙ ap (λ (o : Option ℕ). unwrap_or o (length s)) e ∙ end_is s n (prefix_len-le-length (λ x. not (stops x)) s) (ltb n (length s)) refl in
    rw (p, q, m) (first_at s)

-- ---- their number: digits make it no less
pub value_grows : (n : ℕ) (d : List ℕ) → n ≤ value_from n d
unfolding value_from
value_grows n [] = omega arith
value_grows n (b ∷ d) = omega (arith, value_grows (10 * n + (b - 48)) d)

pub kept_over : (n : ℕ) → filed_limit ≤ n → None ≡ kept n
unfolding kept pick
kept_over n l = rw (le-ltb n filed_limit l)

pub kept_is : (v n : ℕ) → v ≡ n → v < filed_limit → Some v ≡ kept n
unfolding kept pick
kept_is v n e l = rw (← e, lt-ltb v filed_limit l)

module _ (d : List ℕ) (i v : ℕ) (each : all_digits (drop i d) ≡ true) (left : value_from v (drop i d) ≡ value d) where
  -- no digit is left
  pub value_whole : length d ≤ i → v ≡ value d
  unfolding value_from
  value_whole l = sym (ap (value_from v) (drop_of_length-le d {i = i} l)) ∙ left

  module _ (l : i < length d) where
    abbrev b : ℕ
    b = get_or d i 0

    both : (is_digit b ≡ true) × (all_digits (drop (i + 1) d) ≡ true)
    unfolding all_digits
    both = both_true (is_digit b) (all_digits (drop (i + 1) d)) (sym (ap all_digits (byte_at d i l)) ∙ each)

    pub digit_here : (48 ≤ b) × (b ≤ 57)
    digit_here = digit_between b both.0

    pub digits_left : all_digits (drop (i + 1) d) ≡ true
    digits_left = both.1

    pub value_left : (n : ℕ) → n ≡ 10 * v + (b - 48) → value_from n (drop (i + 1) d) ≡ value d
    unfolding value_from
    value_left n e = ap (λ (k : ℕ). value_from k (drop (i + 1) d)) e ∙ sym (ap (value_from v) (byte_at d i l)) ∙ left

    pub value_over : filed_limit ≤ 10 * v + (b - 48) → None ≡ kept (value d)
    value_over h = kept_over (value d) (omega (arith, value_grows (10 * v + (b - 48)) (drop (i + 1) d), value_left _ refl))

pub length_none : (s : List ℕ) → length s ≡ 0 → s ≡ []
length_none [] e = refl
length_none (x ∷ s) e = absurd (omega arith)

-- ---- a number by the byte behind its digits
module _ (s d b : List ℕ) (f : DigitsFirst s d b) where
  pub next_at_end : length b ≡ 0 → NoNumber s
  unfolding number_to is_digit
  next_at_end e =
      let w : s ≡ d = f.whole ∙ ap (λ (r : List ℕ). d ++ r) (length_none b e) ∙ append-nil d in
      record {
        lined = rw (w, (none_behind line_feed refl d f.each).2);
        spaced = rw (w, (none_behind space refl d f.each).2);
      }

  pub next_without : length d ≡ 0 → NoNumber s
  unfolding number_to is_digit has
  next_without e = go b f.stopped (f.whole ∙ ap (λ (r : List ℕ). r ++ b) (length_none d e))
    where
      go : (r : List ℕ) → is_digit (get_or r 0 0) ≡ false → s ≡ r → NoNumber s
      go [] n w = record { lined = rw w; spaced = rw w }
      go (x ∷ u) n w = record { lined = rw (w, not_first line_feed x u n, and_false); spaced = rw (w, not_first space x u n, and_false) }

  module _ (x : ℕ) (u : List ℕ) (e : b ≡ x ∷ u) where
    whole : s ≡ d ++ (x ∷ u)
    whole = f.whole ∙ ap (λ (r : List ℕ). d ++ r) e

    none : is_digit x ≡ false
    none = sym (ap (λ (r : List ℕ). is_digit (get_or r 0 0)) e) ∙ f.stopped

    other : (stop : ℕ) → is_digit stop ≡ false → (x ≡ stop → ⊥) → number_to stop s ≡ false
    unfolding number_to up_to pick
    other stop n o =
        let z = (digits_before stop n d (x ∷ u) f.each).0 in
        rw (whole, z, ne_eqb x stop o, (not_number d x (up_to stop u) none).1, and_false)

    pub next_other : (x ≡ line_feed → ⊥) → (x ≡ space → ⊥) → NoNumber s
    unfolding is_digit
    next_other l o = record { lined = other line_feed refl l; spaced = other space refl o }

    module _ (o : length d ≡ 0 → ⊥) where
      shorter : length u + 2 ≤ length s
      shorter = omega (arith, ap length whole, length-append d (x ∷ u))

      -- what stands before its stop
      at_stop : (stop : ℕ) → is_digit stop ≡ false → x ≡ stop → (number_to stop s ≡ true) × (up_to stop s ≡ d) × (past stop s ≡ u)
      unfolding number_to
      at_stop stop n q =
          let w : s ≡ d ++ (stop ∷ u) = whole ∙ ap (λ (y : ℕ). d ++ (y ∷ u)) q in
          let z = stop_behind stop n d u f.each in
          (rw (w, z.0, z.2, some_number d f.each (omega arith)), ap (up_to stop) w ∙ z.0, ap (past stop) w ∙ z.1)

      next_last : x ≡ line_feed → (v : Option ℕ) → v ≡ kept (value d) → Next s v true u
      unfolding is_digit pick
      next_last q v k =
          let z = at_stop line_feed refl q in
          record {
            lined = z.0;
            spaced = λ h. absurd (false_true (sym h));
            is = k ∙ ap (λ (t : List ℕ). kept (value t)) (sym z.1);
            behind = sym z.2;
            line = λ h. absurd (false_true (sym h));
            shorter = shorter;
          }

      next_more : x ≡ space → (v : Option ℕ) → v ≡ kept (value d) → Next s v false u
      unfolding is_digit pick past
      next_more q v k =
          let z = at_stop space refl q in
          record {
            lined = other line_feed refl (λ h. omega arith);
            spaced = λ _. z.0;
            is = k ∙ ap (λ (t : List ℕ). kept (value t)) (sym z.1);
            behind = sym z.2;
            line = λ _. ap (past line_feed) whole ∙ (digits_before line_feed refl d (x ∷ u) f.each).1 ∙ rw q;
            shorter = shorter;
          }

      by_stop : (t : Bool) → eqb x line_feed ≡ t → ((x ≡ line_feed → ⊥) → x ≡ space) → (v : Option ℕ) → v ≡ kept (value d) → Next s v t u
      by_stop true e h v k = next_last (eqb-true x line_feed e) v k
      by_stop false e h v k = next_more (h (eqb-false x line_feed e)) v k

      pub next_one : ((x ≡ line_feed → ⊥) → x ≡ space) → (v : Option ℕ) → v ≡ kept (value d) → Next s v (eqb x line_feed) u
      next_one h v k = by_stop (eqb x line_feed) refl h v k

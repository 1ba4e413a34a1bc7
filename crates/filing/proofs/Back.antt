-- What `account` prints, rows and then totals, is read back as it was: the same cells, the same totals, and no refusal. Assumes nothing.
use mathlib.Core.Path.{◌≡◌, refl, sym, ap, ap₂, subst, ◌∙◌}
use mathlib.Core.Bool.{true, false}
use mathlib.Core.List.{List, [], ◌∷◌, ◌++◌, append_assoc, append-nil}
use Prim.Native.Nat.{ℕ, zero, suc, ◌+◌, ◌-◌, ◌<◌, ◌≤◌}
use native.Mathlib.Omega.{arith}
use lib.ListN.{length, length-append}
use borrow.Author.Tests.{lt-ltb, ne_eqb}
use Rattle.law.specs.Words.{need, pick}
use Rattle.law.specs.Digits.{line_feed, past, is_digit, all_digits}
use Rattle.law.proofs.Tests.{both_true}
use Rattle.law.proofs.Each.{Each, each_none, each_more}
use Rattle.law.proofs.Newest.{written}
use Rattle.text.specs.Numbers.{decimal, spaced}
use Rattle.text.specs.Line.{totals_line}
use Rattle.filing.specs.Filing.{space, total_word, starts_with, one_more, numbers_in, values_in, filed_limit, all_fit, is_row, totals_from, read_from, read_of}
use Rattle.filing.proofs.Numbering.{last_first, more_first}
use Rattle.filing.proofs.Decimals.{decimal-back, field_back, field-other}

-- so many numbers that a filing may have
pub record Filed (many : ℕ) (numbers : List ℕ) : Type 0 where
  pub long : length numbers ≡ many
  pub each : Each (λ n. n < filed_limit) numbers

fit_back : {ns : List ℕ} → Each (λ n. n < filed_limit) ns → all_fit ns ≡ true
unfolding all_fit
fit_back each_none = refl
fit_back (each_more {x} l ls) = rw (lt-ltb x filed_limit l, fit_back ls)

first_below : {n : ℕ} {ns : List ℕ} → Each (λ k. k < filed_limit) (n ∷ ns) → n < filed_limit
first_below (each_more l ls) = l

-- ---- a line
record LineBack (most : ℕ) (numbers rest s : List ℕ) : Type 0 where
  counts : numbers_in most s ≡ length numbers
  values : values_in most s ≡ numbers
  behind : past line_feed s ≡ rest

spaced-back : (n : ℕ) (ns : List ℕ) (more : ℕ) (rest : List ℕ) → Each (λ k. k < filed_limit) (n ∷ ns) → length ns ≤ more
    → LineBack (suc more) (n ∷ ns) rest (spaced (n ∷ ns) ++ rest)
unfolding spaced is_digit one_more
spaced-back n [] more rest (each_more l ls) h =
    let f = field_back line_feed refl n (omega arith) rest in
    let k = last_first more (decimal n ++ (line_feed ∷ rest)) f.formed in
    subst (LineBack (suc more) (n ∷ []) rest) (sym (append_assoc (decimal n) (line_feed ∷ []) rest))
    (record { counts = k.0; values = k.1 ∙ ap (λ (x : ℕ). x ∷ []) f.is; behind = f.behind })
spaced-back n (m ∷ ns) zero rest e h = absurd (omega arith)
spaced-back n (m ∷ ns) (suc more) rest (each_more l ls) h =
    let i = spaced-back m ns more rest ls (omega arith) in
    let u = spaced (m ∷ ns) ++ rest in
    let f = field_back space refl n (omega arith) u in
    let o = field-other space refl n (omega arith) u line_feed refl (λ q. omega arith) in
    let k = more_first (suc more) (decimal n ++ (space ∷ u)) o.0 f.formed in
    subst (LineBack (suc (suc more)) (n ∷ m ∷ ns) rest) (sym (append_assoc (decimal n) (space ∷ spaced (m ∷ ns)) rest))
    (record {
      counts = k.0 ∙ ap (λ (t : List ℕ). one_more (numbers_in (suc more) t)) f.behind ∙ ap one_more i.counts;
      values = k.1 ∙ ap₂ (λ (x : ℕ) (t : List ℕ). x ∷ values_in (suc more) t) f.is f.behind ∙ ap (λ (t : List ℕ). n ∷ t) i.values;
      behind = o.1 ∙ i.behind;
    })

-- a digit is not the first byte of the word of the totals
digit_first : (w : ℕ) (ws ds r : List ℕ) → is_digit w ≡ false → all_digits ds ≡ true → 0 < length ds → starts_with (w ∷ ws) (ds ++ r) ≡ false
unfolding starts_with all_digits
digit_first w ws [] r o e l = absurd (omega arith)
digit_first w ws (b ∷ ds) r o e l =
    let h = (both_true (is_digit b) (all_digits ds) e).0 in
    rw (ne_eqb b w (λ q. let z : ◌≡◌ {A = ℕ} 0 1 = cc in omega arith))

not_totals : (n : ℕ) (ns rest : List ℕ) → n < filed_limit → starts_with total_word (spaced (n ∷ ns) ++ rest) ≡ false
unfolding spaced is_digit
not_totals n ns rest l = go ns
  where
    by : (t : List ℕ) → starts_with total_word ((decimal n ++ t) ++ rest) ≡ false
    by t =
        let d = decimal-back n (omega arith) in
        ap (starts_with total_word) (append_assoc (decimal n) t rest) ∙ digit_first 116 _ (decimal n) (t ++ rest) refl d.each d.some

    go : (ms : List ℕ) → starts_with total_word (spaced (n ∷ ms) ++ rest) ≡ false
    go [] = by (line_feed ∷ [])
    go (m ∷ ms) = by (space ∷ spaced (m ∷ ms))

-- ---- a row, and the totals
row_back : (k line : ℕ) (cells row rest : List ℕ) → Filed 7 row → read_from (suc k) line cells (spaced row ++ rest) ≡ read_from k (suc line) (cells ++ row) rest
unfolding read_from pick need is_row
row_back k line cells [] rest p = absurd (omega arith)
row_back k line cells (n ∷ ns) rest p =
    let b = spaced-back n ns 6 rest p.each (omega arith) in
    rw (not_totals n ns rest (first_below p.each), b.counts ∙ p.long, b.values, fit_back p.each, b.behind)

totals_back : (k line : ℕ) (cells totals : List ℕ) → Filed 5 totals
    → read_from (suc k) line cells (totals_line totals) ≡ record { number = 0; line = 0; cells = cells; totals = totals }
unfolding read_from pick need totals_from totals_line starts_with
totals_back k line cells [] p = absurd (omega arith)
totals_back k line cells (n ∷ ns) p =
    let b = subst (LineBack 5 (n ∷ ns) []) (append-nil (spaced (n ∷ ns))) (spaced-back n ns 4 [] p.each (omega arith)) in
    rw (b.counts ∙ p.long, b.values, fit_back p.each, b.behind)

-- ---- the text: rows of which the newest stands first, and the totals
module _ {A : Type 0} (f : A → List ℕ) where
  abbrev pub text_of : List A → List ℕ
  text_of xs = written (λ x. spaced (f x)) xs

  rows_back : {xs : List A} → Each (λ x. Filed 7 (f x)) xs → (k line : ℕ) (cells rest : List ℕ)
      → read_from (length xs + k) line cells (text_of xs ++ rest) ≡ read_from k (length xs + line) (cells ++ written f xs) rest
  unfolding written
  rows_back each_none k line cells rest =
      let a : 0 + k ≡ k = omega arith in
      let b : line ≡ 0 + line = omega arith in
      rw (a, append-nil) (ap (λ (l : ℕ). read_from k l cells rest) b)
  rows_back (each_more {x} {xs} r rs) k line cells rest =
      let n : suc (length xs) + k ≡ length xs + suc k = omega arith in
      let l : suc (length xs + line) ≡ suc (length xs) + line = omega arith in
      ap₂ (λ (m : ℕ) (t : List ℕ). read_from m line cells t) n (append_assoc (text_of xs) (spaced (f x)) rest)
      ∙ rows_back rs (suc k) line cells (spaced (f x) ++ rest)
      ∙ row_back k (length xs + line) (cells ++ written f xs) (f x) rest r
      ∙ ap₂ (λ (m : ℕ) (c : List ℕ). read_from k m c rest) l (append_assoc cells (written f xs) (f x))

  -- a text has no fewer bytes than rows
  some_bytes : (ns : List ℕ) → 0 < length (spaced ns)
  unfolding spaced
  some_bytes [] = omega arith
  some_bytes (n ∷ []) = omega (arith, length-append (decimal n) (line_feed ∷ []))
  some_bytes (n ∷ m ∷ ns) = omega (arith, length-append (decimal n) (space ∷ spaced (m ∷ ns)))

  rows_few : (xs : List A) → length xs ≤ length (text_of xs)
  unfolding written
  rows_few [] = omega arith
  rows_few (x ∷ xs) = omega (arith, rows_few xs, length-append (text_of xs) (spaced (f x)), some_bytes (f x))

  pub read_back : (xs : List A) (totals : List ℕ) → Each (λ x. Filed 7 (f x)) xs → Filed 5 totals
      → read_of (text_of xs ++ totals_line totals) ≡ record { number = 0; line = 0; cells = written f xs; totals = totals }
  unfolding read_of totals_line
  read_back xs totals e t =
      let text = text_of xs ++ totals_line totals in
      let k = length text - length xs - 1 in
      let n : length text ≡ length xs + suc k = omega (arith, length-append (text_of xs) (totals_line totals), rows_few xs) in
      ap (λ (m : ℕ). read_from m 1 [] text) n ∙ rows_back e (suc k) 1 [] (totals_line totals) ∙ totals_back k (length xs + 1) (written f xs) totals t

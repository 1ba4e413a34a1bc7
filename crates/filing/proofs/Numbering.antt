-- The numbers of a line, read one by one: what the loop over them holds, and what a number adds to it. Assumes nothing.
use mathlib.Core.Path.{◌≡◌, refl, sym, ap, subst, ◌∙◌}
use mathlib.Core.Bool.{Bool, true, false, ◌&&◌}
use mathlib.Core.List.{List, [], ◌∷◌, ◌++◌, append_assoc, append-nil}
use Prim.Native.Nat.{ℕ, suc, ◌+◌, ◌-◌, ◌*◌, ◌<◌, ◌≤◌}
use native.Mathlib.Omega.{arith}
use lib.Dec.{ltb, eqb}
use lib.ListN.{length, length-append}
use borrow.Author.Tests.{eqb-false}
use Rattle.std.proofs.Common.{Option, Some, None}
use Rattle.std.specs.Prelude.{unwrap_or, is_some}
use Rattle.law.specs.Words.{need, pick}
use Rattle.law.specs.Digits.{line_feed, up_to, past, value, number_to}
use Rattle.law.proofs.Tests.{both_true, false_true}
use Rattle.filing.specs.Filing.{space, one_more, numbers_in, values_in, filed_limit, all_fit}
use Rattle.filing.specs.Parts.{kept, NoNumber, Next, Lined}

-- a line by its first number
module _ (m : ℕ) (s : List ℕ) where
  none_first : NoNumber s → numbers_in (suc m) s ≡ 0
  unfolding numbers_in pick need
  none_first n = rw (n.lined, n.spaced)

  pub last_first : number_to line_feed s ≡ true → (numbers_in (suc m) s ≡ 1) × (values_in (suc m) s ≡ value (up_to line_feed s) ∷ [])
  unfolding numbers_in values_in pick
  last_first l = rw l (refl, refl)

  pub more_first : number_to line_feed s ≡ false → number_to space s ≡ true
      → (numbers_in (suc m) s ≡ one_more (numbers_in m (past space s))) × (values_in (suc m) s ≡ value (up_to space s) ∷ values_in m (past space s))
  unfolding numbers_in values_in pick need
  more_first l f = rw (l, f) (refl, refl)

-- a number that is kept is in its range, and is the value
kept_fits : (x : ℕ) (t : Bool) → ltb x filed_limit ≡ t → is_some (pick t (Some x) None) ≡ t
unfolding pick
kept_fits x true e = refl
kept_fits x false e = refl

is_kept : (x : ℕ) (t : Bool) → is_some (pick t (Some x) None) ≡ true → unwrap_or (pick t (Some x) None) 0 ≡ x
unfolding pick
is_kept x true e = refl
is_kept x false e = absurd (false_true e)

and_on : (r s t u : Bool) → s ≡ u → (r && (u && t)) ≡ ((r && s) && t)
and_on true s t u e = ap (λ (b : Bool). b && t) (sym e)
and_on false s t u e = refl

and_true : (t : Bool) → (t && true) ≡ t
and_true true = refl
and_true false = refl

-- a buffer that is not full
pub not_full : (n most : ℕ) → false ≡ eqb n most → n ≤ most → n < most
not_full n most e l = let o = eqb-false n most (sym e) in omega arith

pub record Numbering (most : ℕ) (text numbers : List ℕ) (fits : Bool) (rest : List ℕ) : Type 0 where
  pub left : ℕ
  pub all : length numbers + left ≡ most
  pub shorter : length rest + 2 * length numbers ≤ length text
  pub none : numbers_in left rest ≡ 0 → numbers_in most text ≡ 0
  pub some : (k : ℕ) → numbers_in left rest ≡ suc k → numbers_in most text ≡ length numbers + suc k
  pub fit : all_fit (values_in most text) ≡ (fits && all_fit (values_in left rest))
  pub values : fits ≡ true → values_in most text ≡ numbers ++ values_in left rest
  pub behind : past line_feed text ≡ past line_feed rest

pub numbering_start : (most : ℕ) (text numbers : List ℕ) → numbers ≡ [] → Numbering most text numbers true text
numbering_start most text numbers e =
    rw e
    (record {
      left = most;
      all = omega arith;
      shorter = omega arith;
      none = λ h. h;
      some = λ k h. omega arith;
      fit = refl;
      values = λ _. refl;
      behind = refl;
    })

module _ (most : ℕ) (text numbers : List ℕ) (fits : Bool) (rest : List ℕ) (p : Numbering most text numbers fits rest) where
  pub too_many : most ≤ length numbers → numbers_in most text ≡ 0
  unfolding numbers_in
  too_many l =
      let z : p.left ≡ 0 = omega (arith, p.all) in
      p.none (ap (λ (k : ℕ). numbers_in k rest) z)

  module _ (l : length numbers < most) where
    abbrev m : ℕ
    m = p.left - 1

    one : p.left ≡ suc m
    one = omega (arith, p.all)

    pub malformed : NoNumber rest → numbers_in most text ≡ 0
    malformed n = p.none (ap (λ (k : ℕ). numbers_in k rest) one ∙ none_first m rest n)

    module _ (v : Option ℕ) (last : Bool) (behind : List ℕ) (n : Next rest v last behind) (y : ℕ) (is : y ≡ unwrap_or v 0) (g : Bool) (fit : g ≡ is_some v)
        (more : List ℕ) (e : more ≡ numbers ++ (y ∷ [])) where
      -- what is left, by its first number
      left_values : (r : List ℕ) → values_in (suc m) rest ≡ r → values_in p.left rest ≡ r
      left_values r h = ap (λ (k : ℕ). values_in k rest) one ∙ h

      left_numbers : (r : ℕ) → numbers_in (suc m) rest ≡ r → numbers_in p.left rest ≡ r
      left_numbers r h = ap (λ (k : ℕ). numbers_in k rest) one ∙ h

      long : length more ≡ length numbers + 1
      long = ap length e ∙ length-append numbers (y ∷ [])

      -- one number more, of a value that is kept
      module _ (x : ℕ) (r : List ℕ) (k : v ≡ kept x) (h : values_in (suc m) rest ≡ x ∷ r) where
        fit_on : all_fit (values_in most text) ≡ ((fits && g) && all_fit r)
        unfolding all_fit kept
        fit_on =
            p.fit ∙ ap (λ (t : List ℕ). fits && all_fit t) (left_values (x ∷ r) h)
            ∙ and_on fits g (all_fit r) (ltb x filed_limit) (fit ∙ ap is_some k ∙ kept_fits x (ltb x filed_limit) refl)

        values_on : (fits && g) ≡ true → values_in most text ≡ more ++ r
        unfolding kept
        values_on q =
            let b = both_true fits g q in
            let first : y ≡ x = is ∙ ap (λ (o : Option ℕ). unwrap_or o 0) k ∙ is_kept x (ltb x filed_limit) (ap is_some (sym k) ∙ sym fit ∙ b.1) in
            p.values b.0 ∙ ap (λ (t : List ℕ). numbers ++ t) (left_values (y ∷ r) (h ∙ ap (λ (z : ℕ). z ∷ r) (sym first)))
            ∙ sym (append_assoc numbers (y ∷ []) r) ∙ ap (λ (t : List ℕ). t ++ r) (sym e)

      pub last_lined : last ≡ true → Lined most text more (fits && g) behind
      unfolding pick all_fit
      last_lined t =
          let z = subst (λ (b : Bool). Next rest v b behind) t n in
          let h = last_first m rest z.lined in
          record {
            counts = long ∙ sym (p.some 0 (left_numbers 1 h.0));
            some = omega (arith, long);
            fit = sym (fit_on (value (up_to line_feed rest)) [] z.is h.1 ∙ and_true _);
            values = λ q. sym (values_on (value (up_to line_feed rest)) [] z.is h.1 q ∙ append-nil _);
            behind = z.behind ∙ sym p.behind;
            shorter = omega (arith, long, z.shorter, p.shorter);
          }

      pub numbering_on : last ≡ false → Numbering most text more (fits && g) behind
      unfolding pick one_more
      numbering_on t =
          let z = subst (λ (b : Bool). Next rest v b behind) t n in
          let h = more_first m rest z.lined (z.spaced refl) in
          let numbers_left : numbers_in p.left rest ≡ one_more (numbers_in m behind) =
          left_numbers _ h.0 ∙ ap (λ (r : List ℕ). one_more (numbers_in m r)) (sym z.behind) in
          let values_left : values_in (suc m) rest ≡ value (up_to space rest) ∷ values_in m behind =
          h.1 ∙ ap (λ (r : List ℕ). value (up_to space rest) ∷ values_in m r) (sym z.behind) in
          record {
            left = m;
            all = omega (arith, p.all, long);
            shorter = omega (arith, long, z.shorter, p.shorter);
            none = λ q. p.none (numbers_left ∙ ap one_more q);
            some = λ k q. p.some (suc k) (numbers_left ∙ ap one_more q) ∙ (let s : length numbers + suc (suc k) ≡ length more + suc k = omega (arith, long) in s);
            fit = fit_on (value (up_to space rest)) (values_in m behind) z.is values_left;
            values = values_on (value (up_to space rest)) (values_in m behind) z.is values_left;
            behind = p.behind ∙ z.line refl;
          }

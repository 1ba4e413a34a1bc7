-- A text from the start of the buffer: what is written is what the definition gives. Assumes nothing.
use mathlib.Core.Path.{◌≡◌, refl, sym, ap, ap₂, ◌∙◌, subst}
use mathlib.Core.Bool.{Bool, true, false}
use mathlib.Core.List.{List, [], ◌++◌}
use Prim.Native.Nat.{ℕ, ◌*◌, ◌<◌, ◌≤◌}
use native.Mathlib.Omega.{arith}
use lib.ListN.{length, drop, length-append, take-append-drop}
use lib.Dec.{leb}
use Rattle.law.specs.Words.{need}
use Rattle.law.proofs.Tests.{need_le, need_not_le, need_case}
use Rattle.law.specs.Written.{Wrote}
use Rattle.rules.specs.declared.Refused.{Refused as Refusing}
use Rattle.rules.specs.Refusals.{number_of, fault_in}
use Rattle.rules.specs.Judge.{refuse}
use Rattle.text.specs.declared.Said.{Said}
use Rattle.text.specs.declared.Said.TheVariants.{Refused}
use Rattle.text.specs.Line.{refused_line, said_line}
use Rattle.text.specs.Text.{Text, stated_text, stated_lines}

-- ---- a text from the start of the buffer
pub text_is : (bytes old new : List ℕ) (r : ℕ) → 8_192 ≤ length old → Wrote old 0 bytes new r → Text bytes old new r
text_is bytes old new r l p =
    let n : r ≡ length bytes = omega (arith, p.ends) in
    record {
      counts = need_le 0 (length bytes) r 8_192 (length old) l n;
      says =
          need_le old (bytes ++ drop (length bytes) old) new 8_192 (length old) l
          (sym (take-append-drop r new) ∙ ap₂ (λ (a b : List ℕ). a ++ b) p.says (p.keeps ∙ ap (λ (k : ℕ). drop k old) n));
    }

pub text_short : (bytes old : List ℕ) → length old < 8_192 → Text bytes old old 0
text_short bytes old l = record { counts = need_not_le 0 (length bytes) 8_192 (length old) l; says = need_not_le old (bytes ++ drop (length bytes) old) 8_192 (length old) l }

-- a text by other words for its bytes
pub text_as : (xs ys old new : List ℕ) (r : ℕ) → xs ≡ ys → Text xs old new r → Text ys old new r
text_as xs ys old new r e t = subst (λ (bytes : List ℕ). Text bytes old new r) e t

-- no bytes: the buffer as it is
pub text_none : (bytes old : List ℕ) → [] ≡ bytes → Text bytes old old 0
text_none bytes old e =
    let fits = leb 8_192 (length old) in
    subst (λ (t : List ℕ). Text t old old 0) e
    (record {
      counts = need_case (λ (k : ℕ). 0 ≡ k) 0 fits 0 (λ h. refl) (λ h. refl);
      says = need_case (λ (t : List ℕ). old ≡ t) old fits old (λ h. refl) (λ h. refl);
    })

-- the bytes counted stand in the buffer
pub text_within : (bytes old new : List ℕ) (r : ℕ) → Text bytes old new r → r ≤ length new
unfolding need
text_within bytes old new r t = within_by (leb 8_192 (length old)) t.counts t.says
  where
    within_by : (fits : Bool) → r ≡ need 0 fits (length bytes) → new ≡ need old fits (bytes ++ drop (length bytes) old) → r ≤ length new
    within_by true c s = omega (arith, c, ap length s, length-append bytes (drop (length bytes) old))
    within_by false c s = omega (arith, c)

-- a text by other words for its bytes, which stand in the buffer
pub text_of : (xs ys old new : List ℕ) (r : ℕ) → xs ≡ ys → Text xs old new r → Text ys old new r × (r ≤ length new)
text_of xs ys old new r e t = (text_as xs ys old new r e t, text_within xs old new r t)

-- ---- rows that are not there have no text
module _ (rows : List ℕ) (n : ℕ) (totals : List ℕ) where
  pub too_many : 48 < n → [] ≡ stated_lines rows n totals
  unfolding stated_lines
  too_many l = need_not_le [] _ n 48 l

  pub not_there : n ≤ 48 → length rows < 7 * n → [] ≡ stated_lines rows n totals
  unfolding stated_lines
  not_there m l = need_le [] _ [] n 48 m (need_not_le [] _ (7 * n) (length rows) l)

  pub all_there : n ≤ 48 → 7 * n ≤ length rows → stated_text rows n totals ≡ stated_lines rows n totals
  unfolding stated_lines
  all_there m l = need_le [] _ _ n 48 m (need_le [] _ _ (7 * n) (length rows) l refl)

-- ---- a refusal is said by its number and place
pub said_of : (f : Refusing) (s : Said) → s ≡ Refused (number_of f.refusal) f.place → said_line s ≡ refused_line (fault_in f)
unfolding said_line refuse fault_in
said_of f s e = ap said_line e

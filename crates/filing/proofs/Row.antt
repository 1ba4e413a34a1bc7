-- A row by its line: what refuses it, and what it has. Assumes nothing.
use mathlib.Core.Path.{◌≡◌, sym, ap, ◌∙◌}
use mathlib.Core.Bool.{Bool, true, false, ◌||◌}
use mathlib.Core.List.{List}
use Prim.Native.Nat.{ℕ}
use native.Mathlib.Omega.{arith}
use lib.Dec.{eqb}
use lib.ListN.{length}
use borrow.Author.Tests.{le-leb}
use Rattle.std.proofs.Common.{Option, Some, None, Result, Ok, Err}
use Rattle.std.specs.Result.{IsErrAnd}
use Rattle.std.specs.Prelude.{ok_or}
use Rattle.law.specs.Words.{need}
use Rattle.rules.specs.declared.Refusal.TheVariants.{BadLine, OutOfRange}
use Rattle.filing.specs.Filing.{total_word, starts_with, numbers_in, is_row}
use Rattle.filing.specs.Parts.{Lined, RowTaken, RowRefused}

-- a result that is this error
pub err_is : {T E : Type 0} (r : Result T E) (f : E) → IsErrAnd r (λ e. e ≡ f) → r ≡ Err f
err_is (Ok x) f h = absurd h
err_is (Err e) f h = ap Err h

-- the error that stands for what an option has not
pub none_is : {T S E : Type 0} (r : Result T E) (o : Option S) (f e : E) → IsErrAnd r (λ x. x ≡ f) → Err f ≡ ok_or o e → o ≡ None → r ≡ Err e
none_is r None f e h v n = let s : f ≡ e = cc in err_is r f h ∙ ap Err s
none_is r (Some x) f e h v n = absurd (cc)

no_row : (text : List ℕ) → is_row text ≡ false → RowRefused text BadLine
unfolding need
no_row text e = rw e

pub no_numbers : (text : List ℕ) → numbers_in 7 text ≡ 0 → RowRefused text BadLine
unfolding is_row
no_numbers text e = no_row text (rw e)

module _ (text numbers : List ℕ) (fits : Bool) (rest : List ℕ) (l : Lined 7 text numbers fits rest) (t : Bool)
    (is : t ≡ (eqb (length numbers) 7 || starts_with total_word rest))
  where
    row_is : t ≡ is_row text
    unfolding is_row
    row_is =
        is ∙ rw (sym l.counts, le-leb 1 (length numbers) (omega (arith, l.some))) (ap (λ (s : List ℕ). eqb (length numbers) 7 || starts_with total_word s) l.behind)

    pub not_row : t ≡ false → RowRefused text BadLine
    not_row f = no_row text (sym row_is ∙ f)

    pub not_in_range : t ≡ true → fits ≡ false → RowRefused text OutOfRange
    unfolding need
    not_in_range h f = rw (sym row_is ∙ h, sym l.fit ∙ f)

    pub row_taken : t ≡ true → fits ≡ true → RowTaken text numbers rest
    row_taken h f =
        record {
          row = sym row_is ∙ h;
          fit = sym l.fit ∙ f;
          values = l.values f;
          some = l.some;
          behind = l.behind;
          shorter = l.shorter;
        }

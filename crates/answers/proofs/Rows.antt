-- The rows of lines, seven cells each, those of the oldest line first. Assumes nothing.
use mathlib.Core.Path.{◌≡◌, refl, sym, ap, ◌∙◌}
use mathlib.Core.List.{List, [], ◌∷◌, ◌++◌}
use Prim.Native.Nat.{ℕ, ◌+◌, ◌-◌, ◌*◌, ◌<◌}
use native.Mathlib.Omega.{arith}
use lib.ListN.{length, take, drop, get_or}
use lib.Seq.{get_or-take, get_or-drop}
use Rattle.law.proofs.Newest.{written, written-long, block_behind, block_at}
use Rattle.rules.specs.Outfalls.{Line, OfStack, OfOutfall}
use Rattle.rules.specs.Grams.{grams_of}
use Rattle.rules.specs.Row.{stack_row, outfall_row, row_of, rows_of}

pub row-long : (x : Line) → length (row_of x) ≡ 7
unfolding row_of stack_row outfall_row
row-long (OfStack x) = refl
row-long (OfOutfall x) = refl

pub rows_written : (lines : List Line) → rows_of lines ≡ written row_of lines
unfolding rows_of written
rows_written [] = refl
rows_written (x ∷ xs) = ap (λ (cells : List ℕ). cells ++ row_of x) (rows_written xs)

pub rows_long : (lines : List Line) → length (rows_of lines) ≡ 7 * length lines
rows_long lines = ap length (rows_written lines) ∙ written-long row_of 7 row-long lines

-- the row behind the rows of the lines before
pub row-behind : (xs : List Line) (x : Line) (rest : List ℕ) → take 7 (drop (7 * length xs) (rows_of xs ++ row_of x ++ rest)) ≡ row_of x
row-behind xs x rest = ap (λ (cells : List ℕ). take 7 (drop (7 * length xs) (cells ++ row_of x ++ rest))) (rows_written xs) ∙ block_behind row_of 7 row-long xs x rest

-- row i is that of the i-th line in file order
pub row-of : (d : Line) (lines : List Line) (rest : List ℕ) (i : ℕ) → i < length lines → take 7 (drop (7 * i) (rows_of lines ++ rest)) ≡ row_of (get_or lines (length lines - 1 - i) d)
row-of d lines rest i l = ap (λ (cells : List ℕ). take 7 (drop (7 * i) (cells ++ rest))) (rows_written lines) ∙ block_at row_of 7 row-long d lines rest i l

-- the fourth cell of a row is the line's grams
fourth_in : (x : Line) → get_or (row_of x) 3 0 ≡ grams_of x
unfolding row_of stack_row outfall_row grams_of
fourth_in (OfStack x) = refl
fourth_in (OfOutfall x) = refl

pub fourth : (rows : List ℕ) (i : ℕ) (x : Line) → take 7 (drop (7 * i) rows) ≡ row_of x → get_or rows (7 * i + 3) 0 ≡ grams_of x
fourth rows i x e =
    sym (get_or-drop (7 * i) rows 3 0) ∙ sym (get_or-take 7 (drop (7 * i) rows) 3 0 (omega arith)) ∙ ap (λ (row : List ℕ). get_or row 3 0) e ∙ fourth_in x

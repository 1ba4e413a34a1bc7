-- Rows written one behind the other. Assumes nothing.
use mathlib.Core.Path.{◌≡◌, refl, sym, ap, ◌∙◌}
use mathlib.Core.List.{List, ◌∷◌, ◌++◌, append_assoc, append-nil}
use Prim.Native.Nat.{ℕ, zero, suc, ◌+◌, ◌*◌, ◌/◌, ◌≤◌}
use native.Mathlib.Omega.{arith}
use lib.ListN.{length, take, drop, length-append, length-take}
use lib.Seq.{drop-drop}
use Rattle.std.specs.Prelude.{flat_map}
use Rattle.std.specs.Simd.{first_chunks}
use Rattle.text.specs.Numbers.{spaced}
use Rattle.text.proofs.Spaced.{spaced-most}
use Rattle.text.specs.Text.{rows_text}
use Rattle.law.specs.Written.{Wrote}
use Rattle.law.proofs.Wrote.{wrote_as}

-- the first n of a slice's rows are those of its first n
first_rows : (n m : ℕ) (cells : List ℕ) → n ≤ m → take n (first_chunks 7 m cells) ≡ first_chunks 7 n cells
first_rows zero m cells l = refl
first_rows (suc n) zero cells l = absurd (omega arith)
first_rows (suc n) (suc m) cells l = ap (λ (rows : List (List ℕ)). take 7 cells ∷ rows) (first_rows n m (drop 7 cells) (omega arith))

-- the last of them
last_row : (n : ℕ) (cells : List ℕ) → flat_map spaced (first_chunks 7 (suc n) cells) ≡ flat_map spaced (first_chunks 7 n cells) ++ spaced (take 7 (drop (7 * n) cells))
last_row zero cells = append-nil (spaced (take 7 cells))
last_row (suc n) cells =
    let e : 7 + 7 * n ≡ 7 * suc n = omega arith in
    let next = flat_map spaced (first_chunks 7 n (drop 7 cells)) in
    ap (λ (t : List ℕ). spaced (take 7 cells) ++ t) (last_row n (drop 7 cells))
    ∙ sym (append_assoc (spaced (take 7 cells)) next (spaced (take 7 (drop (7 * n) (drop 7 cells)))))
    ∙ ap (λ (c : List ℕ). (spaced (take 7 cells) ++ next) ++ spaced (take 7 c)) (drop-drop (7 * n) 7 cells ∙ ap (λ (k : ℕ). drop k cells) e)

rows_by : (n : ℕ) (cells : List ℕ) → flat_map spaced (first_chunks 7 n cells) ≡ rows_text cells n
unfolding rows_text
rows_by zero cells = refl
rows_by (suc n) cells = last_row n cells ∙ ap (λ (t : List ℕ). t ++ spaced (take 7 (drop (7 * n) cells))) (rows_by n cells)

-- 21 bytes for each of seven numbers and one more
pub rows_most : (rows : List ℕ) (n : ℕ) → length (rows_text rows n) ≤ 148 * n
unfolding rows_text
rows_most rows zero = omega arith
rows_most rows (suc n) =
    let cells = take 7 (drop (7 * n) rows) in
    omega (arith, length-append (rows_text rows n) (spaced cells), rows_most rows n, spaced-most cells, length-take 7 (drop (7 * n) rows))

-- so that the texts of a slice's first rows are these, and of at most 48 rows end here
module _ (old cells text : List ℕ) (chunks : List (List ℕ)) (n end : ℕ) (e : chunks ≡ first_chunks 7 (length cells / 7) cells) (w : Wrote old 0 (flat_map spaced (take n chunks)) text end) where
  pub rows_wrote : 7 * n ≤ length cells → Wrote old 0 (rows_text cells n) text end
  rows_wrote l =
      wrote_as old text _ _ 0 end
      (ap (λ (rows : List (List ℕ)). flat_map spaced (take n rows)) e ∙ ap (flat_map spaced) (first_rows n (length cells / 7) cells (omega (arith, l))) ∙ rows_by n cells) w

  pub rows_end : 7 * n ≤ length cells → n ≤ 48 → end ≤ 7_104
  rows_end l f = omega (arith, f, (rows_wrote l).ends, rows_most cells n)

-- one row ends at most 148 bytes further on
pub row_ends : (row old new : List ℕ) (from to : ℕ) → length row ≡ 7 → Wrote old from (spaced row) new to → to ≤ from + 148
row_ends row old new from to l w = omega (arith, w.ends, spaced-most row, l)

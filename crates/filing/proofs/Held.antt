-- The lent cells, of which the first hold the rows as far as there is room: a row put behind them. Assumes nothing.
use mathlib.Core.Path.{◌≡◌, sym, ap, ap₂, ◌∙◌}
use mathlib.Core.List.{List, [], ◌∷◌, ◌++◌, append-nil}
use Prim.Native.Nat.{ℕ, suc, ◌-◌, ◌≤◌, min}
use native.Mathlib.Omega.{arith}
use native.Mathlib.Decide.{dec_le}
use lib.ListN.{length, take, drop, get_or, length-append, length-take, length-drop, drop_of_length-le}
use lib.Seq.{take_all, take-nil, drop-nil, get_or-take, length-take-le}
use Rattle.law.specs.Words.{table, over}
use Rattle.law.proofs.Tabled.{table_is}
use Rattle.law.proofs.Over.{part-back}
use Rattle.filing.specs.Parts.{held}

pub held_none : (rows : List ℕ) → held rows [] ≡ rows
held_none rows = ap (λ (t : List ℕ). t ++ rows) (take-nil (length rows))

no_room : (cells : List ℕ) → held [] cells ≡ []
no_room cells = drop-nil (length cells)

pub held-length : (rows cells : List ℕ) → length (held rows cells) ≡ length rows
held-length rows cells = simp (length-append, length-take, length-drop) (omega arith)

-- cells behind those that are held
pub held_on : (rows cells more : List ℕ)
    → take (length cells) (held rows cells) ++ held (drop (length cells) (held rows cells)) more ≡ held rows (cells ++ more)
held_on rows [] more = ap (λ (t : List ℕ). held t more) (held_none rows)
held_on [] (c ∷ cells) more =
    let n = suc (length cells) in
    ap (λ (t : List ℕ). take n t ++ held (drop n t) more) (no_room (c ∷ cells)) ∙ no_room more ∙ sym (no_room (c ∷ cells ++ more))
held_on (r ∷ rows) (c ∷ cells) more = ap (λ (t : List ℕ). c ∷ t) (held_on rows cells more)

-- no room is left
pub put_none : (rows row : List ℕ) (count : ℕ) → length rows ≤ count → rows ≡ take count rows ++ held (drop count rows) row
put_none rows row count l =
    sym
    (ap₂ (λ (t u : List ℕ). t ++ held u row) (take_all count rows l) (drop_of_length-le rows {i = count} l)
    ∙ ap (λ (t : List ℕ). rows ++ t) (no_room row) ∙ append-nil rows)

-- the figures in the first cells, as many as there are of both
front : (row : List ℕ) (m : ℕ) → m ≤ length row → table (λ k. get_or row k 0) m ≡ take m row
front row m l = sym (table_is (λ k. get_or row k 0) m 0 (take m row) (length-take-le m row l) (λ k h. get_or-take m row k 0 h))

figures-held : (row d : List ℕ) → over (λ k. get_or row k 0) (min (length row) (length d)) d ≡ held d row
figures-held row d = ap (λ (t : List ℕ). t ++ drop (min (length row) (length d)) d) (front row _ (omega arith)) ∙ go (dec_le (length row) (length d))
  where
    go : Dec (length row ≤ length d) → take (min (length row) (length d)) row ++ drop (min (length row) (length d)) d ≡ held d row
    go (yes l) =
        let m : min (length row) (length d) ≡ length row = omega arith in
        rw m (ap (λ (t : List ℕ). t ++ drop (length row) d) (take_all (length row) row (omega arith) ∙ sym (take_all (length d) row l)))
    go (no l) =
        let m : min (length row) (length d) ≡ length d = omega arith in
        let none : drop (length d) d ≡ drop (length row) d =
        drop_of_length-le d {i = length d} (omega arith) ∙ sym (drop_of_length-le d {i = length row} (omega arith)) in
        rw m (ap (λ (t : List ℕ). take (length d) row ++ t) none)

pub put_some : (rows row ys : List ℕ) (count : ℕ)
    → ys ≡ over (λ k. get_or row k 0) (min (length row) (length (take (length rows - count) (drop count rows)))) (take (length rows - count) (drop count rows))
    → take count rows ++ (ys ++ drop (length rows - count) (drop count rows)) ≡ take count rows ++ held (drop count rows) row
put_some rows row ys count e =
    let long : length (take (length rows - count) (drop count rows)) ≡ length (drop count rows) = simp (length-take, length-drop) (omega arith) in
    part-back (λ k. get_or row k 0) rows ys count _ e
    ∙ ap (λ (n : ℕ). take count rows ++ over (λ k. get_or row k 0) (min (length row) n) (drop count rows)) long
    ∙ ap (λ (t : List ℕ). take count rows ++ t) (figures-held row (drop count rows))

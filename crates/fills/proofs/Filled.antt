-- What the fills leave in a slice is what the rule says of every hour, and nothing behind the hours is touched. Assumes nothing.
use mathlib.Core.Path.{◌≡◌, refl, ◌∙◌, sym, ap}
use mathlib.Core.Bool.{Bool, true, false}
use mathlib.Core.List.{List, [], reverse}
use Prim.Native.Nat.{ℕ, ◌+◌, ◌<◌}
use native.Mathlib.Omega.{arith}
use lib.ListN.{length, get_or, take, drop, get_or-append}
use lib.Seq.{take_at}
use lib.Dec.{eqb}
use borrow.Author.Tests.{eqb-true, eqb-false}
use Rattle.law.specs.Words.{table}
use Rattle.law.proofs.Tests.{pick_eq, pick_not_eq}
use Rattle.law.proofs.Over.{over_back}
use Rattle.law.proofs.Tabled.{table_length, table_at, table_is}
use Rattle.rules.specs.Slots.{Slot, missing, stopped, entry, entries}
use Rattle.rules.specs.Fill.{fill, mean_up, same}
use Rattle.fills.specs.Gaps.{slot_at, row, fill_at, cell_at, filled_cells}
use Rattle.rules.proofs.Slots.{entries_length, line_at}
use Rattle.fills.proofs.States.{row-length, slot_valid, slot_missing, slot_stopped}

module _ (states values : List ℕ) where
  abbrev n : ℕ
  n = length states

  pub filled_at : (h : ℕ) → h < length states → get_or (filled_cells states values) h 0 ≡ cell_at states values h
  unfolding filled_cells
  filled_at h l =
      get_or-append (table (cell_at states values) n) (drop n values) 0 h (let m : h < length (table (cell_at states values) n) = omega (arith, table_length (cell_at states values) n) in m)
      ∙ table_at (cell_at states values) n h 0 l

  -- cells behind the hours stay
  pub filled-rest : drop (length states) (filled_cells states values) ≡ drop (length states) values
  unfolding filled_cells
  filled-rest = over_back (cell_at states values) n values

  -- the cell of an hour is its entry, and a stopped hour's cell is nothing
  module _ (still : (h : ℕ) → h < length states → slot_at states values h ≡ stopped → get_or values h 0 ≡ 0) where
    module _ (h : ℕ) (l : h < length states) (before after : List (Slot ℕ)) (e : fill_at (row states values) h ≡ entry (λ v. v) (fill mean_up same) 0 before missing after) where
      cell_by : (t u : Bool) → eqb (get_or states h 0) 2 ≡ t → eqb (get_or states h 0) 1 ≡ u
          → cell_at states values h ≡ entry (λ v. v) (fill mean_up same) 0 before (slot_at states values h) after
      unfolding cell_at entry
      cell_by true u p q =
          let s = eqb-true (get_or states h 0) 2 p in
          sym (pick_not_eq _ _ _ _ _ (λ (f : get_or states h 0 ≡ 1). omega arith) refl)
          ∙ ap (λ (x : Slot ℕ). entry (λ v. v) (fill mean_up same) 0 before x after) (sym (slot_valid states values h s))
      cell_by false true p q =
          let s = eqb-true (get_or states h 0) 1 q in
          sym (pick_eq _ _ _ _ _ s (sym e))
          ∙ ap (λ (x : Slot ℕ). entry (λ v. v) (fill mean_up same) 0 before x after) (sym (slot_missing states values h s))
      cell_by false false p q =
          let s = slot_stopped states values h (eqb-false (get_or states h 0) 2 p) (eqb-false (get_or states h 0) 1 q) in
          sym (pick_not_eq _ _ _ _ _ (eqb-false (get_or states h 0) 1 q) (sym (still h l s)))
          ∙ ap (λ (x : Slot ℕ). entry (λ v. v) (fill mean_up same) 0 before x after) (sym s)

    entry_cell : (h : ℕ) → h < length states → get_or (entries (λ v. v) (fill mean_up same) 0 [] (row states values)) h 0 ≡ cell_at states values h
    unfolding fill_at
    entry_cell h l =
        let slots = row states values in
        line_at (λ v. v) (fill mean_up same) 0 slots h 0 (omega (arith, row-length states values))
        ∙ ap (λ (x : Slot ℕ). entry (λ v. v) (fill mean_up same) 0 (reverse (take h slots)) x (drop (h + 1) slots)) (table_at (slot_at states values) n h stopped l)
        ∙ sym (cell_by h l (reverse (take h slots)) (drop (h + 1) slots) refl (eqb (get_or states h 0) 2) (eqb (get_or states h 0) 1) refl refl)

    pub filled-line : take (length states) (filled_cells states values) ≡ entries (λ v. v) (fill mean_up same) 0 [] (row states values)
    unfolding filled_cells
    filled-line =
        let size : length (table (cell_at states values) n) ≡ n = table_length (cell_at states values) n in
        take_at (table (cell_at states values) n) (drop n values) n size
        ∙ sym (table_is (cell_at states values) n 0 _ (entries_length (λ v. v) (fill mean_up same) 0 [] (row states values) ∙ row-length states values) (λ h l. entry_cell h l))

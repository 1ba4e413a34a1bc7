-- "A gap's fill is written only into that gap's hours": what a work slice holds after its gaps are filled.
use Rattle.std.specs.Prelude.{ℕ, ◌+◌, List, reverse, length, get_or, take, drop, eqb}
use Rattle.law.specs.Words.{pick, table, over}
use Rattle.rules.specs.Slots.{Slot, valid, missing, stopped, entry}
use Rattle.rules.specs.Fill.{fill, mean_up, same}

-- hour h by its state (2 measured, 1 missing, any other stopped) and its value
unfoldable pub slot_at : List ℕ → List ℕ → ℕ → Slot ℕ
slot_at states values h = pick (eqb (get_or states h 0) 2) (valid (get_or values h 0)) (pick (eqb (get_or states h 0) 1) missing stopped)

-- all hours in a row
abbrev pub row : List ℕ → List ℕ → List (Slot ℕ)
row states values = table (slot_at states values) (length states)

-- the fill of hour h, a missing one: the rule looks both ways from it, nearest first
unfoldable pub fill_at : List (Slot ℕ) → ℕ → ℕ
fill_at slots h = entry (λ v. v) (fill mean_up same) 0 (reverse (take h slots)) missing (drop (h + 1) slots)

-- a missing hour holds its fill, and any other what it held
unfoldable pub cell_at : List ℕ → List ℕ → ℕ → ℕ
cell_at states values h = pick (eqb (get_or states h 0) 1) (fill_at (row states values) h) (get_or values h 0)

-- the slice after its gaps are filled, where each hour has its cell
unfoldable pub filled_cells : List ℕ → List ℕ → List ℕ
filled_cells states values = over (cell_at states values) (length states) values

-- The file of the program's example: what is printed, the row, and the cells with the fill, computed from the definitions alone.
use Rattle.std.specs.Prelude.{List, [], ◌∷◌, ◌++◌, ◌≡◌, ℕ, replicate}
use Rattle.law.specs.Numbers.{most_hours, row_cells}
use Rattle.rules.specs.Row.{concentration_cells, flow_cells}
use Rattle.rules.specs.Account.{rows_after, work_after}
use Rattle.printed.specs.Program.{printed}

-- "Head: stack 1, pollutant 2, required 1, furnace 1, coal 4, 300 MW, mark 1, one day. Day 0: run hours 0-3, measured 0, 1, 3 with 20, 30, 41 mg/m3 and
-- 1000000, 1000000, 1000001 m3/h. Then end."
unfoldable pub example : List ℕ
example =
    (12 ∷ 0 ∷ 1 ∷ 0 ∷ 1 ∷ 0 ∷ 2 ∷ 1 ∷ 1 ∷ 4 ∷ 44 ∷ 1 ∷ 1 ∷ 1 ∷ [])
    ++ (203 ∷ 0 ∷ 2 ∷ 0 ∷ 0 ∷ 15 ∷ 0 ∷ 0 ∷ 0 ∷ 11 ∷ 0 ∷ 0 ∷ 0 ∷ [])
    ++ (0 ∷ 0 ∷ 160 ∷ 65 ∷ 0 ∷ 36 ∷ 116 ∷ 73 ∷ [])
    ++ (0 ∷ 0 ∷ 240 ∷ 65 ∷ 0 ∷ 36 ∷ 116 ∷ 73 ∷ [])
    ++ replicate 8 0
    ++ (0 ∷ 0 ∷ 36 ∷ 66 ∷ 16 ∷ 36 ∷ 116 ∷ 73 ∷ [])
    ++ replicate 160 0
    ++ (2 ∷ 0 ∷ 6 ∷ 0 ∷ [])

-- "1 2 1 126500 4 1 3" and "total 0 126500 0 0 0", each with its line feed
unfoldable pub example_text : List ℕ
example_text =
    (49 ∷ 32 ∷ 50 ∷ 32 ∷ 49 ∷ 32 ∷ 49 ∷ 50 ∷ 54 ∷ 53 ∷ 48 ∷ 48 ∷ 32 ∷ 52 ∷ 32 ∷ 49 ∷ 32 ∷ 51 ∷ 10 ∷ [])
    ++ (116 ∷ 111 ∷ 116 ∷ 97 ∷ 108 ∷ 32 ∷ 48 ∷ 32 ∷ 49 ∷ 50 ∷ 54 ∷ 53 ∷ 48 ∷ 48 ∷ 32 ∷ 48 ∷ 32 ∷ 48 ∷ 32 ∷ 48 ∷ 10 ∷ [])

-- what is printed; the row, with two cells more that stay as they were; "the fill is 3550 and 1000001", with a cell past 2,208 that stays
pub record ExampleAgrees : Type 0 where
  pub prints : printed example ≡ example_text
  pub row : rows_after example (replicate 9 5) most_hours most_hours ≡ 1 ∷ 2 ∷ 1 ∷ 126_500 ∷ 4 ∷ 1 ∷ 3 ∷ 5 ∷ 5 ∷ []
  pub concentrations : work_after concentration_cells example row_cells most_hours 2_209 (replicate 2_209 5) ≡ (2000 ∷ 3000 ∷ 3550 ∷ 4100 ∷ []) ++ replicate 2_204 0 ++ (5 ∷ [])
  pub flows : work_after flow_cells example row_cells most_hours 2_209 (replicate 2_209 5) ≡ (1000000 ∷ 1000000 ∷ 1000001 ∷ 1000001 ∷ []) ++ replicate 2_204 0 ++ (5 ∷ [])

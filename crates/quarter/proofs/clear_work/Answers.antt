-- `quarter::clear_work` meets its contract. Assumes nothing.
use mathlib.Core.Path.{◌≡◌, ap, ◌∙◌}
use mathlib.Core.List.{List, [], ◌++◌}
use Prim.Native.Nat.{ℕ, ◌≤◌, min}
use lib.ListN.{length, drop}
use Rattle.law.specs.Numbers.{most_hours}
use Rattle.law.specs.Words.{over}
use Rattle.cells.proofs.Parts.{first-all}
use Rattle.rules.specs.Row.{cells}
use Rattle.walk.proofs.Going.{zeros}
use Rattle.quarter.proofs.clear_work.Goals as goal

-- the first 2,208 cells cleared hold no line's hours
cleared : (xs ys : List ℕ) → most_hours ≤ length xs → ys ≡ over (λ h. 0) (min most_hours (length xs)) xs → ys ≡ cells [] ++ drop most_hours xs
unfolding cells
cleared xs ys l e = e ∙ first-all xs most_hours l ∙ ap (λ (t : List ℕ). t ++ drop most_hours xs) (zeros most_hours)

pub returns : goal.returns
returns c =
    let p = c.requires in
    (cleared _ _ p.0 c.clear_first.ensures, cleared _ _ p.1 c.clear_first-2.ensures)

-- Where no hour is missing, there is nothing to fill: every cell stays as it was. Assumes nothing.
use mathlib.Core.Path.{◌≡◌, refl, sym}
use mathlib.Core.List.{List}
use Prim.Native.Nat.{ℕ, ◌<◌, ◌≤◌}
use lib.ListN.{length, get_or}
use Rattle.law.proofs.Tests.{pick_not_eq}
use Rattle.law.proofs.Over.{over_same}
use Rattle.fills.specs.Gaps.{cell_at, filled_cells}

pub no_gap : (states values : List ℕ) → length states ≤ length values → ((k : ℕ) → k < length states → get_or states k 0 ≡ 1 → ⊥) → filled_cells states values ≡ values
unfolding cell_at filled_cells
no_gap states values long none =
    over_same (cell_at states values) (length states) values long (λ k l. sym (pick_not_eq _ _ _ _ _ (none k l) refl))

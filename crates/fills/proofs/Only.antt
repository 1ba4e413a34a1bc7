-- No second answer meets the promise of the public call. Assumes nothing.
use mathlib.Core.Path.{◌≡◌, sym, ap, ◌∙◌}
use mathlib.Core.List.{List}
use Prim.Native.Nat.{ℕ, ◌*◌}
use lib.ListN.{take}
use Rattle.law.specs.Numbers.{hours_of_day}
use Rattle.fills.specs.Period.{is_filled, period_cells, PeriodFilled}

module _ (method days : ℕ) (runs measured states conc flow : List ℕ) where
  -- the cells that an answer leaves
  cells-by : List ℕ → ℕ → List ℕ
  cells-by cells first = period_cells (is_filled method first days conc flow) (take (hours_of_day * days) states) cells

  pub fill_period : (conc₁ flow₁ conc₂ flow₂ : List ℕ) (a b : ℕ) → PeriodFilled method days runs measured states conc flow conc₁ flow₁ a
      → PeriodFilled method days runs measured states conc flow conc₂ flow₂ b → (a ≡ b) × (conc₁ ≡ conc₂) × (flow₁ ≡ flow₂)
  unfolding cells-by
  fill_period conc₁ flow₁ conc₂ flow₂ a b p q =
      let e = p.first ∙ sym q.first in
      (e, p.concentrations ∙ ap (cells-by conc) e ∙ sym q.concentrations, p.flows ∙ ap (cells-by flow) e ∙ sym q.flows)

-- No second answer meets the promise of a public call: a figure is read back from what it says on paper. Assumes nothing.
use mathlib.Core.Path.{◌≡◌, refl, sym, ◌∙◌}
use Prim.Native.Nat.{ℕ}
use lib.ListN.{get_or}
use lib.Dec.{eqb}
use Rattle.std.specs.Prelude.{Result, Ok, Err}
use Rattle.law.specs.Words.{pick}
use Rattle.rules.specs.declared.Head.{Head}
use Rattle.rules.specs.OnPaper.{OnPaper, coefficients_on_paper}
use Rattle.rules.proofs.OnPaper.{read_back}
use Rattle.fuel.specs.declared.NoFigure.{NoFigure}
use Rattle.fuel.specs.declared.NoFigure.TheVariants.{WithoutEntry, OutOfRange}
use Rattle.fuel.specs.Fuel.{fuel_figure, fuel_on_paper}

figure-from : OnPaper → Result ℕ NoFigure
figure-from p = pick (eqb p.number 0) (Ok (get_or p.values 0 0)) (pick (eqb p.number 7) (Err WithoutEntry) (Err OutOfRange))

figure-back : (r : Result ℕ NoFigure) → figure-from (fuel_on_paper r) ≡ r
unfolding figure-from fuel_on_paper coefficients_on_paper pick
figure-back (Ok g) = refl
figure-back (Err WithoutEntry) = refl
figure-back (Err OutOfRange) = refl

pub fuel-figure : (h : Head) (kg sulphur ash : ℕ) (r s : Result ℕ NoFigure) → fuel_on_paper r ≡ fuel_figure h kg sulphur ash → fuel_on_paper s ≡ fuel_figure h kg sulphur ash → r ≡ s
fuel-figure h kg sulphur ash r s a b = read_back fuel_on_paper figure-from figure-back r s (a ∙ sym b)

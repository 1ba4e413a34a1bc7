-- `walk::close::grams_in` meets its contract: no figure is no grams. Assumes nothing.
use Rattle.std.specs.Prelude.{Result, Ok, Err}
use mathlib.Core.Path.{◌≡◌, refl, ◌∙◌}
use Prim.Native.Nat.{ℕ}
use Rattle.std.specs.Result.{result_unwrap_or}
use Rattle.rules.specs.OnPaper.{coefficients_on_paper}
use Rattle.fuel.specs.declared.NoFigure.{NoFigure}
use Rattle.fuel.specs.declared.NoFigure.TheVariants.{WithoutEntry, OutOfRange}
use Rattle.fuel.specs.Fuel.{fuel_on_paper}
use Rattle.walk.specs.Closing.{grams_in}
use Rattle.walk.proofs.close.grams_in.Goals as goal

figure_or : (f : Result ℕ NoFigure) → result_unwrap_or f 0 ≡ grams_in (fuel_on_paper f)
unfolding fuel_on_paper coefficients_on_paper
figure_or (Ok g) = refl
figure_or (Err WithoutEntry) = refl
figure_or (Err OutOfRange) = refl

pub returns : goal.returns
returns c = c.unwrap_or.ensures ∙ figure_or c.args.f

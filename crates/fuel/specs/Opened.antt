-- The figure by fuel opened, down to what stands on paper: what the proof of its cases computes with.
use Rattle.rules.specs.Grams.{fuel_bottom}
use Rattle.rules.specs.OnPaper.{coefficients_on_paper}
use Rattle.fuel.specs.Fuel.{fuel_on_paper, figure_of, top_of}

unfoldable pub figures : Type 0
unfolding fuel_on_paper figure_of top_of fuel_bottom coefficients_on_paper
figures = Unit

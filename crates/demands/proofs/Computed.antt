-- The worked figures and the program's example are what the definitions compute. Assumes nothing.
use mathlib.Core.Path.{refl}
use Rattle.rules.specs.Opened.{rules}
use Rattle.printed.specs.Opened.{prints}
use Rattle.demands.specs.Figures.{figure, concentration_row, flow_row, quarter_row, boiler, pair, survey, day_line, method_row, water_day, outfall_row, batch, fuel_row, figures, FiguresAgree}
use Rattle.demands.specs.Example.{example, example_text, ExampleAgrees}

pub figures-agree : FiguresAgree
unfolding rules figure concentration_row flow_row quarter_row boiler pair survey day_line method_row water_day outfall_row batch fuel_row figures
figures-agree = refl

pub example-agrees : ExampleAgrees
unfolding prints example example_text
example-agrees = record { prints = refl; row = refl; concentrations = refl; flows = refl }

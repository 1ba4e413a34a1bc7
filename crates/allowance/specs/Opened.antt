-- Every definition of the allowance opened, with those below: who computes with it names this.
use Rattle.rules.specs.Opened.{rules}
use Rattle.allowance.specs.Exact.{exact_of, twice, twice_mean, twice_both, exact_fill, exact_hourly, exact_automatic, exact_survey, exact_manual}
use Rattle.allowance.specs.Allowance.{of_measured, of_filled, of_fill, automatic_allowance, manual_allowance, AutomaticNear, ManualNear, FuelNear}

unfoldable pub allowances : Type 0
unfolding rules exact_of twice twice_mean twice_both exact_fill exact_hourly exact_automatic exact_survey exact_manual of_measured of_filled of_fill automatic_allowance manual_allowance AutomaticNear ManualNear FuelNear
allowances = Unit

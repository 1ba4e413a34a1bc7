-- No second answer meets the promise of a public call. Assumes nothing.
use mathlib.Core.Path.{◌≡◌, sym, ◌∙◌}
use Rattle.std.specs.Prelude.{Option}
use Rattle.rules.specs.declared.Head.{Head}
use Rattle.rules.specs.declared.Coefficients.{Coefficients}
use Rattle.rules.specs.Tables.{coefficients_of}
use Rattle.rules.specs.OnPaper.{coefficients_on_paper}
use Rattle.rules.proofs.OnPaper.{coefficients_only}

pub coefficients : (h : Head) (r s : Option Coefficients) → coefficients_on_paper r ≡ coefficients_on_paper (coefficients_of h) → coefficients_on_paper s ≡ coefficients_on_paper (coefficients_of h) → r ≡ s
coefficients h r s a b = coefficients_only r s (a ∙ sym b)

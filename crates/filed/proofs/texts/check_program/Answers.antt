-- `texts::check_program` meets its contract: 13 comes before either is looked at. Assumes nothing.
use mathlib.Core.Path.{◌∙◌}
use native.Mathlib.Omega.{arith}
use Rattle.rules.specs.Judge.{refuse}
use Rattle.rules.specs.Refusals.{fault_in}
use Rattle.filed.specs.Filed.{verdict_on_paper}
use Rattle.filed.proofs.Saying.{too_long, not_too_long}
use Rattle.filed.proofs.texts.check_program.Goals as goal

pub returns-then-file-gt-MOST_BYTES : goal.returns-then-file-gt-MOST_BYTES
unfolding verdict_on_paper refuse fault_in
returns-then-file-gt-MOST_BYTES c = too_long _ _ c.then-file-gt-MOST_BYTES.either

pub returns : goal.returns
returns c = c.check_text.ensures ∙ not_too_long _ _ (omega arith) (omega arith)

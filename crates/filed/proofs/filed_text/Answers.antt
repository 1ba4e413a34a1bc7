-- `filed::filed_text` meets its contract. Assumes nothing.
use mathlib.Core.Path.{ap, ◌∙◌}
use Rattle.filed.specs.Said.{line_of}
use Rattle.text.proofs.Texts.{text_of}
use Rattle.filed.proofs.Saying.{said_program}
use Rattle.filed.proofs.filed_text.Goals as goal

pub returns : goal.returns
returns c =
    let t = text_of _ _ _ _ _ (c.said_of.ensures ∙ ap line_of c.check_program.ensures ∙ said_program _ _) c.said_text.ensures in
    record { text = t.0; upper_bound = t.1 }

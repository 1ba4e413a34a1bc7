-- `printed::program_text` meets its contract. Assumes nothing.
use mathlib.Core.Path.{◌∙◌}
use Rattle.text.proofs.Texts.{text_of, said_of}
use Rattle.printed.proofs.Texts.{over_long, not_long}
use Rattle.printed.proofs.program_text.Goals as goal

pub returns-then-input-gt-MOST_BYTES : goal.returns-then-input-gt-MOST_BYTES
returns-then-input-gt-MOST_BYTES c =
    let t = text_of _ _ _ _ _ (said_of _ _ c.from.ensures ∙ over_long _ c.if-input-gt-MOST_BYTES.true) c.said_text.ensures in record { text = t.0; upper_bound = t.1 }

pub returns : goal.returns
returns c = let t = text_of _ _ _ _ _ (not_long _ c.if-input-gt-MOST_BYTES.false) c.answer_text.ensures.text in record { text = t.0; upper_bound = t.1 }

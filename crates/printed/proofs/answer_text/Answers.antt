-- `printed::answer_text` meets its contract: what is written is the definition's text of the file. Assumes nothing.
use mathlib.Core.Path.{refl, ◌∙◌}
use Rattle.text.proofs.Texts.{text_of, said_of}
use Rattle.printed.proofs.Texts.{answer_refused, text_stated}
use Rattle.printed.proofs.answer_text.Goals as goal

pub returns-in-Err : goal.returns-in-Err
returns-in-Err c =
    let t = text_of _ _ _ _ _ (said_of _ _ c.from.ensures ∙ answer_refused _ _ _ _ _ _ _ _ c.in-Err.ensures refl refl refl) c.said_text.ensures in record { text = t.0; upper_bound = t.1 }

pub returns-in-Ok : goal.returns-in-Ok
returns-in-Ok c = let t = text_stated _ _ _ _ _ _ _ _ c.in-Ok.ensures _ _ _ _ c.stated_text.ensures refl c.account.auto.rows in record { text = t.0; upper_bound = t.1 }

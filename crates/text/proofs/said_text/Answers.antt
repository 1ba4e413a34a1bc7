-- `text::said_text` meets its contract, by what is said. Assumes nothing.
use mathlib.Core.Path.{sym, ap}
use Rattle.rules.specs.Judge.{refuse}
use Rattle.text.specs.Line.{refused_line, wrong_line, yes_line, said_line}
use Rattle.text.proofs.Texts.{text_is, text_as, text_short}
use Rattle.text.proofs.said_text.Goals as goal

pub returns-then-text-lt-LONGEST : goal.returns-then-text-lt-LONGEST
returns-then-text-lt-LONGEST c = text_short _ _ c.if-text-lt-LONGEST.true

pub returns-in-Refused : goal.returns-in-Refused
unfolding said_line refused_line refuse
returns-in-Refused c =
    text_as _ _ _ _ _ (sym (ap said_line c.in-Refused.is)) (text_is _ _ _ _ c.if-text-lt-LONGEST.false c.put_word.ensures)

pub returns-in-Wrong : goal.returns-in-Wrong
unfolding said_line wrong_line
returns-in-Wrong c =
    text_as _ _ _ _ _ (sym (ap said_line c.in-Wrong.is)) (text_is _ _ _ _ c.if-text-lt-LONGEST.false c.put_word-in-Wrong.ensures)

pub returns-in-Yes : goal.returns-in-Yes
unfolding said_line yes_line
returns-in-Yes c =
    text_as _ _ _ _ _ (sym (ap said_line c.in-Yes.is)) (text_is _ _ _ _ c.if-text-lt-LONGEST.false c.put_bytes.ensures)

-- `text::stated_text` meets its contract, by its three tests in turn. Assumes nothing.
use native.Mathlib.Omega.{arith}
use Rattle.text.specs.Line.{totals_line}
use Rattle.text.specs.Text.{stated_text}
use Rattle.law.proofs.Wrote.{wrote_on}
use Rattle.text.proofs.Rows.{rows_wrote, rows_end}
use Rattle.text.proofs.Texts.{text_is, text_as, text_short, text_none, too_many, not_there, all_there}
use Rattle.text.proofs.stated_text.Goals as goal
use Rattle.text.proofs.stated_text.Goals.{then-text-lt-LONGEST-via-then-text-lt-LONGEST, then-text-lt-LONGEST-via-else-text-lt-LONGEST+then-n-gt-MOST_ROWS, then-text-lt-LONGEST-via-else-text-lt-LONGEST+else-n-gt-MOST_ROWS+then-rows-n}

pub returns-then-text-lt-LONGEST : goal.returns-then-text-lt-LONGEST
returns-then-text-lt-LONGEST c =
    elim c.then-text-lt-LONGEST.branch [
      | then-text-lt-LONGEST-via-then-text-lt-LONGEST w ↦ text_short _ _ w.if-text-lt-LONGEST.true
      | then-text-lt-LONGEST-via-else-text-lt-LONGEST+then-n-gt-MOST_ROWS w ↦ text_none _ _ (too_many _ _ _ w.if-n-gt-MOST_ROWS.true)
      | then-text-lt-LONGEST-via-else-text-lt-LONGEST+else-n-gt-MOST_ROWS+then-rows-n w ↦ text_none _ _ (not_there _ _ _ w.if-n-gt-MOST_ROWS.false w.if-rows-n.true)
    ]

pub put_bytes-at-requires : goal.put_bytes-at-requires
put_bytes-at-requires c =
    omega (arith, rows_end _ _ _ _ c.args.n _ c.as_chunks.ensures.front c.put_rows-end.ensures (omega arith) (omega arith), c.put_rows-end.auto.text)

pub put_spaced-requires : goal.put_spaced-requires
put_spaced-requires c =
    omega (arith, rows_end _ _ _ _ c.args.n _ c.as_chunks.ensures.front c.put_rows-end.ensures (omega arith) (omega arith), c.put_bytes-at.ensures.ends, c.put_rows-end.auto.text, c.put_bytes-at.auto.text)

pub returns : goal.returns
unfolding stated_text totals_line
returns c =
    text_as _ _ _ _ _ (all_there _ _ _ c.if-n-gt-MOST_ROWS.false c.if-rows-n.false)
    (text_is _ _ _ _ c.if-text-lt-LONGEST.false
    (wrote_on _ _ _ _ _ _ _ _ (rows_wrote _ _ _ _ c.args.n _ c.as_chunks.ensures.front c.put_rows-end.ensures c.if-rows-n.false) (wrote_on _ _ _ _ _ _ _ _ c.put_bytes-at.ensures c.put_spaced.ensures)))

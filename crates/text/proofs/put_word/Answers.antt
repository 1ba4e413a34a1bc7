-- `text::put_word` meets its contract: the word, and the numbers behind it. Assumes nothing.
use Rattle.law.proofs.Wrote.{wrote_on}
use Rattle.text.proofs.put_word.Goals as goal

pub returns : goal.returns
returns c =
    wrote_on _ _ _ _ _ _ _ _ c.put_bytes-at.ensures c.put_spaced.ensures

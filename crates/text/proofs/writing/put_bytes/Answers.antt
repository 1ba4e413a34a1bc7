-- `text::writing::put_bytes` meets its contract: the bytes are copied over their part. Assumes nothing.
use Rattle.text.proofs.Bytes.{wrote_part}
use Rattle.text.proofs.writing.put_bytes.Goals as goal

pub returns : goal.returns
returns c = wrote_part _ _ _ _ c.requires c.copy_from_slice.ensures.after

-- What is said of the bytes that were delivered: of equal bytes one text is right (proofs/Only.antt).
use Rattle.std.specs.Prelude.{ℕ, ◌≤◌, ◌<◌, ◌≡◌, List, [], length, Option, Result, Ok, Err, true, false}
use Rattle.std.specs.Io.KnownBytes.{Consumes, IsAtEnd}
use Rattle.law.specs.Words.{pick}
use Rattle.text.specs.Text.{Text}
use Rattle.printed.specs.Program.{printed}
use Rattle.input.specs.declared.ReadFailed.{ReadFailed}
use Rattle.input.specs.Got.{Got}
use Rattle.input.specs.Reads.{Reads}

-- one byte more than the most that is accepted (13), so that a longer input is seen
abbrev pub seen_bytes : ℕ
seen_bytes = 65_537

-- the text's length, and whether a read failed: there is no text then
abbrev pub text_of : Result ℕ ReadFailed → Got
text_of (Ok k) = record { count = k; failed = false }
text_of (Err e) = record { count = 0; failed = true }

module _ {R : Type 0} (remaining : R → Option (List ℕ)) where
  -- The reader read into a buffer of that length, and what the program prints for the bytes that were delivered; nothing where a read failed. Where the bytes
  -- that it had left are known, those delivered are the first of them, and all of them where no read failed and the buffer holds more.
  pub record Answered (reader reader' : R) (old new text text' : List ℕ) (answer : Result ℕ ReadFailed) : Type 0 where
    pub bytes : List ℕ
    pub reads : Reads remaining seen_bytes 0 reader reader' old new bytes (text_of answer).failed
    pub long : length new ≡ seen_bytes
    pub consumed : Consumes (remaining reader) (remaining reader') bytes
    pub ended : (text_of answer).failed ≡ false → length bytes < seen_bytes → IsAtEnd (remaining reader')
    pub says : Text (pick (text_of answer).failed [] (printed bytes)) text text' (text_of answer).count
    pub most : (text_of answer).count ≤ length text'
    -- a failure counts the bytes that were delivered
    pub came : (e : ReadFailed) → answer ≡ Err e → e.count ≡ length bytes

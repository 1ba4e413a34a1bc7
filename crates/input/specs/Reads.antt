-- What a call that reads promises: the reads that it made, and the bytes which they delivered.
--
-- Two calls on equal buffers may answer differently and both be right, since what a reader answers to a read, and the bytes that it delivers, are no input of
-- the call. Where the bytes that it has left are known (`remaining`) and no read fails, those delivered are the first of them, and no second count or bytes
-- are right (proofs/Only.antt).
--
-- Not said: which bytes standard input has, since nothing is known of what the system hands out.
use Rattle.std.specs.Prelude.{ℕ, ◌+◌, ◌≤◌, ◌<◌, Bool, true, false, List, [], ◌++◌, length, take, drop, Option, Ok, Err}
use Rattle.std.specs.declared.io.Error.{Error}
use Rattle.input.specs.Got.{Got}
use Rattle.input.specs.Asked.{Asked}

module _ {R : Type 0} (remaining : R → Option (List ℕ)) (piece : ℕ) where
  -- The reads into a buffer from `at` on, one behind the other: the reader before and after them, what the buffer holds before and after them, the bytes that
  -- they deliver, and whether the last one failed. They end where the buffer is full, at an answer of 0 and at an error. At an answer of k bytes the next
  -- read is lent what lies behind those, so that none of them is changed again, and it finds the reader as the one before left it. The functions that promise
  -- this are proved for every reader, one that counts its reads too, so between two of them no other read was made, whose bytes would be lost.
  pub data Reads : ℕ → R → R → List ℕ → List ℕ → List ℕ → Bool → Type 0 where
    full : {at : ℕ} {reader : R} {buf : List ℕ} → length buf ≤ at → Reads at reader reader buf buf [] false
    ended : {at : ℕ} {reader reader' : R} {old new : List ℕ} → Asked remaining piece at reader reader' old new (Ok 0) → Reads at reader reader' old new [] false
    broke : {at : ℕ} {reader reader' : R} {old new : List ℕ} (e : Error) → Asked remaining piece at reader reader' old new (Err e)
        → Reads at reader reader' old new [] true
    more : {at : ℕ} {reader next reader' : R} {old mid new bytes : List ℕ} {failed : Bool} (k : ℕ) → 0 < k → Asked remaining piece at reader next old mid (Ok k)
        → Reads (at + k) next reader' mid new bytes failed → Reads at reader reader' old new (take k (drop at mid) ++ bytes) failed

  -- the bytes that were delivered are the first ones of the buffer, and are counted: none left out, none twice, none past them
  pub record Delivered (reader reader' : R) (old new : List ℕ) (got : Got) : Type 0 where
    pub reads : Reads 0 reader reader' old new (take got.count new) got.failed
    pub most : got.count ≤ length new

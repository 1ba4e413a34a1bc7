-- One read, as the contract of std's `Read::read` has it.
use Rattle.std.specs.Prelude.{ℕ, ◌+◌, ◌-◌, ◌<◌, min, max, ◌≡◌, List, length, take, drop, Option, Result}
use Rattle.std.specs.Io.{ReadsAtMost}
use Rattle.std.specs.Io.KnownBytes.{ReadConsumes}
use Rattle.std.specs.declared.io.Error.{Error}

-- how many of the bytes that are left a read is lent: no more than a piece, and at least one
abbrev pub room : ℕ → ℕ → ℕ
room piece left = min (max piece 1) left

-- the part of a buffer from `at` on that a read is lent
abbrev pub part : ℕ → ℕ → List ℕ → List ℕ
part piece at buf = take (room piece (length buf - at)) (drop at buf)

module _ {R : Type 0} (remaining : R → Option (List ℕ)) where
  -- what that contract says of a read that is lent the part of a buffer from `at` on: it answers an error, or how many bytes it put at the part's start, 0 at
  -- the end of the input; those bytes are the first that the reader had left, where these are known, and a read that fails takes none. No other byte of the
  -- buffer changes. An empty part is never lent, since 0 would not mean the end then
  pub record Lent (piece at : ℕ) (reader reader' : R) (old new : List ℕ) (answer : Result ℕ Error) : Type 0 where
    pub some : at < length old
    pub moved : ReadsAtMost answer (part piece at new)
    pub bytes : ReadConsumes (remaining reader) (remaining reader') answer (part piece at new)
    pub before : take at new ≡ take at old
    pub behind : drop (at + room piece (length old - at)) new ≡ drop (at + room piece (length old - at)) old
    pub long : length new ≡ length old

  module _ (piece at : ℕ) (reader reader' : R) (old new : List ℕ) (answer : Result ℕ Error) where
    -- The reader was read so, and was left as reader'. The word is shut: nothing proves it but `asked`, which the proof of `read_piece` alone cites, whose
    -- code ends in the one call of `read`. So a promise in this word is not met by answers that are made up, as by code that reads nothing and says that
    -- the input has ended.
    pub Asked : Type 0
    Asked = Lent piece at reader reader' old new answer

    pub asked : Lent piece at reader reader' old new answer → Asked
    unfolding Asked
    asked l = l

    pub lent : Asked → Lent piece at reader reader' old new answer
    unfolding Asked
    lent a = a

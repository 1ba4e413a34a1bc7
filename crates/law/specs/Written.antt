-- What code that writes promises: bytes written into a lent buffer.
use Rattle.std.specs.Prelude.{ℕ, ◌+◌, List, ◌++◌, ◌≡◌, length, take, drop}

-- bytes written from one place up to another, behind what stood before
pub record Wrote (old : List ℕ) (from : ℕ) (bytes new : List ℕ) (to : ℕ) : Type 0 where
  pub ends : to ≡ from + length bytes
  pub says : take to new ≡ take from old ++ bytes
  pub keeps : drop to new ≡ drop to old

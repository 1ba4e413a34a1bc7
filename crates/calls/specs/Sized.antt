-- The length of a list that is too long to be computed.
use Rattle.std.specs.Prelude.{◌≡◌, ℕ, List, length, replicate}
use Rattle.std.proofs.Common.{sym}
use Rattle.std.proofs.lemmas.List.{length-replicate}

pub record Sized (n : ℕ) (xs : List ℕ) : Type 0 where
  pub long : n ≡ length xs

pub sized : (n x : ℕ) → Sized n (replicate n x)
sized n x = record { long = sym (length-replicate n x) }

-- Numbers as bytes: in decimal, and in a line with a space between two.
use Rattle.std.specs.Prelude.{ℕ, zero, suc, ◌+◌, ◌/◌, ◌%◌, List, [], ◌∷◌, ◌++◌, ltb}
use Rattle.law.specs.Words.{pick}

-- a number in decimal, before a text; '0' is 48
unfoldable pub decimal_from : ℕ → ℕ → List ℕ → List ℕ
decimal_from zero n text = text
decimal_from (suc places) n text =
    let more = decimal_from places (n / 10) ((48 + n % 10) ∷ text) in
    pick (ltb n 10) ((48 + n % 10) ∷ text) more

-- a u64 in decimal: it has at most 20 digits
unfoldable pub decimal : ℕ → List ℕ
decimal n = decimal_from 20 n []

-- numbers with a space between two, and a line feed
unfoldable pub spaced : List ℕ → List ℕ
spaced [] = 10 ∷ []
spaced (n ∷ []) = decimal n ++ (10 ∷ [])
spaced (n ∷ m ∷ ns) = decimal n ++ (32 ∷ spaced (m ∷ ns))

-- What stands in a printed line, as bytes: the line of a refusal, that of the totals, and what is said of a filing.
use Rattle.std.specs.Prelude.{ℕ, List, [], ◌∷◌, ◌++◌}
use Rattle.rules.specs.Refusals.{Fault}
use Rattle.rules.specs.Judge.{refuse}
use Rattle.text.specs.declared.Said.{Said}
use Rattle.text.specs.declared.Said.TheVariants.{Refused, Wrong, Yes}
use Rattle.text.specs.Numbers.{spaced}

-- "refused N OFFSET"
unfoldable pub refused_line : Fault → List ℕ
refused_line f = (114 ∷ 101 ∷ 102 ∷ 117 ∷ 115 ∷ 101 ∷ 100 ∷ 32 ∷ []) ++ spaced (f.number ∷ f.place ∷ [])

-- "total A B C", and two totals more
unfoldable pub totals_line : List ℕ → List ℕ
totals_line totals = (116 ∷ 111 ∷ 116 ∷ 97 ∷ 108 ∷ 32 ∷ []) ++ spaced totals

-- "yes"
unfoldable pub yes_line : List ℕ
yes_line = 121 ∷ 101 ∷ 115 ∷ 10 ∷ []

-- "wrong ROW FIELD"
unfoldable pub wrong_line : ℕ → ℕ → List ℕ
wrong_line row field = (119 ∷ 114 ∷ 111 ∷ 110 ∷ 103 ∷ 32 ∷ []) ++ spaced (row ∷ field ∷ [])

-- what is said of a file or of a filing
unfoldable pub said_line : Said → List ℕ
said_line (Refused number place) = refused_line (refuse number place)
said_line (Wrong row field) = wrong_line row field
said_line Yes = yes_line

-- "Sum of c x l".
use Rattle.std.specs.Prelude.{ℕ, ◌+◌, ◌*◌, List, [], ◌∷◌}

-- each of one list times its fellow in the other, added up
unfoldable pub products : List ℕ → List ℕ → ℕ
products [] ls = 0
products (c ∷ cs) [] = 0
products (c ∷ cs) (l ∷ ls) = c * l + products cs ls

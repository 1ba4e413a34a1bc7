-- The byte that a drip gives is the first that it had left. Assumes nothing.
use Rattle.std.proofs.Common.{◌≡◌, ℕ, ◌-◌, ◌<◌, List, [], ◌∷◌, ◌++◌, length, take, drop, set, get_or, sym, ap, arith, rules, take_all}
use Rattle.input.proofs.tests.DripRead.read.Goals as goal

dripped : (xs buf : List ℕ) → 0 < length xs → 0 < length buf → xs ≡ take 1 (set buf 0 (get_or xs 0 0)) ++ take (length xs - 1) (drop 1 xs)
dripped [] buf p q = absurd (omega (arith, p))
dripped (x ∷ xs) [] p q = absurd (omega (arith, q))
dripped (x ∷ xs) (b ∷ buf) p q = ap (λ (t : List ℕ). x ∷ t) (sym (take_all _ xs (omega arith)))

pub returns-clause-bytes : goal.returns-clause-bytes
returns-clause-bytes c = (dripped _ _ (search rules) (search rules), λ e. absurd (omega (arith, e)))

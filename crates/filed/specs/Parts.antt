-- What the parts of the code promise one another: no public call is stated in these words.
use Rattle.std.specs.Prelude.{ℕ, ◌<◌, ◌≤◌, List, ◌≡◌, length, get_or, Option, MatchOption, Ok, fold, bit_or, bit_xor, [], ◌∷◌, leb}
use Rattle.law.specs.Numbers.{most_bytes}
use Rattle.law.specs.Words.{need_all}
use Rattle.rules.specs.Judge.{refuse}
use Rattle.std.specs.List.{zip}
use Rattle.rules.specs.OnPaper.{OnPaper}
use Rattle.walk.specs.declared.Walked.{Walked}
use Rattle.walk.specs.Walking.{Unlent, walked_answer, walked_rows}
use Rattle.filed.specs.Filed.{refused_with, checked}
use Rattle.filed.specs.Said.{checked_text}

-- the first place at which filed cells are not the right ones, or how many of these there are
pub record FirstWrong (filed right : List ℕ) (k : ℕ) : Type 0 where
  pub within : k ≤ length right
  pub before : (j : ℕ) → j < k → get_or filed j 0 ≡ get_or right j 0
  pub there : k < length right → get_or filed k 0 ≡ get_or right k 0 → ⊥

-- every bit in which two cells at one place differ
abbrev pub with_bits : ℕ → ℕ × ℕ → ℕ
with_bits bits p = bit_or bits (bit_xor p.0 p.1)

abbrev pub differing : List ℕ → List ℕ → ℕ
differing filed right = fold with_bits 0 (zip filed right)

-- the first place at which they differ, as the code has it: none where all are alike
abbrev pub FirstOrNone : List ℕ → List ℕ → Option ℕ → Type 0
FirstOrNone filed right k = MatchOption k (FirstWrong filed right (length right)) (λ i. (i < length right) × FirstWrong filed right i)

-- what is said of a filing, of any file that was accepted so
abbrev pub CheckedBy : Walked → List ℕ → List ℕ → OnPaper → Type 0
CheckedBy w rows totals said = (file : List ℕ) → Unlent file (walked_answer (Ok w)) (walked_rows (Ok w)) → said ≡ checked file rows totals

-- what the program says of it: 13 comes before either is looked at
unfoldable pub checked_program : List ℕ → List ℕ → OnPaper
checked_program file text = need_all (refused_with (refuse 13 0)) (leb (length file) most_bytes ∷ leb (length text) most_bytes ∷ []) (checked_text file text)

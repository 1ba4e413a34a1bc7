-- The line that is said of a filing's text: 13 comes first. Assumes nothing.
use mathlib.Core.Path.{◌≡◌, refl}
use mathlib.Core.Bool.{Bool, true, false}
use mathlib.Core.List.{List}
use mathlib.Core.Logic.{◌⊎◌, ⊎_elim}
use Prim.Native.Nat.{ℕ, ◌<◌, ◌≤◌}
use lib.Dec.{leb}
use lib.ListN.{length}
use Rattle.law.specs.Numbers.{most_bytes}
use Rattle.law.specs.Words.{need, need_all}
use Rattle.law.proofs.Tests.{need_le, need_not_le}
use Rattle.rules.specs.Judge.{refuse}
use Rattle.text.specs.Line.{refused_line}
use Rattle.filed.specs.Filed.{refused_with}
use Rattle.filed.specs.Said.{checked_text, line_by, line_of, said}
use Rattle.filed.specs.Parts.{checked_program}

module _ (file text : List ℕ) where
  pub too_long : (most_bytes < length file) ⊎ (length file ≤ most_bytes) × (most_bytes < length text) → refused_with (refuse 13 0) ≡ checked_program file text
  unfolding checked_program need_all
  too_long h =
      ⊎_elim (λ l. need_not_le _ _ (length file) most_bytes l) (λ l. need_le _ _ _ (length file) most_bytes l.0 (need_not_le _ _ (length text) most_bytes l.1)) h

  pub not_too_long : length file ≤ most_bytes → length text ≤ most_bytes → checked_text file text ≡ checked_program file text
  unfolding checked_program need_all
  not_too_long f l = need_le _ _ _ (length file) most_bytes f (need_le _ _ _ (length text) most_bytes l refl)

  pub said_program : line_of (checked_program file text) ≡ said file text
  unfolding said checked_program need need_all line_of line_by refuse
  said_program = go (leb (length file) most_bytes) (leb (length text) most_bytes)
    where
      go : (a b : Bool) → line_of (need (refused_with (refuse 13 0)) a (need (refused_with (refuse 13 0)) b (checked_text file text)))
          ≡ need (refused_line (refuse 13 0)) a (need (refused_line (refuse 13 0)) b (line_of (checked_text file text)))
      go false b = refl
      go true false = refl
      go true true = refl

  pub not_long : length file ≤ most_bytes → length text ≤ most_bytes → line_of (checked_text file text) ≡ said file text
  unfolding said need_all
  not_long f l = need_le _ _ _ (length file) most_bytes f (need_le _ _ _ (length text) most_bytes l refl)

-- No second answer meets the promise of a public call. Assumes nothing.
use mathlib.Core.Path.{◌≡◌, ◌∙◌, sym}
use mathlib.Core.List.{List}
use Prim.Native.Nat.{ℕ, min}
use lib.ListN.{length, get_or}
use Rattle.law.specs.Words.{over}

pub lesser : (m n a b : ℕ) → a ≡ min m n → b ≡ min m n → a ≡ b
lesser m n a b p q = p ∙ sym q

pub clear_first : (cells a b : List ℕ) (n : ℕ) → a ≡ over (λ h. 0) (min n (length cells)) cells → b ≡ over (λ h. 0) (min n (length cells)) cells → a ≡ b
clear_first cells a b n p q = p ∙ sym q

pub put_figures : (figures cells a b : List ℕ) → a ≡ over (λ k. get_or figures k 0) (min (length figures) (length cells)) cells
    → b ≡ over (λ k. get_or figures k 0) (min (length figures) (length cells)) cells → a ≡ b
put_figures figures cells a b p q = p ∙ sym q

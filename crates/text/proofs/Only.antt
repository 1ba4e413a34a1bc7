-- No second count or buffer meets the promise of a text call, and a refusal is said in one way. Assumes nothing.
use mathlib.Core.Path.{◌≡◌, ◌∙◌, sym}
use mathlib.Core.List.{List}
use Prim.Native.Nat.{ℕ}
use Rattle.rules.specs.declared.Refused.{Refused as Refusing}
use Rattle.rules.specs.Refusals.{number_of}
use Rattle.text.specs.declared.Said.{Said}
use Rattle.text.specs.declared.Said.TheVariants.{Refused}
use Rattle.text.specs.Line.{said_line}
use Rattle.text.specs.Text.{Text, stated_lines}

module _ (old new₁ new₂ : List ℕ) (r₁ r₂ : ℕ) where
  -- of whatever bytes
  pub text_only : (bytes : List ℕ) → Text bytes old new₁ r₁ → Text bytes old new₂ r₂ → (r₁ ≡ r₂) × (new₁ ≡ new₂)
  text_only bytes p q = (p.counts ∙ sym q.counts, p.says ∙ sym q.says)

  pub said-text : (s : Said) → Text (said_line s) old new₁ r₁ → Text (said_line s) old new₂ r₂ → (r₁ ≡ r₂) × (new₁ ≡ new₂)
  said-text s = text_only (said_line s)

  pub stated-text : (rows : List ℕ) (n : ℕ) (totals : List ℕ) → Text (stated_lines rows n totals) old new₁ r₁ → Text (stated_lines rows n totals) old new₂ r₂
      → (r₁ ≡ r₂) × (new₁ ≡ new₂)
  stated-text rows n totals = text_only (stated_lines rows n totals)

pub said_from : (f : Refusing) (s t : Said) → s ≡ Refused (number_of f.refusal) f.place → t ≡ Refused (number_of f.refusal) f.place → s ≡ t
said_from f s t p q = p ∙ sym q

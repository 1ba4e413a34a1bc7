-- No second count or buffer meets the promise of a public call. Assumes nothing.
use mathlib.Core.Path.{◌≡◌}
use mathlib.Core.List.{List}
use Prim.Native.Nat.{ℕ}
use Rattle.rules.specs.Walk.{outcome}
use Rattle.text.specs.Text.{Text}
use Rattle.text.proofs.Only.{text_only}
use Rattle.printed.specs.Program.{printed_from, printed}

module _ (old new₁ new₂ : List ℕ) (r₁ r₂ : ℕ) where
  pub answer_text : (file : List ℕ) → Text (printed_from (outcome file)) old new₁ r₁ → Text (printed_from (outcome file)) old new₂ r₂ → (r₁ ≡ r₂) × (new₁ ≡ new₂)
  answer_text file = text_only old new₁ new₂ r₁ r₂ (printed_from (outcome file))

  pub program_text : (input : List ℕ) → Text (printed input) old new₁ r₁ → Text (printed input) old new₂ r₂ → (r₁ ≡ r₂) × (new₁ ≡ new₂)
  program_text input = text_only old new₁ new₂ r₁ r₂ (printed input)

-- No second answer, rows or cells meet the promise of the account call. Assumes nothing.
use mathlib.Core.Path.{◌≡◌, ◌∙◌, sym}
use mathlib.Core.List.{List}
use Prim.Native.Nat.{ℕ}
use Rattle.rules.specs.Refusals.{Answer}
use Rattle.rules.specs.Account.{Promise}

pub promise_only : (file rows conc flow : List ℕ) (a b : Answer) (rows₁ rows₂ conc₁ conc₂ flow₁ flow₂ : List ℕ)
    → Promise file rows conc flow a rows₁ conc₁ flow₁ → Promise file rows conc flow b rows₂ conc₂ flow₂
    → (a ≡ b) × (rows₁ ≡ rows₂) × (conc₁ ≡ conc₂) × (flow₁ ≡ flow₂)
promise_only file rows conc flow a b rows₁ rows₂ conc₁ conc₂ flow₁ flow₂ p q =
    (p.answers ∙ sym q.answers, p.leaves ∙ sym q.leaves, p.concentrations_hold ∙ sym q.concentrations_hold, p.flows_hold ∙ sym q.flows_hold)

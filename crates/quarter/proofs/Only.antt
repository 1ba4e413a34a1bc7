-- No second answer, rows or cells meet the promise of `account`. Assumes nothing.
use Rattle.std.specs.Prelude.{Result, Ok, Err}
use mathlib.Core.Path.{◌≡◌, sym, ap}
use mathlib.Core.List.{List}
use Prim.Native.Nat.{ℕ}
use borrow.Author.Tests.{eqb-false}
use Rattle.rules.specs.declared.Account.{Account}
use Rattle.rules.specs.declared.Refused.{Refused}
use Rattle.rules.specs.Refusals.{number_of, fault_in, Answer, answered}
use Rattle.rules.specs.Account.{Promise}
use Rattle.rules.proofs.Refusals.{numbered, fault_only}
use Rattle.answers.proofs.Only.{promise_only}

-- what is answered says which answer it was
answered_only : (a b : Result Account Refused) → answered a ≡ answered b → a ≡ b
unfolding answered fault_in
answered_only (Ok a) (Ok b) e = ap Ok (ap (λ (x : Answer). record { lines = x.rows; totals = x.totals }) e)
answered_only (Ok a) (Err g) e = absurd (eqb-false (number_of g.refusal) 0 (numbered g.refusal) (ap (λ (x : Answer). x.number) (sym e)))
answered_only (Err f) (Ok b) e = absurd (eqb-false (number_of f.refusal) 0 (numbered f.refusal) (ap (λ (x : Answer). x.number) e))
answered_only (Err f) (Err g) e = ap Err (fault_only f g (ap (λ (x : Answer). record { number = x.number; place = x.place }) e))

pub account_only : (file rows conc flow : List ℕ) (a b : Result Account Refused) (rows₁ rows₂ conc₁ conc₂ flow₁ flow₂ : List ℕ)
    → Promise file rows conc flow (answered a) rows₁ conc₁ flow₁ → Promise file rows conc flow (answered b) rows₂ conc₂ flow₂
    → (a ≡ b) × (rows₁ ≡ rows₂) × (conc₁ ≡ conc₂) × (flow₁ ≡ flow₂)
account_only file rows conc flow a b rows₁ rows₂ conc₁ conc₂ flow₁ flow₂ p q =
    let e = promise_only file rows conc flow (answered a) (answered b) rows₁ rows₂ conc₁ conc₂ flow₁ flow₂ p q in
    (answered_only a b e.0, e.1, e.2, e.3)

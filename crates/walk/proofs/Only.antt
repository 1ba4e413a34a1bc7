-- No second answer, rows or cells meet the promise of `walk_file`, nor of `walk_unlent`. Assumes nothing.
use Rattle.std.specs.Prelude.{Result, Ok, Err}
use mathlib.Core.Path.{◌≡◌, sym, ap, ap₂, ◌∙◌}
use mathlib.Core.List.{List}
use Prim.Native.Nat.{ℕ}
use borrow.Author.Tests.{eqb-false}
use Rattle.rules.specs.declared.Account.{Account}
use Rattle.rules.specs.declared.Refused.{Refused}
use Rattle.rules.specs.Refusals.{Answer, number_of, answered, fault_in}
use Rattle.rules.specs.Account.{Promise}
use Rattle.rules.proofs.Refusals.{numbered, fault_only}
use Rattle.answers.proofs.Only.{promise_only}
use Rattle.walk.specs.declared.Walked.{Walked}
use Rattle.walk.specs.Books.{no_rows}
use Rattle.walk.specs.Walking.{walked_answer, walked_rows, Unlent}

-- what is answered says which walk it was
refusals_alike : (f g : Refused) → answered (Err f) ≡ answered (Err g) → f ≡ g
unfolding answered fault_in
refusals_alike f g e = fault_only f g (ap (λ (a : Answer). record { number = a.number; place = a.place }) e)

refused_not : (f : Refused) (a : Account) → answered (Err f) ≡ answered (Ok a) → ⊥
unfolding answered
refused_not f a e = eqb-false (number_of f.refusal) 0 (numbered f.refusal) (ap (λ (x : Answer). x.number) e)

walks_alike : (w x : Walked) → answered (Ok w.account) ≡ answered (Ok x.account) → w.rows ≡ x.rows → w ≡ x
unfolding answered
walks_alike w x e f =
    ap₂ (λ (a : Answer) (rows : List ℕ). record { account = record { lines = a.rows; totals = a.totals }; rows = rows }) e f

same : (a b : Result Walked Refused) → walked_answer a ≡ walked_answer b → walked_rows a ≡ walked_rows b → a ≡ b
same (Ok w) (Ok x) e f = ap Ok (walks_alike w x e f)
same (Ok w) (Err g) e f = absurd (refused_not g w.account (sym e))
same (Err f) (Ok x) e r = absurd (refused_not f x.account e)
same (Err f) (Err g) e r = ap Err (refusals_alike f g e)

pub walk-file : (file conc flow : List ℕ) (a b : Result Walked Refused) (conc₁ conc₂ flow₁ flow₂ : List ℕ)
    → Promise file no_rows conc flow (walked_answer a) (walked_rows a) conc₁ flow₁ → Promise file no_rows conc flow (walked_answer b) (walked_rows b) conc₂ flow₂
    → (a ≡ b) × (conc₁ ≡ conc₂) × (flow₁ ≡ flow₂)
walk-file file conc flow a b conc₁ conc₂ flow₁ flow₂ p q =
    let e = promise_only file no_rows conc flow (walked_answer a) (walked_answer b) (walked_rows a) (walked_rows b) conc₁ conc₂ flow₁ flow₂ p q in
    (same a b e.0 e.1, e.2, e.3)

pub walk-unlent : (file : List ℕ) (a b : Result Walked Refused) → Unlent file (walked_answer a) (walked_rows a) → Unlent file (walked_answer b) (walked_rows b) → a ≡ b
walk-unlent file a b p q = same a b (p.answers ∙ sym q.answers) (p.leaves ∙ sym q.leaves)

-- No second answer meets the promise of a public call. Assumes nothing.
use Rattle.std.proofs.Common.{◌≡◌, ℕ, eqb, refl, sym, ap, ap₂, ◌∙◌, true≢false}
use Rattle.std.specs.Prelude.{Option, Some, None}
use Rattle.rules.specs.declared.Refusal.{Refusal}
use Rattle.rules.proofs.Refusals.{refusal_only, numbered}
use Rattle.panel.specs.declared.Stepped.{Stepped as Answered}
use Rattle.reading.specs.declared.Hour.{Hour}
use Rattle.panel.specs.declared.Panel.{Panel}
use Rattle.panel.specs.Panel.{Stepped, number_in, stepped, panel_step, empty_panel}

pub new : (r s : Panel) → r ≡ empty_panel → s ≡ empty_panel → r ≡ s
new r s p q = cc

-- an answer is read back from what it says on paper
number_only : (r s : Option Refusal) → number_in r ≡ number_in s → r ≡ s
number_only None None e = refl
number_only None (Some s) e = absurd (true≢false (ap (λ (n : ℕ). eqb n 0) e ∙ numbered s))
number_only (Some r) None e = absurd (true≢false (ap (λ (n : ℕ). eqb n 0) (sym e) ∙ numbered r))
number_only (Some r) (Some s) e = ap Some (refusal_only r s e)

answered : Option Refusal → Panel → Answered
answered r p = record { refused = r; next = p }

stepped_only : (r s : Answered) → stepped r ≡ stepped s → r ≡ s
unfolding answered
stepped_only r s e = ap₂ answered (number_only r.refused s.refused (ap (λ (x : Stepped). x.number) e)) (ap (λ (x : Stepped). x.next) e)

pub hour : (p : Panel) (h : Hour) (r s : Answered) → stepped r ≡ panel_step p h → stepped s ≡ panel_step p h → r ≡ s
hour p h r s e f = stepped_only r s (e ∙ sym f)

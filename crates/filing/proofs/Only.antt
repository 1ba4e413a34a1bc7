-- No second answer and no other cells meet the promise of `read_filing`: what stands on paper tells the answers apart. Assumes nothing.
use mathlib.Core.Path.{◌≡◌, sym, ap, ap₂, ◌∙◌}
use mathlib.Core.Bool.{true≢false}
use mathlib.Core.List.{List}
use lib.Dec.{eqb}
use Rattle.std.proofs.Common.{Result, Ok, Err}
use Rattle.rules.specs.declared.Refused.{Refused}
use Rattle.rules.specs.Refusals.{told, fault_in}
use Rattle.rules.proofs.Refusals.{numbered, fault_only}
use Rattle.filing.specs.declared.Filing.{Filing as Answered}
use Rattle.filing.specs.Filing.{totals_told, filing_on_paper, Promise}
use Prim.Native.Nat.{ℕ}

totals_only : (x y : Result (List ℕ) Refused) → (told x).number ≡ (told y).number → (told x).place ≡ (told y).place → totals_told x ≡ totals_told y → x ≡ y
unfolding told fault_in totals_told
totals_only (Ok a) (Ok b) n p t = ap Ok t
totals_only (Ok a) (Err g) n p t = absurd (true≢false (ap (λ (k : ℕ). eqb k 0) n ∙ numbered g.refusal))
totals_only (Err f) (Ok b) n p t = absurd (true≢false (ap (λ (k : ℕ). eqb k 0) (sym n) ∙ numbered f.refusal))
totals_only (Err f) (Err g) n p t =
    let e : fault_in f ≡ fault_in g = ap₂ (λ (k i : ℕ). record { number = k; place = i }) n p in
    ap Err (fault_only f g e)

answered_by : ℕ → Result (List ℕ) Refused → Answered
answered_by n t = record { count = n; totals = t }

pub filing_only : (text rows : List ℕ) (a a' : Answered) (b b' : List ℕ) → Promise text rows (filing_on_paper a) b → Promise text rows (filing_on_paper a') b' → (a ≡ a') × (b ≡ b')
unfolding filing_on_paper answered_by
filing_only text rows a a' b b' p q =
    let totals = totals_only a.totals a'.totals (p.numbers ∙ sym q.numbers) (p.lines ∙ sym q.lines) (p.totals ∙ sym q.totals) in
    (ap₂ answered_by (p.counts ∙ sym q.counts) totals, p.leaves ∙ sym q.leaves)

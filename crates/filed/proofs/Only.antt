-- No second answer meets the promise of `check_filed`, since what stands on paper tells the answers apart, nor of `filed_text`. Assumes nothing.
use mathlib.Core.Path.{◌≡◌, refl, sym, ap, ap₂, ◌∙◌}
use mathlib.Core.List.{List}
use Prim.Native.Nat.{ℕ}
use native.Mathlib.Omega.{arith}
use lib.ListN.{length, get_or}
use Rattle.std.proofs.Common.{Result, Ok, Err}
use Rattle.rules.specs.OnPaper.{OnPaper}
use Rattle.rules.specs.declared.Refused.{Refused as Fails}
use Rattle.rules.specs.Refusals.{fault_in}
use Rattle.rules.proofs.Refusals.{fault_only}
use Rattle.filed.specs.declared.Verdict.{Verdict}
use Rattle.filed.specs.declared.Verdict.TheVariants.{Agrees, Wrong}
use Rattle.text.specs.Text.{Text}
use Rattle.text.proofs.Only.{text_only}
use Rattle.filed.specs.Filed.{verdict_on_paper, checked}
use Rattle.filed.specs.Said.{said}

long : {p q : OnPaper} → p ≡ q → length p.values ≡ length q.values
long e = ap (λ (x : OnPaper). length x.values) e

pub paper_only : (v w : Result Verdict Fails) → verdict_on_paper v ≡ verdict_on_paper w → v ≡ w
unfolding verdict_on_paper
paper_only (Ok Agrees) (Ok Agrees) e = refl
paper_only (Ok Agrees) (Ok (Wrong r f)) e = absurd (omega (arith, long e))
paper_only (Ok Agrees) (Err f) e = absurd (omega (arith, long e))
paper_only (Ok (Wrong r f)) (Ok Agrees) e = absurd (omega (arith, long e))
paper_only (Ok (Wrong r f)) (Ok (Wrong s g)) e = let q = ap (λ (x : OnPaper). x.values) e in cc
paper_only (Ok (Wrong r f)) (Err g) e = absurd (omega (arith, long e))
paper_only (Err f) (Ok Agrees) e = absurd (omega (arith, long e))
paper_only (Err f) (Ok (Wrong s g)) e = absurd (omega (arith, long e))
paper_only (Err f) (Err g) e =
    let fault : fault_in f ≡ fault_in g =
    ap₂ (λ (n p : ℕ). record { number = n; place = p }) (ap (λ (x : OnPaper). x.number) e) (ap (λ (x : OnPaper). get_or x.values 0 0) e) in
    ap Err (fault_only f g fault)

pub check_only : (file rows totals : List ℕ) (v w : Result Verdict Fails) → verdict_on_paper v ≡ checked file rows totals → verdict_on_paper w ≡ checked file rows totals → v ≡ w
check_only file rows totals v w p q = paper_only v w (p ∙ sym q)

pub filed_text_only : (file text old new₁ new₂ : List ℕ) (r₁ r₂ : ℕ) → Text (said file text) old new₁ r₁ → Text (said file text) old new₂ r₂
    → (r₁ ≡ r₂) × (new₁ ≡ new₂)
filed_text_only file text old new₁ new₂ r₁ r₂ = text_only old new₁ new₂ r₁ r₂ (said file text)

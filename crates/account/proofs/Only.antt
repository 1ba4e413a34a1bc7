-- Of equal bytes, and where a read failed in both calls or in none, no second count or text meets the promise of `answer_input`. Assumes nothing.
use Rattle.std.proofs.Common.{◌≡◌, ℕ, List, [], Bool, true, false, Option, Result, Ok, Err, refl, sym, ap, ◌∙◌, subst, length}
use Rattle.std.proofs.lemmas.Bool.{true≢false}
use Rattle.law.specs.Words.{pick}
use Rattle.text.specs.Text.{Text}
use Rattle.text.proofs.Only.{text_only}
use Rattle.printed.specs.Program.{printed}
use Rattle.input.specs.declared.ReadFailed.{ReadFailed}
use Rattle.input.proofs.Only.{got_only}
use Rattle.account.specs.Answered.{text_of, Answered}

module _ {R₁ R₂ : Type 0} (remaining₁ : R₁ → Option (List ℕ)) (remaining₂ : R₂ → Option (List ℕ)) (r₁ r₁' : R₁) (r₂ r₂' : R₂) where
  module _ (old₁ new₁ old₂ new₂ text text₁ text₂ : List ℕ) where
    same_answer : (x y : Result ℕ ReadFailed) (a : Answered remaining₁ r₁ r₁' old₁ new₁ text text₁ x) (b : Answered remaining₂ r₂ r₂' old₂ new₂ text text₂ y)
        → b.bytes ≡ a.bytes → (text_of x).count ≡ (text_of y).count → (text_of y).failed ≡ (text_of x).failed → x ≡ y
    same_answer (Ok k) (Ok n) a b e c f = ap Ok c
    same_answer (Err k) (Err n) a b e c f = got_only (Err k) (Err n) (b.came n refl ∙ ap length e ∙ sym (a.came k refl)) refl
    same_answer (Ok k) (Err n) a b e c f = absurd (true≢false f)
    same_answer (Err k) (Ok n) a b e c f = absurd (true≢false (sym f))

    pub answer_input : (x y : Result ℕ ReadFailed) (a : Answered remaining₁ r₁ r₁' old₁ new₁ text text₁ x) (b : Answered remaining₂ r₂ r₂' old₂ new₂ text text₂ y)
        → b.bytes ≡ a.bytes → (text_of y).failed ≡ (text_of x).failed → (x ≡ y) × (text₁ ≡ text₂)
    answer_input x y a b e f =
        let same : ((text_of x).count ≡ (text_of y).count) × (text₁ ≡ text₂) =
        text_only text text₁ text₂ (text_of x).count (text_of y).count (pick (text_of x).failed [] (printed a.bytes)) a.says
        (subst (λ (bytes : List ℕ). Text (pick (text_of x).failed [] (printed bytes)) text text₂ (text_of y).count) e
        (subst (λ (t : Bool). Text (pick t [] (printed b.bytes)) text text₂ (text_of y).count) f b.says)) in
        (same_answer x y a b e same.0 f, same.1)

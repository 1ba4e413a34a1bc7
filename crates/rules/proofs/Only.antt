-- No second answer meets the promise of `ensure`, and no second number that of a conversion. Assumes nothing.
use Prim.Native.Nat.{ℕ}
use mathlib.Core.Bool.{Bool}
use mathlib.Core.Path.{◌≡◌, sym, ◌∙◌}
use Rattle.std.specs.Prelude.{Result, Some}
use Rattle.law.specs.Words.{need}
use Rattle.rules.specs.declared.Refusal.{Refusal}
use Rattle.rules.specs.declared.Method.{Method}
use Rattle.rules.specs.declared.Refused.{Refused}
use Rattle.rules.specs.Refusals.{number_of, method_number, told}
use Rattle.rules.specs.Judge.{refuse, fine}
use Rattle.rules.proofs.Refusals.{told_only}

pub ensure_only : (holds : Bool) (refusal : Refusal) (place : ℕ) (x y : Result Unit Refused) → told x ≡ need (refuse (number_of refusal) place) holds fine
    → told y ≡ need (refuse (number_of refusal) place) holds fine → x ≡ y
ensure_only holds refusal place x y p q = told_only x y (p ∙ sym q)

-- of `From<Refusal>` for u64 and for u32, whose promise is one
pub from_refusal_only : (r : Refusal) (n m : ℕ) → n ≡ number_of r → m ≡ number_of r → n ≡ m
from_refusal_only r n m p q = p ∙ sym q

-- of `From<Method>` for u32
pub from_method_only : (x : Method) (n m : ℕ) → n ≡ method_number (Some x) → m ≡ method_number (Some x) → n ≡ m
from_method_only x n m p q = p ∙ sym q

-- No second answer meets the promise of a public call. Assumes nothing.
use mathlib.Core.Path.{◌≡◌, sym, ◌∙◌}
use mathlib.Core.List.{List}
use Prim.Native.Nat.{ℕ}
use Rattle.law.specs.Words.{pick}
use Rattle.std.specs.Prelude.{Option, Result}
use Rattle.rules.specs.declared.Method.{Method}
use Rattle.rules.specs.declared.Refused.{Refused}
use Rattle.rules.specs.Refusals.{method_number, told}
use Rattle.rules.specs.declared.Record.{Record}
use Rattle.rules.specs.declared.View.{View}
use Rattle.rules.specs.Judge.{line_method, daily_method, judge_record}
use Rattle.rules.proofs.Refusals.{told_only, method_only}

pub judge-record : (v : View) (runs : List ℕ) (r : Record) (x y : Result Unit Refused) → told x ≡ judge_record v runs r → told y ≡ judge_record v runs r → x ≡ y
judge-record v runs r x y p q = told_only x y (p ∙ sym q)

pub open_method : (v : View) (m n : Option Method) → method_number m ≡ pick v.water (daily_method v) (line_method v) → method_number n ≡ pick v.water (daily_method v) (line_method v) → m ≡ n
open_method v m n p q = method_only m n (p ∙ sym q)

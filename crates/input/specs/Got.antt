-- What a call that reads answers, on paper.
use Rattle.std.specs.Prelude.{ℕ, Bool, true, false, Result, Ok, Err}
use Rattle.input.specs.declared.ReadFailed.{ReadFailed}

-- how many bytes there are, and whether a read failed
pub record Got : Type 0 where
  pub count : ℕ
  pub failed : Bool

abbrev pub got : Result ℕ ReadFailed → Got
got (Ok n) = record { count = n; failed = false }
got (Err e) = record { count = e.count; failed = true }

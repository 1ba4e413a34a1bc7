-- `fills::fill::first_720` meets its contract. Assumes nothing.
use mathlib.Core.Path.{◌∙◌, ap}
use Prim.Native.Nat.{ℕ}
use lib.ListN.{take}
use Rattle.law.specs.Numbers.{long_window}
use Rattle.law.specs.Words.{largest}
use Rattle.fills.proofs.Largest.{take-few}
use Rattle.fills.proofs.fill.first_720.Goals as goal

pub returns : goal.returns
returns c =
    let v = c.args.valid.now in
    c.largest_of.ensures ∙ ap (λ (k : ℕ). largest (take k v)) c.min.ensures ∙ ap largest (take-few long_window v)

-- `walk::put::put_row` meets its contract: the part that starts at the row comes back written. Assumes nothing.
use mathlib.Core.Path.{◌≡◌, ◌∙◌, ap}
use Prim.Native.Nat.{ℕ, ◌*◌, ◌-◌, min}
use native.Mathlib.Omega.{arith}
use lib.ListN.{length, take, drop, get_or, length-take, length-drop}
use Rattle.law.specs.Words.{over}
use Rattle.law.proofs.Over.{part-back}
use Rattle.walk.proofs.put.put_row.Goals as goal

pub returns : goal.returns
returns c =
    let a = c.args in
    let out = a.rows.now in
    let m : min (length a.row) (length (take (length out - 7 * a.line) (drop (7 * a.line) out))) ≡ 7 = simp (length-take, length-drop) (omega arith) in
    part-back (λ i. get_or a.row i 0) out _ (7 * a.line) 7 (c.put_figures.ensures ∙ ap (λ (n : ℕ). over (λ i. get_or a.row i 0) n (take (length out - 7 * a.line) (drop (7 * a.line) out))) m)

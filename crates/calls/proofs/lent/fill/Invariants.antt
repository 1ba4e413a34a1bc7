-- `calls::lent::fill`: the cells so far hold their numbers. Assumes nothing.
use Rattle.std.proofs.Common.{◌≡◌, ◌+◌, ◌%◌, ◌^◌, take}
use Rattle.law.specs.Words.{table}
use Rattle.calls.proofs.lent.fill.Given as goal

abbrev pub invariant-loop-cell : goal.invariant-loop-cell
invariant-loop-cell g l =
    (take l.cell-index l.cells ≡ table (λ i. g.T.Lent.cell ((l.seed + i) % 2 ^ 32)) l.cell-index) × (l.number ≡ (l.seed + l.cell-index) % 2 ^ 32)

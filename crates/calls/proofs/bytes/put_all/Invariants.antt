-- `calls::bytes::put_all`: the cells so far stand behind what stood before. Assumes nothing.
use Rattle.std.proofs.Common.{◌≡◌, ◌+◌, ◌*◌, take}
use Rattle.std.specs.List.{flat_map}
use Rattle.law.specs.Written.{Wrote}
use Rattle.calls.proofs.bytes.put_all.Given as goal

abbrev pub invariant-loop-cell : goal.invariant-loop-cell
invariant-loop-cell g l =
    Wrote l.initial.out l.at (flat_map g.N.Little.bytes (take l.cell-index l.cells)) l.out l.end × (l.end ≡ l.at + g.N.Little.width * l.cell-index)

-- `text::writing::put_spaced` meets its contract: each number but the last is written with a space behind it. Assumes nothing.
use Rattle.std.proofs.Common.{◌+◌, ◌*◌, ◌≤◌, take}
use Rattle.std.specs.Prelude.{flat_map}
use Rattle.law.specs.Written.{Wrote}
use Rattle.text.proofs.Spaced.{with_space}
use Rattle.text.proofs.writing.put_spaced.Given as goal

abbrev pub invariant-loop-n : goal.invariant-loop-n
invariant-loop-n l =
    record { wrote : Wrote l.initial.text l.at (flat_map with_space (take l.n-index l.others)) l.text l.end; below : l.end ≤ l.at + 21 * l.n-index }

-- `text::put_rows` meets its contract: after i rows their texts stand at the start. Assumes nothing.
use Rattle.std.proofs.Common.{◌*◌, ◌≤◌, take}
use Rattle.std.specs.Prelude.{flat_map}
use Rattle.law.specs.Written.{Wrote}
use Rattle.text.specs.Numbers.{spaced}
use Rattle.text.proofs.put_rows.Given as goal

abbrev pub invariant-loop-row : goal.invariant-loop-row
invariant-loop-row l = record { wrote : Wrote l.initial.text 0 (flat_map spaced (take l.row-index l.rows)) l.text l.end; below : l.end ≤ 148 * l.row-index }

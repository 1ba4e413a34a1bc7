-- `calls::panel_call::put_state` meets its contract: four numbers, one behind the other. Assumes nothing.
use Rattle.std.proofs.Common.{ap}
use Rattle.law.proofs.Wrote.{wrote_as}
use Rattle.field.specs.Bytes.{u64_bytes}
use Rattle.calls.specs.Answers.{state_bytes}
use Rattle.calls.proofs.Puts.{four_wrote}
use Rattle.calls.proofs.panel_call.put_state.Goals as goal

pub returns : goal.returns
unfolding state_bytes
returns c =
    four_wrote _ _ _ _ _ _ _ _ _ _ _ _ _ c.put-n.ensures.wrote (wrote_as _ _ _ _ _ _ (ap u64_bytes c.f64_to_bits_with_nan.ensures) c.put-t.ensures.wrote)
    c.put-h.ensures.wrote c.put.ensures.wrote

-- `calls::panel_call::answer` meets its contract: what the face promises of the frame's patterns is written. Assumes nothing.
use Rattle.calls.proofs.Answers.{panel_wrote}
use Rattle.calls.proofs.panel_call.answer.Goals as goal

pub returns : goal.returns
returns c =
    panel_wrote _ _ _ _ _ _ _ _ _ _ _ _ _ _ _ _ c.f64_from_bits_with_nan-total.ensures c.f32_from_bits_with_nan-c.ensures c.f32_from_bits_with_nan-l.ensures c.doarpezwim_panel_hour-number.ensures c.put_state.ensures

-- `answer::answer_input` meets its contract: what is printed is printed for the bytes that were delivered. Assumes nothing.
use Rattle.std.proofs.Common.{◌≡◌, Err, refl, sym, subst, arith, rules}
use Rattle.account.specs.Answered.{Answered}
use Rattle.account.proofs.Answering.{nothing_said, said}
use Rattle.account.proofs.answer.answer_input.Goals as goal

pub returns-in_err-n : goal.returns-in_err-n
returns-in_err-n g c =
    let r = c.read_pieces in
    let e = c.in_err-n.field-0.0 in
    let told = c.in_err-n.ensures in
    let is : c.from_residual.result ≡ Err e = search rules in
    subst (Answered _ _ _ _ _ _ _) (sym is) (nothing_said _ _ _ _ _ _ (omega (arith, r.auto.buf, c.told-file)) e told.delivered told.consumed)

pub returns : goal.returns
returns g c =
    let r = c.read_pieces in
    let told = c.in_ok-n.ensures in
    let p = c.program_text in
    said _ _ _ _ _ _ (omega (arith, r.auto.buf, c.told-file)) _ _ p.result told.delivered told.consumed (told.ended refl) p.ensures.text p.ensures.upper_bound

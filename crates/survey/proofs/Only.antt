-- No second answer meets the promise of the public call. Assumes nothing.
use mathlib.Core.Path.{◌≡◌, ◌∙◌, sym, ap}
use mathlib.Core.List.{List}
use Prim.Native.Nat.{ℕ}
use denote.Ref.{Bor}
use Rattle.survey.specs.Governing.{Part, here, governing}

-- two parts that meet it lie at the same place, block and offset, and hold the same bytes
pub governing-survey : (enforcement plant r s : Bor (List ℕ)) (hour : ℕ) → here r ≡ governing enforcement plant hour → here s ≡ governing enforcement plant hour → (r.ref_ptr ≡ s.ref_ptr) × (r.now ≡ s.now)
unfolding here
governing-survey enforcement plant r s hour p q =
    let e = p ∙ sym q in
    ((λ i. ((e i).block, (e i).offset)), ap (λ (x : Part). x.bytes) e)

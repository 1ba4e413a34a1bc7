-- `fills::gaps::Series::fill` meets its contract. Assumes nothing.
use mathlib.Core.Path.{◌∙◌, ap, refl}
use Prim.Native.Nat.{ℕ}
use Rattle.fills.specs.Parts.{patched}
use Rattle.fills.proofs.Stand.{part_filled}
use Rattle.fills.proofs.gaps.Series.fill.Goals as goal

pub returns : goal.returns
returns c =
    let a = c.args in
    let e = c.fill_of-value.ensures in (
      part_filled a.states.now a.values.now _ c.fill_of-value.result a.first a.gap.next c.requires.0.0 c.requires.0.2 c.filler.ensures
          ∙ ap (λ (z : ℕ). patched a.states.now z a.first a.gap.next a.values.now) e.0,
      e.1,
      refl,
    )

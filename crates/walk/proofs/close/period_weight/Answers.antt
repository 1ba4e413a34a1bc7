-- `walk::close::period_weight` meets its contract. Assumes nothing.
use mathlib.Core.Path.{◌∙◌}
use native.Mathlib.Omega.{arith}
use lib.ListN.{take}
use Rattle.walk.proofs.Products.{products-chain}
use Rattle.walk.proofs.close.period_weight.Goals as goal

pub weigh-requires : goal.weigh-requires
weigh-requires c =
    let a = c.args in
    omega (arith, products-chain (take a.n a.conc.now) (take a.n a.flow.now), c.requires.2)

pub returns : goal.returns
returns c =
    let a = c.args in
    c.weigh.ensures ∙ products-chain (take a.n a.conc.now) (take a.n a.flow.now)

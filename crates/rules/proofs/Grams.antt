-- Laws of the grams by fuel. Assumes nothing.
use Prim.Native.Nat.{◌<◌}
use lib.Dec.{lit<}
use Rattle.std.specs.Prelude.{Option, Some, None}
use Rattle.rules.specs.declared.Coefficients.{Coefficients}
use Rattle.rules.specs.declared.Coefficients.TheVariants.{Balance, Oxides, Dust}
use Rattle.rules.specs.Grams.{fuel_bottom}

-- something is divided by, whatever the entry
pub bottom_some : (entry : Option Coefficients) → 0 < fuel_bottom entry
unfolding fuel_bottom
bottom_some (Some (Balance q k)) = lit< tt
bottom_some (Some (Oxides coefficient)) = lit< tt
bottom_some (Some (Dust a b)) = lit< tt
bottom_some None = lit< tt

-- `panel::Panel::new` meets its contract: the default 0.0 is the total of 0. Assumes nothing.
use Rattle.std.proofs.Common.{◌≡◌, ℕ}
use lib.Ieee.{Float, of_bits, of_int}
use Rattle.panel.specs.declared.Panel.{Panel}
use Rattle.panel.specs.Lawful.{as_total}
use Rattle.panel.specs.Panel.{empty_panel}
use Rattle.panel.proofs.Panel.new.Goals as goal

by_fields : (p : Panel) (t : Float) (h m : ℕ) → p.total ≡ t → p.hours ≡ h → p.missing ≡ m → p ≡ record { total = t; hours = h; missing = m }
by_fields p t h m a b c = rw (← a, ← b, ← c)

pub returns : goal.returns
unfolding of_bits of_int as_total empty_panel
returns c = by_fields _ _ _ _ c.default.ensures.0 c.default.ensures.1.0 c.default.ensures.1.1

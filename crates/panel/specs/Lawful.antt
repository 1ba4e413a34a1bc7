-- 12: which states of a panel are lawful, and which whole number a total stands for.
use Rattle.std.specs.Prelude.{ℕ, ◌*◌, ◌/◌, ◌%◌, ◌^◌, Bool, false, not, ◌&&◌, pos, ◌==◌, nat_le, Float}
use Rattle.std.specs.Float.{nan, inf, fin, binary64}
use Rattle.std.specs.Float.Ieee.{up, down, of_int}
use Rattle.law.specs.Numbers.{most_hours}
use Rattle.panel.specs.declared.Panel.{Panel}

-- the whole number that a total stands for
unfoldable pub whole : Float → ℕ
whole nan = 0
whole (inf negative) = 0
whole (fin negative m e) = m * up e / down e

-- "total .. a whole number from +0 to 2^53"
unfoldable pub lawful_total : Float → Bool
lawful_total nan = false
lawful_total (inf negative) = false
lawful_total (fin negative m e) = not negative && m * up e % down e == 0 && nat_le (m * up e / down e) (2 ^ 53)

-- 12: "total not a whole number from +0 to 2^53, hours over 2,208, missing over hours"
unfoldable pub lawful : Panel → Bool
lawful p = lawful_total p.total && nat_le p.hours most_hours && nat_le p.missing p.hours

-- "up to 2^53 the f64 total equals the whole number exactly": the f64 of a whole number
unfoldable pub as_total : ℕ → Float
as_total n = of_int binary64 (pos n)

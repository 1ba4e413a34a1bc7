-- What a row of the code's table A.1 holds, as the rules have it; and how large an entry of the tables is at most.
use Rattle.std.specs.Prelude.{◌≤◌, Option, Some, None}
use Rattle.rules.specs.declared.Coefficients.{Coefficients}
use Rattle.rules.specs.declared.Coefficients.TheVariants.{Balance, Oxides, Dust}
use Rattle.rules.specs.Tables.{SizeClass, no_class}
use Rattle.tables.specs.declared.classes.ClassRow.{ClassRow}

-- a row of the code's table A.1, or a row with no entry
abbrev pub size_class_of : Option ClassRow → SizeClass
size_class_of (Some r) = record { from = r.from; pulverised = r.pulverised; bed = r.bed; oxides = r.oxides }
size_class_of None = no_class

-- what the tables have for a line is small: q at most 40, K at most 90; an oxides coefficient at most 801; a at most 936, b at most 1,113
abbrev pub Small : Option Coefficients → Type 0
Small (Some (Balance q k)) = (q ≤ 40) × (k ≤ 90)
Small (Some (Oxides coefficient)) = coefficient ≤ 801
Small (Some (Dust a b)) = (a ≤ 936) × (b ≤ 1_113)
Small None = Unit

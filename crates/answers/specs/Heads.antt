-- The heads of a file, in file order: what opens its first line, its second, and so on.
use Rattle.std.specs.Prelude.{List, [], ◌∷◌, ℕ}
use Rattle.rules.specs.declared.Head.{Head}
use Rattle.rules.specs.declared.Record.{Record}
use Rattle.rules.specs.declared.Record.TheVariants.{Bad, OfHead, OfDay, OfEnforcement, OfPlant, OfBatch, OfEnd, OfOutfallHead, OfOutfallDay, OfOutfallEnforcement, OfOutfallPlant}
use Rattle.rules.specs.Outfalls.{as_head}
use Rattle.rules.specs.Records.{Placed, record_in, records_of}

-- a head, of a stack or of an outfall, is put before those that follow, any other record passed over
unfoldable pub heads_with : Record → List Head → List Head
heads_with Bad more = more
heads_with (OfHead h) more = h ∷ more
heads_with (OfDay d) more = more
heads_with (OfEnforcement s) more = more
heads_with (OfPlant s) more = more
heads_with (OfBatch b) more = more
heads_with OfEnd more = more
heads_with (OfOutfallHead o) more = as_head o ∷ more
heads_with (OfOutfallDay d) more = more
heads_with (OfOutfallEnforcement s) more = more
heads_with (OfOutfallPlant s) more = more

unfoldable pub heads_in : List Placed → List Head
heads_in [] = []
heads_in (p ∷ ps) = heads_with (record_in p.bytes) (heads_in ps)

abbrev pub heads_of : List ℕ → List Head
heads_of file = heads_in (records_of file)

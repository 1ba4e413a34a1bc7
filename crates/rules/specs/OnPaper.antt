-- "When an answer is an enum, a definition states this paper's number and values for each of its cases": an answer as document 01 would write it down.
use Rattle.std.specs.Prelude.{ℕ, List, [], ◌∷◌, Option, Some, None}
use Rattle.rules.specs.declared.Record.{Record}
use Rattle.rules.specs.declared.Record.TheVariants.{Bad, OfHead, OfDay, OfEnforcement, OfPlant, OfBatch, OfEnd, OfOutfallHead, OfOutfallDay, OfOutfallEnforcement, OfOutfallPlant}
use Rattle.rules.specs.declared.Coefficients.{Coefficients}
use Rattle.rules.specs.declared.Coefficients.TheVariants.{Balance, Oxides, Dust}

-- the number that refuses it, 0 where none does; and its values
pub record OnPaper : Type 0 where
  pub number : ℕ
  pub values : List ℕ

-- a number that says no, and no values
abbrev pub says_no : ℕ → OnPaper
says_no number = record { number = number; values = [] }

-- values, and nothing says no
abbrev pub says : List ℕ → OnPaper
says values = record { number = 0; values = values }

-- a record: its kind and its body, in the order of the table of kinds; the readings of a stack's day stay in the file. 1 is "record cut short, unknown kind, wrong
-- length for its kind"
unfoldable pub record_on_paper : Record → OnPaper
record_on_paper Bad = says_no 1
record_on_paper (OfHead h) =
    says (1 ∷ h.stack ∷ h.pollutant ∷ h.required ∷ h.furnace ∷ h.coal ∷ h.mw ∷ h.mark ∷ h.days ∷ [])
record_on_paper (OfDay m) = says (2 ∷ m.day ∷ m.run ∷ m.measured ∷ [])
record_on_paper (OfEnforcement s) = says (3 ∷ s.hour ∷ s.pair.concentration ∷ s.pair.flow ∷ [])
record_on_paper (OfPlant s) = says (4 ∷ s.hour ∷ s.pair.concentration ∷ s.pair.flow ∷ [])
record_on_paper (OfBatch b) = says (5 ∷ b.kg ∷ b.sulphur ∷ b.ash ∷ [])
record_on_paper OfEnd = says (6 ∷ [])
record_on_paper (OfOutfallHead o) = says (9 ∷ o.outfall ∷ o.pollutant ∷ o.days ∷ [])
record_on_paper (OfOutfallDay d) = says (10 ∷ d.day ∷ d.state ∷ d.pair.concentration ∷ d.pair.flow ∷ [])
record_on_paper (OfOutfallEnforcement s) = says (11 ∷ s.hour ∷ s.pair.concentration ∷ s.pair.flow ∷ [])
record_on_paper (OfOutfallPlant s) = says (12 ∷ s.hour ∷ s.pair.concentration ∷ s.pair.flow ∷ [])

-- what the tables have: the formula, 4 or 5, and what it takes: q and K, the coefficient of oxides, a and b of dust. 7 is "method 3 or 4 with no table
-- entry"
unfoldable pub coefficients_on_paper : Option Coefficients → OnPaper
coefficients_on_paper (Some (Balance q k)) = says (4 ∷ q ∷ k ∷ [])
coefficients_on_paper (Some (Oxides coefficient)) = says (5 ∷ coefficient ∷ [])
coefficients_on_paper (Some (Dust a b)) = says (5 ∷ a ∷ b ∷ [])
coefficients_on_paper None = says_no 7

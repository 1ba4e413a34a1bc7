-- Paper loses nothing: every case of an answer is read back from what it says on paper. Assumes nothing.
use Prim.Native.Nat.{ℕ}
use mathlib.Core.List.{List, [], ◌∷◌}
use mathlib.Core.Path.{◌≡◌, refl, sym, ap, ◌∙◌}
use lib.ListN.{get_or}
use Rattle.std.specs.Prelude.{Option, Some, None}
use lib.Dec.{eqb}
use Rattle.law.specs.Words.{pick}
use Rattle.rules.specs.declared.Survey.{Survey}
use Rattle.rules.specs.declared.Record.{Record}
use Rattle.rules.specs.declared.Record.TheVariants.{Bad, OfHead, OfDay, OfEnforcement, OfPlant, OfBatch, OfEnd, OfOutfallHead, OfOutfallDay, OfOutfallEnforcement, OfOutfallPlant}
use Rattle.rules.specs.declared.Coefficients.{Coefficients}
use Rattle.rules.specs.declared.Coefficients.TheVariants.{Balance, Oxides, Dust}
use Rattle.rules.specs.OnPaper.{OnPaper, record_on_paper, coefficients_on_paper}

-- answers that are read back and say the same are one
pub read_back : {A : Type 0} (paper : A → OnPaper) (back : OnPaper → A) → ((r : A) → back (paper r) ≡ r) → (r s : A) → paper r ≡ paper s → r ≡ s
read_back paper back law r s e = sym (law r) ∙ ap back e ∙ law s

-- ---- a record, by its kind
survey-from : List ℕ → Survey
survey-from v = record { hour = get_or v 0 0; pair = record { concentration = get_or v 1 0; flow = get_or v 2 0 } }

water_from : ℕ → List ℕ → Record
water_from kind v =
    pick (eqb kind 9) (OfOutfallHead (record { outfall = get_or v 0 0; pollutant = get_or v 1 0; days = get_or v 2 0 }))
    (pick (eqb kind 10) (OfOutfallDay (record { day = get_or v 0 0; state = get_or v 1 0; pair = record { concentration = get_or v 2 0; flow = get_or v 3 0 } }))
    (pick (eqb kind 11) (OfOutfallEnforcement (survey-from v)) (OfOutfallPlant (survey-from v))))

record_from : List ℕ → Record
record_from [] = Bad
record_from (kind ∷ v) =
    pick (eqb kind 1)
    (OfHead (record { stack = get_or v 0 0; pollutant = get_or v 1 0; required = get_or v 2 0; furnace = get_or v 3 0; coal = get_or v 4 0; mw = get_or v 5 0; mark = get_or v 6 0; days = get_or v 7 0 }))
    (pick (eqb kind 2) (OfDay (record { day = get_or v 0 0; run = get_or v 1 0; measured = get_or v 2 0 }))
    (pick (eqb kind 3) (OfEnforcement (survey-from v))
    (pick (eqb kind 4) (OfPlant (survey-from v))
    (pick (eqb kind 5) (OfBatch (record { kg = get_or v 0 0; sulphur = get_or v 1 0; ash = get_or v 2 0 }))
    (pick (eqb kind 6) OfEnd (water_from kind v))))))

record_back : (r : Record) → record_from (record_on_paper r).values ≡ r
unfolding record_on_paper record_from water_from survey-from pick
record_back Bad = refl
record_back (OfHead h) = refl
record_back (OfDay m) = refl
record_back (OfEnforcement s) = refl
record_back (OfPlant s) = refl
record_back (OfBatch b) = refl
record_back OfEnd = refl
record_back (OfOutfallHead o) = refl
record_back (OfOutfallDay d) = refl
record_back (OfOutfallEnforcement s) = refl
record_back (OfOutfallPlant s) = refl

pub record_only : (r s : Record) → record_on_paper r ≡ record_on_paper s → r ≡ s
record_only r s e = read_back record_on_paper (λ p. record_from p.values) record_back r s e

-- ---- what the tables have, by its formula
coefficients_from : List ℕ → Option Coefficients
coefficients_from [] = None
coefficients_from (formula ∷ []) = None
coefficients_from (formula ∷ c ∷ []) = Some (Oxides c)
coefficients_from (formula ∷ a ∷ b ∷ v) = Some (pick (eqb formula 4) (Balance a b) (Dust a b))

coefficients_back : (c : Option Coefficients) → coefficients_from (coefficients_on_paper c).values ≡ c
unfolding coefficients_on_paper coefficients_from pick
coefficients_back (Some (Balance q k)) = refl
coefficients_back (Some (Oxides c)) = refl
coefficients_back (Some (Dust a b)) = refl
coefficients_back None = refl

pub coefficients_only : (c d : Option Coefficients) → coefficients_on_paper c ≡ coefficients_on_paper d → c ≡ d
coefficients_only c d e = read_back coefficients_on_paper (λ p. coefficients_from p.values) coefficients_back c d e

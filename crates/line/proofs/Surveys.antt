-- The figures of a survey are those of its readings. Assumes nothing.
use mathlib.Core.Path.{◌≡◌, ap, ◌∙◌}
use mathlib.Core.List.{List}
use Prim.Native.Nat.{ℕ, ◌*◌}
use lib.ListN.{set}
use Rattle.reading.specs.declared.FlaggedPair.{FlaggedPair}
use Rattle.reading.specs.Reading.{flagged_pair, flagged_hour}
use Rattle.rules.specs.Hours.{measured_of}
use Rattle.rules.specs.declared.Survey.{Survey}
use Rattle.line.specs.declared.surveyed.Weighed.{Weighed}
use Rattle.line.specs.Put.{in_tables, survey_c, survey_l, standing, nothing, PutAt}

module _ (t : Survey) (r : FlaggedPair) (e : r ≡ flagged_hour (measured_of t.pair)) where
  pub concentration-is : r.concentration ≡ survey_c t
  unfolding flagged_pair flagged_hour
  concentration-is = ap (λ (f : FlaggedPair). f.concentration) e

  pub flow-is : r.flow ≡ survey_l t
  unfolding flagged_pair flagged_hour
  flow-is = ap (λ (f : FlaggedPair). f.flow) e

-- the tables, each by itself
pub tables_are : (a b c d a' b' c' d' : List ℕ) → a ≡ a' → b ≡ b' → c ≡ c' → d ≡ d' → in_tables a b c d ≡ in_tables a' b' c' d'
tables_are a b c d a' b' c' d' p q r s = cc

-- a cell that is set, its value a fact of its own
pub cell_is : (m n : ℕ) (cells out : List ℕ) (h : ℕ) → out ≡ set cells h n → n ≡ m → out ≡ set cells h m
cell_is m n cells out h e q = e ∙ ap (set cells h) q

-- what a survey adds, each figure by itself, so that a wrong one is named
pub adds : (w : Weighed) (c l found : ℕ) → w.count ≡ 1 → w.weight ≡ c * l → w.found ≡ found → w ≡ standing c l found
adds w c l found p q r = λ i. record { count = p i; weight = q i; found = r i }

-- what nothing adds
pub nothing-is : (w : Weighed) → (w.count ≡ 0) × ((w.weight ≡ 0) × (w.found ≡ 0)) → w ≡ nothing
nothing-is w e = λ i. record { count = e.0 i; weight = e.1.0 i; found = e.1.1 i }

-- a survey put in, by what was found
module _ (t : Survey) (n m : ℕ) {states conc flow states' conc' flow' : List ℕ} {r : Weighed} where
  pub put_found : n ≡ m → PutAt t n states conc flow states' conc' flow' r → PutAt t m states conc flow states' conc' flow' r
  put_found e p =
      record { weighs = p.weighs ∙ ap (standing (survey_c t) (survey_l t)) e; states_now = p.states_now; conc_now = p.conc_now; flow_now = p.flow_now }

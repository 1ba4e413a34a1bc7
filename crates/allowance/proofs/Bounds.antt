-- In the words of those who read a line: from its grams and its allowance, between which figures the exact one lies. Times four, and times 2^300 (method 1)
-- or n times 2^298 (method 2), so that all stands in whole numbers. Assumes nothing.
use mathlib.Core.Path.{◌≡◌}
use Prim.Native.Nat.{ℕ, ◌+◌, ◌*◌, ◌^◌, ◌≤◌}
use native.Mathlib.Omega.{arith}
use lib.ListN.{length}
use Rattle.law.specs.Words.{apart}
use Rattle.rules.specs.Lines.{StackLine}
use Rattle.rules.specs.Outfalls.{OutfallLine}
use Rattle.rules.specs.Measured.{Measured, of_stack, of_outfall}
use Rattle.rules.specs.Method.{method, outfall_method}
use Rattle.rules.specs.Grams.{grams, outfall_grams}
use Rattle.allowance.specs.Exact.{exact_automatic, exact_manual}
use Rattle.allowance.specs.Allowance.{Filling, in_air, in_water, automatic_allowance, manual_allowance, AutomaticNear, ManualNear}
use Rattle.allowance.proofs.Near.{stack_near, outfall_near}

-- no less than the stated figure less the allowance, and no more than the stated figure with it
abbrev pub Between : ℕ → ℕ → ℕ → Type 0
Between stated allowance exact = (4 * stated ≤ 4 * exact + allowance) × (4 * exact ≤ 4 * stated + allowance)

abbrev pub AutomaticBetween : Filling → Measured → ℕ → Type 0
AutomaticBetween f m G = Between (m.units * G * 2 ^ 300) ((2 * m.units + automatic_allowance f m) * 2 ^ 300) (exact_automatic f.exactly m)

abbrev pub ManualBetween : Measured → ℕ → Type 0
ManualBetween m G =
    Between (length m.surveys * m.units * G * 2 ^ 298) ((2 * (length m.surveys * m.units) + manual_allowance m) * 2 ^ 298) (exact_manual m)

-- ---- once, for air and water
both-sides : (a b d : ℕ) → 4 * apart a b ≤ d → Between a d b
unfolding apart
both-sides a b d h = (omega arith, omega arith)

pub automatic-between : (f : Filling) (m : Measured) (G : ℕ) → AutomaticNear f m G → AutomaticBetween f m G
unfolding AutomaticNear
automatic-between f m G h = both-sides _ _ _ h

pub manual-between : (m : Measured) (G : ℕ) → ManualNear m G → ManualBetween m G
unfolding ManualNear
manual-between m G h = both-sides _ _ _ h

-- ---- of a line by its method
pub stack_between : (x : StackLine) → (method x ≡ 1 → AutomaticBetween in_air (of_stack x) (grams x)) × (method x ≡ 2 → ManualBetween (of_stack x) (grams x))
stack_between x = (λ m. automatic-between _ _ _ ((stack_near x).automatic m), λ m. manual-between _ _ ((stack_near x).manual m))

pub outfall_between : (x : OutfallLine)
    → (outfall_method x ≡ 1 → AutomaticBetween in_water (of_outfall x) (outfall_grams x)) × (outfall_method x ≡ 2 → ManualBetween (of_outfall x) (outfall_grams x))
outfall_between x = (λ m. automatic-between _ _ _ ((outfall_near x).automatic m), λ m. manual-between _ _ ((outfall_near x).manual m))

-- What a turn of a scan and of a run of measured hours does. Assumes nothing.
use mathlib.Core.Path.{◌≡◌, ◌∙◌, ap, sym, subst}
use mathlib.Core.Logic.{⊎_elim}
use mathlib.Core.List.{List}
use Prim.Native.Nat.{ℕ, ◌+◌, ◌-◌, ◌<◌, ◌≤◌}
use native.Mathlib.Nat.{eq-or-lt_of_le}
use native.Mathlib.Omega.{arith}
use lib.ListN.{length, get_or, drop, length-drop}
use lib.Seq.{get_or-drop}
use Rattle.rules.specs.Slots.{run}
use Rattle.fills.specs.Gaps.{row}
use Rattle.fills.specs.Parts.{Scanned, Measured}
use Rattle.fills.proofs.Neighbours.{from}
use Rattle.fills.proofs.States.{run_valid, run_missing, run_stopped, run_none}

-- what holds from i up to n, and at n
one_more_lem : (P : ℕ → Type 0) (i n : ℕ) → ((k : ℕ) → k < n → i ≤ k → P k) → P n → (k : ℕ) → k < n + 1 → i ≤ k → P k
one_more_lem P i n h e k p q =
    ⊎_elim (λ (z : k ≡ n). subst P (sym z) e) (λ (z : k < n). h k z q) (eq-or-lt_of_le (let l : k ≤ n = omega arith in l))

-- the scan stands at hour `next`, with so many missing hours behind it and the rest of the run before it
module _ (states : List ℕ) (first : ℕ) where
  pub record Scanning (missing next : ℕ) : Type 0 where
    pub begins : first ≤ next
    pub ends : next ≤ length states
    pub few : missing ≤ next
    pub passes : (k : ℕ) → k < next → first ≤ k → get_or states k 0 ≡ 2 → ⊥
    pub counts : (values : List ℕ) → missing + run (from (row states values) next) ≡ run (from (row states values) first)

module _ (states : List ℕ) (first : ℕ) where
  pub scanning_start : first ≤ length states → Scanning states first 0 first
  scanning_start l =
      record { begins = omega arith; ends = l; few = omega arith; passes = λ k p q. absurd (let z : ⊥ = omega arith in z); counts = λ values. omega arith }

  module _ (missing next : ℕ) (s : Scanning states first missing next) where
    pub scanning_end : length states ≤ next → Scanned states first missing next
    scanning_end l =
        record {
          counts = λ values. omega (arith, s.counts values, run_none states values next l);
          begins = s.begins;
          ends = s.ends;
          passes = s.passes;
          stops = λ p. absurd (let z : ⊥ = omega arith in z);
        }

    module _ (l : next < length states) where
      pub scanning_hit : get_or states next 0 ≡ 2 → Scanned states first missing next
      scanning_hit e =
          record {
            counts = λ values. omega (arith, s.counts values, run_valid states values next l e);
            begins = s.begins;
            ends = s.ends;
            passes = s.passes;
            stops = λ p. e;
          }

      pub scanning_missing : get_or states next 0 ≡ 1 → (m : ℕ) → m ≡ missing + 1 → Scanning states first m (next + 1)
      scanning_missing e m more =
          record {
            begins = omega (arith, s.begins);
            ends = omega arith;
            few = omega (arith, s.few);
            passes = one_more_lem (λ k. get_or states k 0 ≡ 2 → ⊥) first next s.passes (λ f. omega arith);
            counts = λ values. omega (arith, s.counts values, run_missing states values next l e);
          }

      pub scanning_stopped : (get_or states next 0 ≡ 2 → ⊥) → (get_or states next 0 ≡ 1 → ⊥) → (m : ℕ) → m ≡ missing → Scanning states first m (next + 1)
      scanning_stopped q p m same =
          record {
            begins = omega (arith, s.begins);
            ends = omega arith;
            few = omega (arith, s.few);
            passes = one_more_lem (λ k. get_or states k 0 ≡ 2 → ⊥) first next s.passes q;
            counts = λ values. omega (arith, s.counts values, run_stopped states values next l q p);
          }

  -- a run of measured hours
  pub measured_run : (part : List ℕ) (r : ℕ) → part ≡ drop first states → first ≤ length states → r ≤ length part → ((k : ℕ) → k < r → get_or part k 0 ≡ 2) → Measured states first (first + r)
  measured_run part r f l m e =
      record {
        begins = omega arith;
        ends = omega (arith, m, ap length f, length-drop first states);
        all =
            λ k p q. ap (λ (j : ℕ). get_or states j 0) (let z : k ≡ first + (k - first) = omega arith in z)
            ∙ sym (get_or-drop first states (k - first) 0) ∙ ap (λ (t : List ℕ). get_or t (k - first) 0) (sym f) ∙ e (k - first) (omega arith);
      }

-- An hour by its state, 2 valid, 1 missing and any other stopped, and the hours in a row. Assumes nothing.
use mathlib.Core.Path.{◌≡◌, refl, ◌∙◌, sym}
use mathlib.Core.Bool.{Bool, true, false}
use mathlib.Core.Logic.{inl, inr}
use mathlib.Core.List.{List, [], ◌∷◌}
use Prim.Native.Nat.{ℕ, suc, ◌+◌, ◌<◌, ◌≤◌}
use native.Mathlib.Omega.{arith}
use lib.ListN.{length, get_or}
use lib.Dec.{eqb}
use borrow.Author.Tests.{eqb-true, eqb-false}
use Rattle.law.specs.Words.{pick}
use Rattle.law.proofs.Tests.{pick_eq, pick_not_eq}
use Rattle.law.proofs.Tabled.{table_length, table_at}
use Rattle.rules.specs.Slots.{valid, missing, stopped, run, valids}
use Rattle.fills.specs.Gaps.{slot_at, row}
use Rattle.fills.proofs.Neighbours.{At, Empty, from, run_from, run_end, valids_from, valids_end, alike_step}

module _ (states values : List ℕ) where
  pub row-length : length (row states values) ≡ length states
  row-length = table_length (slot_at states values) (length states)

  module _ (k : ℕ) where
    pub slot_valid : get_or states k 0 ≡ 2 → slot_at states values k ≡ valid (get_or values k 0)
    unfolding slot_at
    slot_valid e = sym (pick_eq _ _ _ _ _ e refl)

    pub slot_missing : get_or states k 0 ≡ 1 → slot_at states values k ≡ missing
    unfolding slot_at
    slot_missing e = sym (pick_not_eq _ _ _ _ _ (λ (f : get_or states k 0 ≡ 2). omega arith) (pick_eq _ _ _ _ _ e refl))

    pub slot_stopped : (get_or states k 0 ≡ 2 → ⊥) → (get_or states k 0 ≡ 1 → ⊥) → slot_at states values k ≡ stopped
    unfolding slot_at
    slot_stopped n m = sym (pick_not_eq _ _ _ _ _ n (pick_not_eq _ _ _ _ _ m refl))

    -- and a valid hour holds its cell's value
    holds_by : (v : ℕ) (t u : Bool) → pick t (valid (get_or values k 0)) (pick u missing stopped) ≡ valid v → v ≡ get_or values k 0
    unfolding pick
    holds_by v true u e = cc
    holds_by v false true e = cc
    holds_by v false false e = cc

    pub slot_holds : (v : ℕ) → slot_at states values k ≡ valid v → v ≡ get_or values k 0
    unfolding slot_at
    slot_holds v e = holds_by v (eqb (get_or states k 0) 2) (eqb (get_or states k 0) 1) e

  module _ (k : ℕ) where
    -- the row's end
    pub run_none : length states ≤ k → run (from (row states values) k) ≡ 0
    run_none l = run_end (row states values) k (omega (arith, row-length))

    pub valids_none : length states ≤ k → valids (from (row states values) k) ≡ []
    valids_none l = valids_end (row states values) k (omega (arith, row-length))

    module _ (l : k < length states) where
      pub in_row : k < length (row states values)
      in_row = omega (arith, row-length)

      -- hour k in the row
      pub at_slot : At (row states values) k (slot_at states values k)
      at_slot = table_at (slot_at states values) (length states) k stopped l

      pub at-valid : get_or states k 0 ≡ 2 → At (row states values) k (valid (get_or values k 0))
      at-valid e = at_slot ∙ slot_valid k e

      pub at-missing : get_or states k 0 ≡ 1 → At (row states values) k missing
      at-missing e = at_slot ∙ slot_missing k e

      pub at-stopped : (get_or states k 0 ≡ 2 → ⊥) → (get_or states k 0 ≡ 1 → ⊥) → At (row states values) k stopped
      at-stopped p q = at_slot ∙ slot_stopped k p q

      empty_by : (t : Bool) → eqb (get_or states k 0) 1 ≡ t → (get_or states k 0 ≡ 2 → ⊥) → Empty (row states values) k
      empty_by true e p = inl (at-missing (eqb-true (get_or states k 0) 1 e))
      empty_by false e p = inr (at-stopped p (eqb-false (get_or states k 0) 1 e))

      pub at-empty : (get_or states k 0 ≡ 2 → ⊥) → Empty (row states values) k
      at-empty p = empty_by (eqb (get_or states k 0) 1) refl p

      -- what is left of a run and of the valid values, once hour k is passed
      pub run_valid : get_or states k 0 ≡ 2 → run (from (row states values) k) ≡ 0
      run_valid e = run_from (row states values) k (valid (get_or values k 0)) in_row (at-valid e)

      pub run_missing : get_or states k 0 ≡ 1 → run (from (row states values) k) ≡ suc (run (from (row states values) (k + 1)))
      run_missing e = run_from (row states values) k missing in_row (at-missing e)

      pub run_stopped : (get_or states k 0 ≡ 2 → ⊥) → (get_or states k 0 ≡ 1 → ⊥) → run (from (row states values) k) ≡ run (from (row states values) (k + 1))
      run_stopped p q = run_from (row states values) k stopped in_row (at-stopped p q)

      pub valids_valid : get_or states k 0 ≡ 2 → valids (from (row states values) k) ≡ get_or values k 0 ∷ valids (from (row states values) (k + 1))
      valids_valid e = valids_from (row states values) k (valid (get_or values k 0)) in_row (at-valid e)

      pub valids_empty : (get_or states k 0 ≡ 2 → ⊥) → valids (from (row states values) (k + 1)) ≡ valids (from (row states values) k)
      valids_empty p = (alike_step (row states values) k in_row (at-empty p)).2

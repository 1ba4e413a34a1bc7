-- What is put aside of one quantity before hour i: its valid values so far, b of them, and those left are all. Assumes nothing.
use mathlib.Core.Path.{◌≡◌, refl, ◌∙◌, sym, ap}
use mathlib.Core.List.{List, ◌++◌, append-nil}
use Prim.Native.Nat.{ℕ, ◌+◌, ◌<◌, ◌≤◌}
use lib.ListN.{length, get_or, take, set, length-set}
use Rattle.law.proofs.Over.{gather_more}
use Rattle.rules.specs.Slots.{valids}
use Rattle.fills.specs.Gaps.{row}
use Rattle.fills.proofs.Neighbours.{from}
use Rattle.fills.proofs.States.{valids_valid, valids_empty, valids_none}

module _ (states values out₀ : List ℕ) where
  pub record Gathered (out : List ℕ) (b i : ℕ) : Type 0 where
    pub size : length out ≡ length out₀
    pub so_far : take b out ++ valids (from (row states values) i) ≡ valids (row states values)

module _ (states values out₀ : List ℕ) where
  pub gathered_start : Gathered states values out₀ out₀ 0 0
  gathered_start = record { size = refl; so_far = refl }

  module _ (out : List ℕ) (b i : ℕ) (l : i < length states) (g : Gathered states values out₀ out b i) where
    pub gathered_valid : get_or states i 0 ≡ 2 → b < length out → Gathered states values out₀ (set out b (get_or values i 0)) (b + 1) (i + 1)
    gathered_valid e m =
        record {
          size = length-set out b (get_or values i 0) ∙ g.size;
          so_far =
              gather_more out (valids (from (row states values) i)) (valids (from (row states values) (i + 1))) b (get_or values i 0) m (valids_valid states values i l e) ∙ g.so_far;
        }

    pub gathered_empty : (get_or states i 0 ≡ 2 → ⊥) → Gathered states values out₀ out b (i + 1)
    gathered_empty n =
        record {
          size = g.size;
          so_far = ap (λ (t : List ℕ). take b out ++ t) (valids_empty states values i l n) ∙ g.so_far;
        }

  pub gathered_done : (out : List ℕ) (b i : ℕ) → length states ≤ i → Gathered states values out₀ out b i → take b out ≡ valids (row states values)
  gathered_done out b i l g =
      sym (append-nil (take b out)) ∙ ap (λ (t : List ℕ). take b out ++ t) (sym (valids_none states values i l)) ∙ g.so_far

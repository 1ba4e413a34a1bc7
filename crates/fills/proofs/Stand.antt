-- Where the walk over a line's hours stands in one quantity, and what a turn of it does: an hour that is valid, one that is stopped, and a gap. Assumes nothing.
use mathlib.Core.Path.{◌≡◌, refl, ◌∙◌, sym, ap, ap₂, subst}
use mathlib.Core.Logic.{⊎_elim}
use mathlib.Core.List.{List, [], ◌∷◌, ◌++◌, reverse, reverse-append}
use Prim.Native.Nat.{ℕ, zero, suc, ◌+◌, ◌-◌, ◌<◌, ◌≤◌}
use native.Mathlib.Nat.{eq-or-lt_of_le}
use native.Mathlib.Numerals.{add-one}
use native.Mathlib.Omega.{arith}
use lib.ListN.{length, get_or, take, drop, length-drop, length-take}
use lib.Seq.{take-suc, drop-drop, get_or-drop, get_or-take}
use lib.Dec.{eqb}
use borrow.Author.Tests.{eqb-true}
use Rattle.law.specs.Words.{pick, table, over}
use Rattle.law.proofs.Tests.{pick_not_eq, pick_same}
use Rattle.law.proofs.Over.{over_none, over_skip, over_back, over_part, part-back, length_over, over_all}
use Rattle.law.proofs.Tabled.{table_same}
use Rattle.rules.specs.Slots.{Slot, valid, stopped, run, valids}
use Rattle.rules.specs.Fill.{fill, mean_up, same}
use Rattle.fills.specs.Gaps.{row, fill_at, cell_at, filled_cells}
use Rattle.fills.specs.Parts.{Scanned, Measured, spot, patched}
use Rattle.fills.proofs.Neighbours.{before, from, Empty, run_before, valids_before, valids_from, none_before, alike, fill_alike}
use Rattle.fills.proofs.States.{row-length, in_row, at-valid, at-missing, at-stopped, at-empty}

-- the cells of the hours from i up to the next measured one: what comes back of them from the filler
pub part_filled : (states values ys : List ℕ) (v i next : ℕ) → i ≤ next → next ≤ length values
    → ys ≡ over (spot (take (next - i) (drop i states)) v (take (next - i) (drop i values))) (length (take (next - i) (drop i values))) (take (next - i) (drop i values))
    → take i values ++ (ys ++ drop (next - i) (drop i values)) ≡ patched states v i next values
part_filled states values ys v i next from fits e =
    let m = next - i in
    let p = take m (drop i values) in
    let long : length p ≡ m = simp (length-take, length-drop) (omega (arith, from, fits)) in
    let f = spot (take m (drop i states)) v p in
    let g = spot (drop i states) v (drop i values) in
    let same-cells : table f m ≡ table g m =
    table_same f g m (λ k l. ap₂ (λ (s x : ℕ). pick (eqb s 1) v x) (get_or-take m (drop i states) k 0 l) (get_or-take m (drop i values) k 0 l)) in
    let written : ys ≡ table g m = e ∙ ap (λ (n : ℕ). over f n p) long ∙ over_all f m p (omega (arith, long)) ∙ same-cells in
    ap (λ (t : List ℕ). take i values ++ (t ++ drop m (drop i values))) written

module _ (states values₀ kept : List ℕ) where
  -- at hour i the cells before it are done, b of the valid values stand before it, and if it is not valid, no gap has begun
  pub record Stand (values : List ℕ) (b i : ℕ) : Type 0 where
    pub in_values : length states ≤ length values₀
    pub in_hours : i ≤ length states
    pub in_kept : b ≤ length kept
    pub size : length values ≡ length values₀
    pub done : values ≡ over (cell_at states values₀) i values₀
    pub earlier : reverse (take b kept) ≡ valids (before (row states values₀) i)
    pub later : drop b kept ≡ valids (from (row states values₀) i)
    pub fresh : i < length states → (get_or states i 0 ≡ 2 → ⊥) → run (before (row states values₀) i) ≡ 0

module _ (states values₀ kept : List ℕ) where
  abbrev slots : List (Slot ℕ)
  slots = row states values₀

  pub stand_start : length states ≤ length values₀ → kept ≡ valids (row states values₀) → Stand states values₀ kept values₀ 0 0
  stand_start m e =
      record {
        in_values = m;
        in_hours = omega arith;
        in_kept = omega arith;
        size = refl;
        done = over_none (cell_at states values₀) values₀;
        earlier = sym (none_before slots).1;
        later = e;
        fresh = λ l p. (none_before slots).0;
      }

  pub stand_end : (values : List ℕ) (b i : ℕ) → length states ≤ i → Stand states values₀ kept values b i → values ≡ filled_cells states values₀
  unfolding filled_cells
  stand_end values b i l s =
      let e : i ≡ length states = omega arith in
      s.done ∙ ap (λ (k : ℕ). over (cell_at states values₀) k values₀) e

  -- a cell that is not missing stays
  kept-cell : (i : ℕ) → (get_or states i 0 ≡ 1 → ⊥) → cell_at states values₀ i ≡ get_or values₀ i 0
  unfolding cell_at
  kept-cell i m = sym (pick_not_eq _ _ _ _ _ m refl)

  module _ (values : List ℕ) (b i : ℕ) (l : i < length states) (s : Stand states values₀ kept values b i) where
    pub stand_valid : get_or states i 0 ≡ 2 → (b' : ℕ) → b' ≡ b + 1 → Stand states values₀ kept values b' (i + 1)
    stand_valid e b' next =
        let v = get_or values₀ i 0 in
        let r = in_row states values₀ i l in
        let slot = at-valid states values₀ i l e in
        let here : drop b kept ≡ v ∷ valids (from slots (i + 1)) = s.later ∙ valids_from slots i (valid v) r slot in
        let size : length kept - b ≡ suc (length (valids (from slots (i + 1)))) = sym (length-drop b kept) ∙ ap length here in
        let more : b < length kept = omega arith in
        let first : get_or kept b 0 ≡ v = ap (λ (k : ℕ). get_or kept k 0) (let z : b ≡ b + 0 = omega arith in z) ∙ sym (get_or-drop b kept 0 0) ∙ ap (λ (t : List ℕ). get_or t 0 0) here in
        record {
          in_values = s.in_values;
          in_hours = omega arith;
          in_kept = omega arith;
          size = s.size;
          done = s.done ∙ over_skip (cell_at states values₀) i values₀ (omega arith) (kept-cell i (λ f. omega arith));
          earlier =
              ap (λ (k : ℕ). reverse (take k kept)) (next ∙ add-one b)
              ∙ ap reverse (take-suc kept b 0 more)
              ∙ reverse-append (take b kept) (get_or kept b 0 ∷ [])
              ∙ ap₂ (λ (x : ℕ) (t : List ℕ). x ∷ t) first s.earlier
              ∙ sym (valids_before slots i (valid v) r slot);
          later = ap (λ (k : ℕ). drop k kept) next ∙ sym (drop-drop 1 b kept) ∙ ap (drop 1) here;
          fresh = λ m q. run_before slots i (valid v) r slot;
        }

    pub stand_stopped : (get_or states i 0 ≡ 2 → ⊥) → (get_or states i 0 ≡ 1 → ⊥) → (b' : ℕ) → b' ≡ b → Stand states values₀ kept values b' (i + 1)
    stand_stopped q p b' same-b =
        let r = in_row states values₀ i l in
        let slot = at-stopped states values₀ i l q p in
        record {
          in_values = s.in_values;
          in_hours = omega arith;
          in_kept = omega (arith, s.in_kept);
          size = s.size;
          done = s.done ∙ over_skip (cell_at states values₀) i values₀ (omega arith) (kept-cell i p);
          earlier = ap (λ (k : ℕ). reverse (take k kept)) same-b ∙ s.earlier ∙ sym (valids_before slots i stopped r slot);
          later = ap (λ (k : ℕ). drop k kept) same-b ∙ s.later ∙ valids_from slots i stopped r slot;
          fresh = λ m f. run_before slots i stopped r slot ∙ s.fresh l q;
        }

    -- a gap: its fill is found at its first hour, and every missing hour of it has that fill
    module _ (e : get_or states i 0 ≡ 1) (gap next : ℕ) (g : Scanned states i gap next) where
      abbrev v : ℕ
      v = fill mean_up same gap (reverse (take b kept)) (drop b kept)

      part-values : (k : ℕ) → get_or (drop i values) k 0 ≡ get_or values₀ (i + k) 0
      part-values k =
          ap (λ (t : List ℕ). get_or t k 0) (ap (drop i) s.done ∙ over_back (cell_at states values₀) i values₀) ∙ get_or-drop i values₀ k 0

      empties : (d : ℕ) → i + d ≤ next → (k : ℕ) → i ≤ k → k < i + d → Empty slots k
      empties d m k p q = at-empty states values₀ k (omega (arith, g.ends)) (g.passes k (let h : k < next = omega arith in h) p)

      gap_fill_here : (k : ℕ) → i + k < next → get_or states (i + k) 0 ≡ 1 → v ≡ fill_at slots (i + k)
      gap_fill_here k m f =
          let none : run (before slots i) ≡ 0 = s.fresh l (λ z. omega arith) in
          let count = g.counts values₀ in
          let here : i + k < length states = omega (arith, g.ends) in
          let r = in_row states values₀ (i + k) here in
          ap₂ (fill mean_up same gap) s.earlier s.later
          ∙ ap (λ (z : ℕ). fill mean_up same z (valids (before slots i)) (valids (from slots i))) (let z : gap ≡ run (before slots i) + run (from slots i) = omega arith in z)
          ∙ sym (fill_alike slots (i + k) i r (at-missing states values₀ (i + k) here f) (alike slots i k (omega arith) (empties k (omega arith))))

      part-cell : (k : ℕ) → k < next - i → spot (drop i states) v (drop i values) k ≡ cell_at states values₀ (i + k)
      unfolding cell_at
      part-cell k m =
          ap₂ (λ (x y : ℕ). pick (eqb x 1) v y) (get_or-drop i states k 0) (part-values k)
          ∙ pick_same (eqb (get_or states (i + k) 0) 1) v (fill_at slots (i + k)) (get_or values₀ (i + k) 0) (λ t. gap_fill_here k (omega arith) (eqb-true (get_or states (i + k) 0) 1 t))

      pub stand_gap : (ys : List ℕ) → ys ≡ patched states v i next values → (b' : ℕ) → b' ≡ b → Stand states values₀ kept ys b' next
      stand_gap ys p b' same-b =
          let to : i + (next - i) ≡ next = omega (arith, g.begins) in
          let far : next ≤ length states = g.ends in
          let size = row-length states values₀ in
          let f = spot (drop i states) v (drop i values) in
          let done : ys ≡ over (cell_at states values₀) next values₀ =
          p ∙ sym (part-back f values _ i (next - i) refl) ∙ over_part (cell_at states values₀) f values _ values₀ i (next - i) s.done (omega arith) s.size refl part-cell ∙ ap (λ (k : ℕ). over (cell_at states values₀) k values₀) to in
          let a = alike slots i (next - i) (omega arith) (empties (next - i) (omega arith)) in
          record {
            in_values = s.in_values;
            in_hours = far;
            in_kept = omega (arith, s.in_kept);
            size = ap length done ∙ length_over (cell_at states values₀) next values₀ (omega arith);
            done = done;
            earlier = ap (λ (k : ℕ). reverse (take k kept)) same-b ∙ s.earlier ∙ sym a.1 ∙ ap (λ (k : ℕ). valids (before slots k)) to;
            later = ap (λ (k : ℕ). drop k kept) same-b ∙ s.later ∙ sym a.2 ∙ ap (λ (k : ℕ). valids (from slots k)) to;
            fresh = λ m q. absurd (q (g.stops m));
          }

-- d hours more, all of them valid
pub stand_run : (states values₀ kept values : List ℕ) (b i d : ℕ) → i + d ≤ length states → ((k : ℕ) → k < i + d → i ≤ k → get_or states k 0 ≡ 2) → Stand states values₀ kept values b i → Stand states values₀ kept values (b + d) (i + d)
stand_run states values₀ kept values b i zero l h s =
    subst (λ (k : ℕ). Stand states values₀ kept values k (i + 0)) (let z : b ≡ b + 0 = omega arith in z) (subst (λ (k : ℕ). Stand states values₀ kept values b k) (let z : i ≡ i + 0 = omega arith in z) s)
stand_run states values₀ kept values b i (suc d) l h s =
    let r = stand_run states values₀ kept values b i d (omega arith) (λ k m p. h k (omega arith) p) s in
    subst (λ (k : ℕ). Stand states values₀ kept values (b + suc d) k) (let z : i + d + 1 ≡ i + suc d = omega arith in z)
    (stand_valid states values₀ kept values (b + d) (i + d) (omega arith) r (h (i + d) (omega arith) (omega arith)) (b + suc d) (omega arith))

-- a measured hour, and the hours up to the end of its run
pub stand_measured : (states values₀ kept values : List ℕ) (b i end b' : ℕ) → i < length states → get_or states i 0 ≡ 2 → Measured states (i + 1) end → b' ≡ b + (end - i) → Stand states values₀ kept values b i → Stand states values₀ kept values b' end
stand_measured states values₀ kept values b i end b' l e m next s =
    let d = end - (i + 1) in
    let one = stand_valid states values₀ kept values b i l s e (b + 1) refl in
    let to : i + 1 + d ≡ end = omega (arith, m.begins) in
    let all = stand_run states values₀ kept values (b + 1) (i + 1) d (omega (arith, m.ends)) (λ k p q. m.all k (omega arith) q) one in
    subst (λ (k : ℕ). Stand states values₀ kept values k end) (let z : b + 1 + d ≡ b' = omega arith in z) (subst (λ (k : ℕ). Stand states values₀ kept values (b + 1 + d) k) to all)

-- a gap has an hour
pub gap_moves : (states : List ℕ) (i gap next : ℕ) → i < length states → get_or states i 0 ≡ 1 → Scanned states i gap next → i < next
gap_moves states i gap next l e g =
    ⊎_elim
    (λ (here : i ≡ next). absurd (let two : get_or states i 0 ≡ 2 = subst (λ (k : ℕ). k < length states → get_or states k 0 ≡ 2) (sym here) g.stops l in let f : ⊥ = omega arith in f))
    (λ (less : i < next). less)
    (eq-or-lt_of_le g.begins)

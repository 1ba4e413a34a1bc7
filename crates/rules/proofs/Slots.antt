-- What every hour holds, for any rule: how many entries there are, each by its hour, a function of each, and hours whose values are first turned into
-- others. Assumes nothing.
use mathlib.Core.Path.{◌≡◌, refl, ◌∙◌, ap, ap₂}
use mathlib.Core.List.{List, [], ◌∷◌, map, reverse, reverse_aux}
use Prim.Native.Nat.{ℕ, zero, suc, ◌+◌, ◌<◌}
use native.Mathlib.Omega.{arith}
use lib.ListN.{length, get_or, take, drop}
use Rattle.rules.specs.Slots.{Slot, valid, missing, stopped, run, valids, map_slot, entry, entries}

module _ {A B : Type 0} (own : A → B) (rule : ℕ → List A → List A → B) (nothing : B) where
  pub entries_length : (before slots : List (Slot A)) → length (entries own rule nothing before slots) ≡ length slots
  unfolding entries
  entries_length before [] = refl
  entries_length before (s ∷ after) = ap suc (entries_length (s ∷ before) after)

  entries_aux : (before slots : List (Slot A)) (h : ℕ) (d : B) → h < length slots
      → get_or (entries own rule nothing before slots) h d ≡ entry own rule nothing (reverse_aux (take h slots) before) (get_or slots h stopped) (drop (suc h) slots)
  unfolding entries
  entries_aux before [] h d l = absurd (omega arith)
  entries_aux before (s ∷ after) zero d l = refl
  entries_aux before (s ∷ after) (suc h) d l = entries_aux (s ∷ before) after h d (omega arith)

  -- the same of all hours of a line
  pub line_at : (slots : List (Slot A)) (h : ℕ) (d : B) → h < length slots
      → get_or (entries own rule nothing [] slots) h d ≡ entry own rule nothing (reverse (take h slots)) (get_or slots h stopped) (drop (h + 1) slots)
  line_at slots h d l =
      entries_aux [] slots h d l
      ∙ ap (λ (k : ℕ). entry own rule nothing (reverse (take h slots)) (get_or slots h stopped) (drop k slots)) (let e : suc h ≡ h + 1 = omega arith in e)

  -- a function of each entry
  module _ {C : Type 0} (f : B → C) where
    entry_map : (before : List (Slot A)) (s : Slot A) (after : List (Slot A))
        → f (entry own rule nothing before s after) ≡ entry (λ (a : A). f (own a)) (λ (g : ℕ) (b a : List A). f (rule g b a)) (f nothing) before s after
    unfolding entry
    entry_map before (valid a) after = refl
    entry_map before missing after = refl
    entry_map before stopped after = refl

    pub entries_map : (before slots : List (Slot A))
        → map f (entries own rule nothing before slots) ≡ entries (λ (a : A). f (own a)) (λ (g : ℕ) (b a : List A). f (rule g b a)) (f nothing) before slots
    unfolding entries
    entries_map before [] = refl
    entries_map before (s ∷ after) = ap₂ (λ (c : C) (t : List C). c ∷ t) (entry_map before s after) (entries_map (s ∷ before) after)

-- hours whose values are turned into others
module _ {A B : Type 0} (f : A → B) where
  pub run_map : (s : List (Slot A)) → run (map (map_slot f) s) ≡ run s
  unfolding run map_slot
  run_map [] = refl
  run_map (valid a ∷ s) = refl
  run_map (missing ∷ s) = ap suc (run_map s)
  run_map (stopped ∷ s) = run_map s

  pub valids_map : (s : List (Slot A)) → valids (map (map_slot f) s) ≡ map f (valids s)
  unfolding valids map_slot
  valids_map [] = refl
  valids_map (valid a ∷ s) = ap (λ (t : List B). f a ∷ t) (valids_map s)
  valids_map (missing ∷ s) = valids_map s
  valids_map (stopped ∷ s) = valids_map s

  module _ {C : Type 0} (own : B → C) (rule : ℕ → List B → List B → C) (nothing : C) where
    entry_of-map : (before : List (Slot A)) (s : Slot A) (after : List (Slot A))
        → entry own rule nothing (map (map_slot f) before) (map_slot f s) (map (map_slot f) after) ≡ entry (λ (a : A). own (f a)) (λ (g : ℕ) (b a : List A). rule g (map f b) (map f a)) nothing before s after
    unfolding entry map_slot
    entry_of-map before (valid a) after = refl
    entry_of-map before missing after = rw (run_map before, run_map after, valids_map before, valids_map after)
    entry_of-map before stopped after = refl

    pub entries_of-map : (before slots : List (Slot A))
        → entries own rule nothing (map (map_slot f) before) (map (map_slot f) slots) ≡ entries (λ (a : A). own (f a)) (λ (g : ℕ) (b a : List A). rule g (map f b) (map f a)) nothing before slots
    unfolding entries
    entries_of-map before [] = refl
    entries_of-map before (s ∷ after) = ap₂ (λ (c : C) (t : List C). c ∷ t) (entry_of-map before s after) (entries_of-map (s ∷ before) after)

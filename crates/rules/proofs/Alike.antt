-- Laws of the walk along the hours, once for every relation: hours alike but for their values hold related values. Closeness and order are instances.
-- Assumes nothing.
use mathlib.Core.Path.{◌≡◌, refl, ap, ap₂, subst}
use mathlib.Core.List.{List, [], ◌∷◌, map, Forall₂}
use Prim.Native.Nat.{ℕ, zero, suc, ◌+◌}
use lib.ListN.{length, take}
use Rattle.rules.specs.Slots.{Slot, valid, missing, stopped, run, valids, map_slot, entry, entries}

module _ {A X : Type 0} where
  -- two hours in the same state, valid ones with related values
  pub data Alike (R : A → X → Type 0) : Slot A → Slot X → Type 0 where
    both-valid : {a : A} {x : X} → R a x → Alike R (valid a) (valid x)
    both-missing : Alike R missing missing
    both_stopped : Alike R stopped stopped

  module _ {R : A → X → Type 0} where
    run_alike : {s : List (Slot A)} {t : List (Slot X)} → Forall₂ (Alike R) s t → run s ≡ run t
    unfolding run
    run_alike Forall₂.nil = refl
    run_alike (Forall₂.cons (both-valid r) h) = refl
    run_alike (Forall₂.cons both-missing h) = ap suc (run_alike h)
    run_alike (Forall₂.cons both_stopped h) = run_alike h

    valids_alike : {s : List (Slot A)} {t : List (Slot X)} → Forall₂ (Alike R) s t → Forall₂ R (valids s) (valids t)
    unfolding valids
    valids_alike Forall₂.nil = Forall₂.nil
    valids_alike (Forall₂.cons (both-valid r) h) = Forall₂.cons r (valids_alike h)
    valids_alike (Forall₂.cons both-missing h) = valids_alike h
    valids_alike (Forall₂.cons both_stopped h) = valids_alike h

    -- the walk: own values, fills and nothing that are related give related entries
    module _ {B Y : Type 0} (Q : B → Y → Type 0) (own : A → B) (rule : ℕ → List A → List A → B) (nothing : B) (own' : X → Y) (rule' : ℕ → List X → List X → Y) (nothing' : Y)
        (owns : (a : A) (x : X) → R a x → Q (own a) (own' x))
        (rules : (g : ℕ) (b a : List A) (y x : List X) → Forall₂ R b y → Forall₂ R a x → Q (rule g b a) (rule' g y x))
        (nothings : Q nothing nothing')
      where
        entry_alike : {b a : List (Slot A)} {y x : List (Slot X)} {s : Slot A} {t : Slot X} → Forall₂ (Alike R) b y → Alike R s t → Forall₂ (Alike R) a x
            → Q (entry own rule nothing b s a) (entry own' rule' nothing' y t x)
        unfolding entry
        entry_alike h (both-valid {a} {x} r) k = owns a x r
        entry_alike {b} {a} {y} {x} h both-missing k =
            subst (λ (g : ℕ). Q (rule (run b + 1 + run a) (valids b) (valids a)) (rule' g (valids y) (valids x))) (ap₂ (λ (i j : ℕ). i + 1 + j) (run_alike h) (run_alike k))
            (rules (run b + 1 + run a) (valids b) (valids a) (valids y) (valids x) (valids_alike h) (valids_alike k))
        entry_alike h both_stopped k = nothings

        pub entries_alike : {b a : List (Slot A)} {y x : List (Slot X)} → Forall₂ (Alike R) b y → Forall₂ (Alike R) a x
            → Forall₂ Q (entries own rule nothing b a) (entries own' rule' nothing' y x)
        unfolding entries
        entries_alike {b = b} {y = y} h Forall₂.nil = Forall₂.nil
        entries_alike {b = b} {y = y} h (Forall₂.cons {a = a} {b = b'} r k) = Forall₂.cons (entry_alike h r k) (entries_alike {b = a ∷ b} {y = b' ∷ y} (Forall₂.cons r h) k)

-- hours that are alike, each turned into other values
module _ {A X B Y : Type 0} {R : A → X → Type 0} (Q : B → Y → Type 0) (f : A → B) (g : X → Y) (q : (a : A) (x : X) → R a x → Q (f a) (g x)) where
  pub slots-alike : {s : List (Slot A)} {t : List (Slot X)} → Forall₂ (Alike R) s t → Forall₂ (Alike Q) (map (map_slot f) s) (map (map_slot g) t)
  unfolding map_slot
  slots-alike Forall₂.nil = Forall₂.nil
  slots-alike (Forall₂.cons (both-valid {a} {x} r) h) = Forall₂.cons (both-valid (q a x r)) (slots-alike h)
  slots-alike (Forall₂.cons both-missing h) = Forall₂.cons both-missing (slots-alike h)
  slots-alike (Forall₂.cons both_stopped h) = Forall₂.cons both_stopped (slots-alike h)

  pub map-alike : {s : List A} {t : List X} → Forall₂ R s t → Forall₂ Q (map f s) (map g t)
  map-alike Forall₂.nil = Forall₂.nil
  map-alike (Forall₂.cons {a} {b} r h) = Forall₂.cons (q a b r) (map-alike h)

-- hours and lists are alike to themselves, by a relation of each value to itself
module _ {A : Type 0} (R : A → A → Type 0) (self : (a : A) → R a a) where
  pub slots-self : (s : List (Slot A)) → Forall₂ (Alike R) s s
  slots-self [] = Forall₂.nil
  slots-self (valid a ∷ s) = Forall₂.cons (both-valid (self a)) (slots-self s)
  slots-self (missing ∷ s) = Forall₂.cons both-missing (slots-self s)
  slots-self (stopped ∷ s) = Forall₂.cons both_stopped (slots-self s)

  pub list_self : (s : List A) → Forall₂ R s s
  list_self [] = Forall₂.nil
  list_self (a ∷ s) = Forall₂.cons (self a) (list_self s)

module _ {A X : Type 0} {R : A → X → Type 0} where
  pub take-alike : (n : ℕ) {s : List A} {t : List X} → Forall₂ R s t → Forall₂ R (take n s) (take n t)
  take-alike zero h = Forall₂.nil
  take-alike (suc n) Forall₂.nil = Forall₂.nil
  take-alike (suc n) (Forall₂.cons r h) = Forall₂.cons r (take-alike n h)

  pub length-alike : {s : List A} {t : List X} → Forall₂ R s t → length s ≡ length t
  length-alike Forall₂.nil = refl
  length-alike (Forall₂.cons r h) = ap suc (length-alike h)

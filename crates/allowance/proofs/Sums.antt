-- Sums over a line: where each hour is within its allowance, the sum is within the sum of the allowances; and sums rise with what is added. Assumes nothing.
use mathlib.Core.Path.{◌≡◌, refl, sym, ap, ◌∙◌, subst₂}
use Prim.Native.Nat.{ℕ, ◌+◌, ◌*◌, ◌≤◌}
use native.Mathlib.Nat.{le_refl, add-le-add, mul-zero, mul-add}
use native.Mathlib.Omega.{arith}
use mathlib.Core.List.{List, [], ◌∷◌, map, Forall₂}
use Rattle.law.specs.Words.{sum_of}
use Rattle.law.proofs.Halves.{Within}
use Rattle.rules.specs.Slots.{Slot, entries}
use Rattle.rules.proofs.Slots.{entries_map}
use Rattle.rules.proofs.Alike.{Alike, entries_alike}

-- a multiple of each, added up
pub sum-times : {A : Type 0} (m : ℕ) (f : A → ℕ) (s : List A) → sum_of (λ (a : A). m * f a) s ≡ m * sum_of f s
unfolding sum_of
sum-times m f [] = sym (mul-zero m)
sum-times m f (a ∷ s) = rw (sum-times m f s, mul-add)

sum-map : {B : Type 0} (f : B → ℕ) (s : List B) → sum_of f s ≡ sum_of (λ (n : ℕ). n) (map f s)
unfolding sum_of
sum-map f [] = refl
sum-map f (b ∷ s) = ap (λ (n : ℕ). f b + n) (sum-map f s)

-- a number of each entry, added up along the walk
sum-of : {A B : Type 0} (f : B → ℕ) (own : A → B) (rule : ℕ → List A → List A → B) (nothing : B) (b a : List (Slot A))
    → sum_of f (entries own rule nothing b a) ≡ sum_of (λ (n : ℕ). n) (entries (λ (v : A). f (own v)) (λ (g : ℕ) (b a : List A). f (rule g b a)) (f nothing) b a)
sum-of f own rule nothing b a = sum-map f (entries own rule nothing b a) ∙ ap (sum_of (λ (n : ℕ). n)) (entries_map own rule nothing f b a)

-- an hour's amount and its allowance
record Hour : Type 0 where
  amount : ℕ
  slack : ℕ

module _ (m n : ℕ) where
  -- of two lists, value by value
  pub list_off : {A X : Type 0} {R : A → X → Type 0} (amount slack : A → ℕ) (exact : X → ℕ)
      → ((a : A) (x : X) → R a x → Within (m * slack a) (exact x) (n * amount a))
      → {s : List A} {t : List X} → Forall₂ R s t → Within (m * sum_of slack s) (sum_of exact t) (n * sum_of amount s)
  unfolding sum_of
  list_off amount slack exact q Forall₂.nil = omega (arith, mul-zero m, mul-zero n)
  list_off amount slack exact q (Forall₂.cons {a} {b = x} r h) =
      let k = list_off amount slack exact q h in
      simp mul-add (omega (arith, k, q a x r))

  abbrev Off : Hour → ℕ → Type 0
  Off h e = Within (m * h.slack) e (n * h.amount)

  -- of a line, hour by hour: `own` and `rule` are the account's, `own'` and `rule'` the exact ones, `slack` and `slacks` the allowances
  module _ {A B X Y : Type 0} {R : A → X → Type 0} (amount : B → ℕ) (own : A → B) (rule : ℕ → List A → List A → B) (nothing : B)
      (exact : Y → ℕ) (own' : X → Y) (rule' : ℕ → List X → List X → Y) (nothing' : Y) (slack : A → ℕ) (slacks : ℕ → List A → List A → ℕ)
      (owns : (a : A) (x : X) → R a x → Within (m * slack a) (exact (own' x)) (n * amount (own a)))
      (rules : (g : ℕ) (b a : List A) (y x : List X) → Forall₂ R b y → Forall₂ R a x → Within (m * slacks g b a) (exact (rule' g y x)) (n * amount (rule g b a)))
      (nothings : Within (m * 0) (exact nothing') (n * amount nothing))
    where
      pub line_off : {s : List (Slot A)} {t : List (Slot X)} → Forall₂ (Alike R) s t
          → Within (m * sum_of (λ (i : ℕ). i) (entries slack slacks 0 [] s)) (sum_of exact (entries own' rule' nothing' [] t)) (n * sum_of amount (entries own rule nothing [] s))
      line_off {s} {t} h =
          let both : A → Hour = λ a. record { amount = amount (own a); slack = slack a } in
          let fill : ℕ → List A → List A → Hour = λ g b a. record { amount = amount (rule g b a); slack = slacks g b a } in
          let none : Hour = record { amount = amount nothing; slack = 0 } in
          subst₂ (λ (d y : ℕ). Within (m * d) (sum_of exact (entries own' rule' nothing' [] t)) (n * y))
          (sum-of (λ (h : Hour). h.slack) both fill none [] s)
          (sum-of (λ (h : Hour). h.amount) both fill none [] s ∙ sym (sum-of amount own rule nothing [] s))
          (list_off (λ (h : Hour). h.amount) (λ (h : Hour). h.slack) exact (λ h e o. o)
          (entries_alike (λ (h : Hour) (y : Y). Off h (exact y)) both fill none own' rule' nothing' owns rules nothings Forall₂.nil h))

-- ---- order
pub sum_mono : {A X : Type 0} {R : A → X → Type 0} (f : A → ℕ) (g : X → ℕ) → ((a : A) (x : X) → R a x → f a ≤ g x)
    → {s : List A} {t : List X} → Forall₂ R s t → sum_of f s ≤ sum_of g t
unfolding sum_of
sum_mono f g q Forall₂.nil = le_refl 0
sum_mono f g q (Forall₂.cons {a} {b} r h) = add-le-add (q a b r) (sum_mono f g q h)

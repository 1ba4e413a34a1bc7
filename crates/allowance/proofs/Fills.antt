-- The fill rule, once for every relation: related readings have related fills; so a fill is within its allowance of the exact one. Assumes nothing.
use Prim.Native.Nat.{ℕ, ◌+◌, ◌*◌, max}
use native.Mathlib.Nat.{mul-zero}
use native.Mathlib.Omega.{arith}
use mathlib.Core.Path.{subst}
use mathlib.Core.List.{List, Forall₂}
use mathlib.Core.Bool.{Bool, true, false}
use lib.Dec.{leb}
use Rattle.law.specs.Numbers.{long_window}
use Rattle.law.specs.Words.{pick, largest, halves_up}
use Rattle.law.proofs.Halves.{Within, within_times, spread, times_max, halves_within, hour_off}
use Rattle.rules.specs.Fill.{Values, zeroes, cs, ls, window, short, long, fill, fill_both, mean_up, same, filled, unfilled}
use Rattle.rules.specs.Grams.{amount}
use Rattle.allowance.specs.Exact.{twice, twice_mean, exact_fill}
use Rattle.allowance.specs.Allowance.{of_filled, of_fill}
use Rattle.rules.proofs.Alike.{take-alike, map-alike}
use Rattle.allowance.proofs.Account.{Half, Off, FillsOff}

-- ---- once for every relation R of valid values and Q of fills
largest-alike : (R : ℕ → ℕ → Type 0) → R 0 0 → ((a x b y : ℕ) → R a x → R b y → R (max a b) (max x y)) → {s t : List ℕ} → Forall₂ R s t → R (largest s) (largest t)
unfolding largest
largest-alike R zeros maxes Forall₂.nil = zeros
largest-alike R zeros maxes (Forall₂.cons {a} {b} {l₁} {l₂} r h) = maxes a b (largest l₁) (largest l₂) r (largest-alike R zeros maxes h)

window-alike : {A X : Type 0} {R : A → X → Type 0} (n : ℕ) {b a : List A} {y x : List X} → Forall₂ R b y → Forall₂ R a x → Forall₂ R (window n b a) (window n y x)
unfolding window
window-alike n Forall₂.nil h = take-alike n h
window-alike n (Forall₂.cons r g) h = take-alike n (Forall₂.cons r g)

module _ (R Q : ℕ → ℕ → Type 0) (mean mean' : ℕ → ℕ → ℕ) (once once' : ℕ → ℕ)
    (zeros : R 0 0)
    (maxes : (a x b y : ℕ) → R a x → R b y → R (max a b) (max x y))
    (none : Q 0 0)
    (onces : (a x : ℕ) → R a x → Q (once a) (once' x))
    (means : (b y a x : ℕ) → R b y → R a x → Q (mean b a) (mean' y x))
  where
    short_alike : {b a y x : List ℕ} → Forall₂ R b y → Forall₂ R a x → Q (short mean once b a) (short mean' once' y x)
    unfolding short
    short_alike Forall₂.nil Forall₂.nil = none
    short_alike Forall₂.nil (Forall₂.cons {a} {b} r h) = onces a b r
    short_alike (Forall₂.cons {a} {b} r h) Forall₂.nil = onces a b r
    short_alike (Forall₂.cons {a = b} {b = y} q g) (Forall₂.cons {a = a} {b = x} r h) = means b y a x q r

    long_alike : {b a y x : List ℕ} → Forall₂ R b y → Forall₂ R a x → Q (long mean once b a) (long mean' once' y x)
    unfolding long
    long_alike {b} {a} {y} {x} h k = onces (largest (window long_window b a)) (largest (window long_window y x)) (largest-alike R zeros maxes (window-alike 720 h k))

    pub fill_alike : (g : ℕ) {b a y x : List ℕ} → Forall₂ R b y → Forall₂ R a x → Q (fill mean once g b a) (fill mean' once' g y x)
    unfolding fill pick
    fill_alike g {b} {a} {y} {x} h k = go (leb g 24)
      where
        go : (t : Bool) → Q (pick t (short mean once b a) (long mean once b a)) (pick t (short mean' once' y x) (long mean' once' y x))
        go true = short_alike h k
        go false = long_alike h k

    -- "concentration and flow are filled each by itself"
    pub both-alike : (g : ℕ) {b a y x : List Values} → Forall₂ (λ p q. R p.c q.c × R p.l q.l) b y → Forall₂ (λ p q. R p.c q.c × R p.l q.l) a x
        → Q (fill_both mean once g b a).c (fill_both mean' once' g y x).c × Q (fill_both mean once g b a).l (fill_both mean' once' g y x).l
    unfolding fill_both cs ls
    both-alike g h k = (
      fill_alike g (map-alike R _ _ (λ p q z. z.0) h) (map-alike R _ _ (λ p q z. z.0) k),
      fill_alike g (map-alike R _ _ (λ p q z. z.1) h) (map-alike R _ _ (λ p q z. z.1) k),
    )

-- ---- within the allowance
module _ (P : ℕ) where
  -- the value c is within a unit of the exact value e, which stands in half units
  abbrev Whole : ℕ → ℕ → Type 0
  Whole c e = Within (2 * P) e (2 * (P * c))

  half_max : (c v d w : ℕ) → Half P c v → Half P d w → Half P (max c d) (max v w)
  half_max c v d w h g = omega (arith, times_max P c d)

  half_whole : (c v : ℕ) → Half P c v → Whole (same c) (twice v)
  unfolding same twice
  half_whole c v h = omega arith

  -- two halves of a unit, halved, and the half of the mean's own rounding
  mean_whole : (b y a x : ℕ) → Half P b y → Half P a x → Whole (mean_up b a) (twice_mean y x)
  unfolding mean_up twice_mean
  mean_whole b y a x h g =
      let t = within_times P 2 (2 * (b + a)) (2 * (2 * halves_up (b + a) 2)) (halves_within (b + a) 2 (omega arith)) in
      omega (arith, simp spread at t.0, simp spread at t.1)

  pub fills_off : FillsOff P filled exact_fill of_fill
  unfolding of_fill of_filled filled exact_fill amount
  fills_off g b a y x h k =
      let c = filled g b a in
      let e = exact_fill g y x in
      let w = both-alike (Half P) Whole mean_up twice_mean same twice (omega (arith, mul-zero P)) half_max (omega (arith, mul-zero P)) half_whole mean_whole g h k in
      subst (λ (d : ℕ). Off P d (amount e) c) (omega arith) (hour_off P 2 c.c c.l e.c e.l w.0 w.1)

  -- of water nothing is filled, and nothing allowed for it
  pub unfilled-off : FillsOff P unfilled unfilled (λ gap before after. 0)
  unfolding unfilled zeroes amount
  unfilled-off g b a y x h k = omega (arith, mul-zero (P * P), mul-zero (4 * (P * P)))

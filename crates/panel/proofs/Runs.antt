-- A panel over any list of hours. From the empty panel, as long as no hour is refused, the total is the sum of c x l, the hours are the length of the list
-- and the missing hours its missing ones, each exactly; and none is refused exactly where no reading is bad, the hours are at most 2,208 and the sum is
-- at most 2 ^ 53. Assumes nothing.
use Rattle.std.proofs.Common.{◌≡◌, ℕ, suc, ◌+◌, ◌*◌, ◌^◌, ◌<◌, ◌≤◌, true, false, List, [], ◌∷◌, length, sym, refl, ap, ◌∙◌, subst, add-zero, zero-add, arith}
use lib.Ieee.Bits.{is_true}
use lib.Ieee.Exact.{HasValue}
use Rattle.law.specs.Numbers.{most_hours}
use Rattle.law.specs.Words.{sum_of}
use Rattle.reading.specs.declared.Hour.{Hour}
use Rattle.reading.specs.Reading.{Figures, Both, NoData, NotRunning, Unfit, stated, stated_hour, figures_of}
use Rattle.panel.specs.Lawful.{whole, lawful, as_total}
use Rattle.panel.proofs.Whole.{value, total_lawful, whole_of}
use Rattle.panel.specs.declared.Panel.{Panel}
use Rattle.panel.specs.Runs.{product, missing_hour, products, missing_hours, after, NoneRefused, NoneBad}
use Rattle.panel.specs.Panel.{Stepped, unchanged, counted, after_hour, panel_step, empty_panel}
use Rattle.panel.proofs.Laws.{lawful-of, step_room, added-sum}
use Rattle.panel.proofs.Cases.{Taken, unfit, missed, stopped, over, sum, Promise, unlawful, full, room, meets}

-- three whole numbers within their bounds, and the panel of them
pub record Fit (total hours missing : ℕ) : Type 0 where
  pub total_le : total ≤ 2 ^ 53
  pub hours-le : hours ≤ most_hours
  pub missing_le : missing ≤ hours

abbrev pub panel_of : ℕ → ℕ → ℕ → Panel
panel_of t n m = record { total = as_total t; hours = n; missing = m }

-- ---- one hour
not_zero : (n : ℕ) → suc n ≡ 0 → ⊥
not_zero n e = omega arith

missing_one : (f : Figures) → missing_hour f ≤ 1
unfolding stated stated_hour
missing_one (Both c l) = omega arith
missing_one NoData = omega arith
missing_one NotRunning = omega arith
missing_one Unfit = omega arith

-- the panel one hour on
abbrev on : ℕ → ℕ → ℕ → Figures → Stepped
on t n m f = record { number = 0; next = panel_of (t + product f) (n + 1) (m + missing_hour f) }

module _ (t n m : ℕ) (k : Fit t n m) where
  on_fit : (f : Figures) → n < most_hours → t + product f ≤ 2 ^ 53 → Fit (t + product f) (n + 1) (m + missing_hour f)
  on_fit f g s = record { total_le = s; hours-le = omega arith; missing_le = omega (arith, missing_one f, k.missing_le) }

  of_lawful : lawful (panel_of t n m) ≡ true
  of_lawful = is_true (lawful (panel_of t n m)) (lawful-of (panel_of t n m) (total_lawful t k.total_le) k.hours-le k.missing_le)

  taken-on : (f : Figures) → (stated_hour f).number ≡ 0 → t + product f ≤ 2 ^ 53 → after_hour (panel_of t n m) f ≡ on t n m f
  unfolding after_hour counted product stated stated_hour
  taken-on Unfit b s = absurd (not_zero 3 b)
  taken-on NoData b s = simp add-zero
  taken-on NotRunning b s = simp add-zero
  taken-on (Both c l) b s =
      let w = whole_of t k.total_le in
      added-sum (panel_of t n m) (c * l) (subst (λ (j : ℕ). j + c * l ≤ 2 ^ 53) (sym w) s) ∙ simp (w, add-zero)

  step_on : (h : Hour) → n < most_hours → (stated_hour (figures_of h)).number ≡ 0 → t + product (figures_of h) ≤ 2 ^ 53 → panel_step (panel_of t n m) h ≡ on t n m (figures_of h)
  step_on h g b s = step_room (panel_of t n m) h of_lawful g ∙ taken-on (figures_of h) b s

  -- what an hour that is not refused says
  taken-says : (f : Figures) (r : Stepped) → Taken (panel_of t n m) f r → r.number ≡ 0 → ((stated_hour f).number ≡ 0) × (t + product f ≤ 2 ^ 53)
  unfolding unchanged product stated stated_hour
  taken-says f r unfit e = absurd (not_zero 3 e)
  taken-says f r missed e = (refl, omega (arith, k.total_le))
  taken-says f r stopped e = (refl, omega (arith, k.total_le))
  taken-says f r (over o) e = absurd (not_zero 9 e)
  taken-says f r (sum {c} {l} x o g v) e = (refl, subst (λ (j : ℕ). j + c * l ≤ 2 ^ 53) (whole_of t k.total_le) o)

  step_says : (h : Hour) → (panel_step (panel_of t n m) h).number ≡ 0 → (n < most_hours) × ((stated_hour (figures_of h)).number ≡ 0) × (t + product (figures_of h) ≤ 2 ^ 53)
  unfolding unchanged
  step_says h e = go (panel_step (panel_of t n m) h) (meets (panel_of t n m) h) e
    where
      go : (r : Stepped) → Promise (panel_of t n m) h r → r.number ≡ 0 → (n < most_hours) × ((stated_hour (figures_of h)).number ≡ 0) × (t + product (figures_of h) ≤ 2 ^ 53)
      go r (unlawful l) z = absurd (not_zero 11 z)
      go r (full l g) z = absurd (not_zero 10 z)
      go r (room l g u) z = let a = taken-says (figures_of h) r u z in (g, a.0, a.1)

-- ---- a list of which no hour is refused
-- what it says: the panel after it, that its counts are within their bounds, and that no reading was bad
Exact : ℕ → ℕ → ℕ → List Hour → Type 0
Exact t n m hs =
    (after (panel_of t n m) hs ≡ panel_of (t + products hs) (n + length hs) (m + missing_hours hs))
    × Fit (t + products hs) (n + length hs) (m + missing_hours hs)
    × NoneBad hs

exact : (t n m : ℕ) → Fit t n m → (hs : List Hour) → NoneRefused (panel_of t n m) hs → Exact t n m hs
unfolding Exact after NoneRefused NoneBad sum_of
exact t n m k [] r = (simp add-zero, simp add-zero k, tt)
exact t n m k (h ∷ hs) r =
    let f = figures_of h in
    let a = step_says t n m k h r.0 in
    let e = step_on t n m k h a.0 a.1 a.2 in
    let u = exact (t + product f) (n + 1) (m + missing_hour f) (on_fit t n m k f a.0 a.2) hs (subst (λ (s : Stepped). NoneRefused s.next hs) e r.1) in
    let p : t + product f + products hs ≡ t + (product f + products hs) = omega arith in
    let q : n + 1 + length hs ≡ n + suc (length hs) = omega arith in
    let o : m + missing_hour f + missing_hours hs ≡ m + (missing_hour f + missing_hours hs) = omega arith in
    (ap (λ (s : Stepped). after s.next hs) e ∙ u.0 ∙ rw (p, q, o), rw (← p, ← q, ← o) u.1, (a.1, u.2))

accepts : (t n m : ℕ) → Fit t n m → (hs : List Hour) → NoneBad hs → t + products hs ≤ 2 ^ 53 → n + length hs ≤ most_hours → NoneRefused (panel_of t n m) hs
unfolding NoneRefused NoneBad sum_of
accepts t n m k [] b s g = tt
accepts t n m k (h ∷ hs) b s g =
    let f = figures_of h in
    let i : t + product f ≤ 2 ^ 53 = omega arith in
    let j : n < most_hours = omega arith in
    rw (step_on t n m k h j b.0 i) (refl, accepts (t + product f) (n + 1) (m + missing_hour f) (on_fit t n m k f j i) hs b.1 (omega arith) (omega arith))

-- ---- from the empty panel
none_fit : Fit 0 0 0
none_fit = record { total_le = omega arith; hours-le = omega arith; missing_le = omega arith }

module _ (hs : List Hour) (r : NoneRefused empty_panel hs) where
  run : Exact 0 0 0 hs
  unfolding empty_panel
  run = exact 0 0 0 none_fit hs r

  -- every field of the panel
  pub run_exact : after empty_panel hs ≡ record { total = as_total (products hs); hours = length hs; missing = missing_hours hs }
  unfolding Exact empty_panel
  run_exact = run.0 ∙ simp zero-add

  -- the sum is at most 2 ^ 53, the hours are at most 2,208, the missing ones at most the hours
  pub run_fits : Fit (products hs) (length hs) (missing_hours hs)
  unfolding Exact
  run_fits = simp zero-add at run.1

  pub run_good : NoneBad hs
  unfolding Exact
  run_good = run.2

  -- the total stands for the sum, and has exactly its value
  pub run_total : whole (after empty_panel hs).total ≡ products hs
  run_total = ap (λ (p : Panel). whole p.total) run_exact ∙ whole_of (products hs) run_fits.total_le

  pub run_value : HasValue (after empty_panel hs).total false (products hs) 1
  run_value = subst (λ (p : Panel). HasValue p.total false (products hs) 1) (sym run_exact) (value (products hs) run_fits.total_le)

-- no bad reading, at most 2,208 hours and a sum within 2 ^ 53: nothing is refused
pub run_accepts : (hs : List Hour) → NoneBad hs → length hs ≤ most_hours → products hs ≤ 2 ^ 53 → NoneRefused empty_panel hs
unfolding empty_panel
run_accepts hs b g s = accepts 0 0 0 none_fit hs b (omega arith) (omega arith)

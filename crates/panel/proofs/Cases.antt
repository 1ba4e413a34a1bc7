-- What `hour` promises, said by cases and with no cast of a number to a float: the next total is a binary64 of the sign + whose value is exactly the sum.
-- The rule's answer keeps it (`meets`) and no second one does (`only`); which totals are lawful; a refusal leaves the state; a lawful panel stays lawful.
-- Assumes nothing.
use Rattle.std.proofs.Common.{◌≡◌, ℕ, ◌+◌, ◌*◌, ◌^◌, ◌<◌, ◌≤◌, Bool, true, false, not, T, leb, ◌⊎◌, sym, refl, ap, ◌∙◌, subst, inl, inr, arith, leb→le}
use lib.Dec.{nleb→lt}
use lib.Ieee.{Float, binary64, fits}
use lib.Ieee.Exact.{HasValue}
use Rattle.law.specs.Numbers.{most_hours}
use Rattle.reading.specs.declared.Hour.{Hour}
use Rattle.reading.specs.Reading.{Figures, Both, NoData, NotRunning, Unfit, stated, stated_hour, figures_of}
use Rattle.panel.specs.Lawful.{whole, lawful_total, lawful, as_total}
use Rattle.panel.proofs.Whole.{value, value-only, total_fits, total_lawful, whole_le, lawful-value}
use Rattle.panel.specs.declared.Panel.{Panel}
use Rattle.panel.specs.Panel.{Stepped, unchanged, counted, added, after_hour, panel_step}
use Rattle.panel.proofs.Laws.{lawful-total, missing_le, lawful-of, step_unlawful, step_full, step_room, added-over, added-sum}

-- ---- a total is lawful exactly where it is a whole number up to 2 ^ 53 with the sign +
pub lawful-has : (x : Float) → T (fits binary64 x) → T (lawful_total x) → (n : ℕ) × (n ≤ 2 ^ 53) × HasValue x false n 1
lawful-has x f t = (whole x, whole_le x f t, lawful-value x f t)

pub has-lawful : (x : Float) → T (fits binary64 x) → (n : ℕ) → n ≤ 2 ^ 53 → HasValue x false n 1 → T (lawful_total x)
has-lawful x f n h v = subst (λ (y : Float). T (lawful_total y)) (sym (value-only x n f h v)) (total_lawful n h)

-- ---- the promise
-- an hour of a lawful panel that has room for it, by its figures
pub data Taken (p : Panel) : Figures → Stepped → Type 0 where
  unfit : Taken p Unfit (unchanged 4 p)
  missed : Taken p NoData (counted p p.total (p.missing + 1))
  stopped : Taken p NotRunning (counted p p.total p.missing)
  over : {c l : ℕ} → 2 ^ 53 < whole p.total + c * l → Taken p (Both c l) (unchanged 10 p)
  sum : {c l : ℕ} (x : Float) → whole p.total + c * l ≤ 2 ^ 53 → T (fits binary64 x) → HasValue x false (whole p.total + c * l) 1 → Taken p (Both c l) (counted p x p.missing)

pub data Promise (p : Panel) (h : Hour) : Stepped → Type 0 where
  unlawful : lawful p ≡ false → Promise p h (unchanged 12 p)
  full : lawful p ≡ true → most_hours ≤ p.hours → Promise p h (unchanged 11 p)
  room : {r : Stepped} → lawful p ≡ true → p.hours < most_hours → Taken p (figures_of h) r → Promise p h r

-- ---- an answer that keeps it is the rule's
taken_is : (p : Panel) (f : Figures) (r : Stepped) → Taken p f r → r ≡ after_hour p f
unfolding after_hour stated stated_hour
taken_is p f r unfit = refl
taken_is p f r missed = refl
taken_is p f r stopped = refl
taken_is p f r (over {c} {l} h) = sym (added-over p (c * l) h)
taken_is p f r (sum {c} {l} x h g v) = ap (λ (y : Float). counted p y p.missing) (value-only x (whole p.total + c * l) g h v) ∙ sym (added-sum p (c * l) h)

pub is_step : (p : Panel) (h : Hour) (r : Stepped) → Promise p h r → r ≡ panel_step p h
is_step p h r (unlawful l) = sym (step_unlawful p h l)
is_step p h r (full l g) = sym (step_full p h l g)
is_step p h r (room l g t) = taken_is p (figures_of h) r t ∙ sym (step_room p h l g)

pub only : (p : Panel) (h : Hour) (r s : Stepped) → Promise p h r → Promise p h s → r ≡ s
only p h r s m n = is_step p h r m ∙ sym (is_step p h s n)

-- ---- and the rule's answer keeps it
le_or : (m n : ℕ) → (m ≤ n) ⊎ (n < m)
le_or m n = go (leb m n) (leb→le m n) (nleb→lt m n)
  where
    go : (b : Bool) → (T b → m ≤ n) → (T (not b) → n < m) → (m ≤ n) ⊎ (n < m)
    go true f g = inl (f tt)
    go false f g = inr (g tt)

takes : (p : Panel) (f : Figures) → Taken p f (after_hour p f)
unfolding after_hour stated stated_hour
takes p Unfit = unfit
takes p NoData = missed
takes p NotRunning = stopped
takes p (Both c l) = go (le_or (whole p.total + c * l) (2 ^ 53))
  where
    go : (whole p.total + c * l ≤ 2 ^ 53) ⊎ (2 ^ 53 < whole p.total + c * l) → Taken p (Both c l) (added p (c * l))
    go (inl h) = rw (added-sum p (c * l) h) (sum (as_total (whole p.total + c * l)) h (total_fits (whole p.total + c * l)) (value (whole p.total + c * l) h))
    go (inr h) = rw (added-over p (c * l) h) (over h)

pub meets : (p : Panel) (h : Hour) → Promise p h (panel_step p h)
meets p h = go (lawful p) refl
  where
    within : lawful p ≡ true → (most_hours ≤ p.hours) ⊎ (p.hours < most_hours) → Promise p h (panel_step p h)
    within e (inl g) = rw (step_full p h e g) (full e g)
    within e (inr g) = rw (step_room p h e g) (room e g (takes p (figures_of h)))

    go : (b : Bool) → lawful p ≡ b → Promise p h (panel_step p h)
    go true e = within e (le_or most_hours p.hours)
    go false e = rw (step_unlawful p h e) (unlawful e)

-- ---- a refusal, any number but 0, leaves the state as it was
kept : (p : Panel) (f : Figures) (r : Stepped) → Taken p f r → (r.number ≡ 0 → ⊥) → r.next ≡ p
unfolding unchanged counted
kept p f r unfit n = refl
kept p f r missed n = absurd (n refl)
kept p f r stopped n = absurd (n refl)
kept p f r (over o) n = refl
kept p f r (sum x o g v) n = absurd (n refl)

pub promise_same : (p : Panel) (h : Hour) (r : Stepped) → Promise p h r → (r.number ≡ 0 → ⊥) → r.next ≡ p
unfolding unchanged
promise_same p h r (unlawful l) n = refl
promise_same p h r (full l g) n = refl
promise_same p h r (room l g t) n = kept p (figures_of h) r t n

pub refused_same : (p : Panel) (h : Hour) → ((panel_step p h).number ≡ 0 → ⊥) → (panel_step p h).next ≡ p
refused_same p h n = promise_same p h (panel_step p h) (meets p h) n

-- ---- a lawful panel stays lawful
stays : (p : Panel) (f : Figures) (r : Stepped) → T (lawful p) → p.hours < most_hours → Taken p f r → T (lawful r.next)
unfolding unchanged counted
stays p f r l g unfit = l
stays p f r l g missed = lawful-of r.next (lawful-total p l) (omega arith) (omega (arith, missing_le p l))
stays p f r l g stopped = lawful-of r.next (lawful-total p l) (omega arith) (omega (arith, missing_le p l))
stays p f r l g (over o) = l
stays p f r l g (sum x o b v) = lawful-of r.next (has-lawful x b _ o v) (omega arith) (omega (arith, missing_le p l))

pub stays_lawful : (p : Panel) (h : Hour) → T (lawful p) → T (lawful (panel_step p h).next)
unfolding unchanged
stays_lawful p h l = go (panel_step p h) (meets p h)
  where
    go : (r : Stepped) → Promise p h r → T (lawful r.next)
    go r (unlawful e) = l
    go r (full e g) = l
    go r (room e g t) = stays p (figures_of h) r l g t

-- What the rules of a panel come to: what a lawful panel is, and the case that each test picks. Assumes nothing.
use Rattle.std.proofs.Common.{◌≡◌, ℕ, ◌+◌, ◌^◌, ◌<◌, ◌≤◌, true, false, ◌&&◌, T, leb, le→leb, leb→le, le-ltb, lt-ltb, le-leb}
use lib.Ieee.Fits.{and_i, and_l, and_r}
use borrow.Author.Tests.{lt-leb}
use Rattle.law.specs.Numbers.{most_hours}
use Rattle.law.specs.Words.{need}
use Rattle.reading.specs.declared.Hour.{Hour}
use Rattle.reading.specs.Reading.{figures_of}
use Rattle.panel.specs.Lawful.{whole, lawful_total, lawful, as_total}
use Rattle.panel.specs.declared.Panel.{Panel}
use Rattle.panel.specs.Panel.{unchanged, counted, added, after_hour, panel_step}

-- ---- what a lawful panel is
module _ (p : Panel) (l : T (lawful p)) where
  front : T (lawful_total p.total && leb p.hours most_hours)
  unfolding lawful
  front = and_l (lawful_total p.total && leb p.hours most_hours) (leb p.missing p.hours) l

  pub lawful-total : T (lawful_total p.total)
  lawful-total = and_l (lawful_total p.total) (leb p.hours most_hours) front

  pub hours-le : p.hours ≤ most_hours
  hours-le = leb→le p.hours most_hours (and_r (lawful_total p.total) (leb p.hours most_hours) front)

  pub missing_le : p.missing ≤ p.hours
  unfolding lawful
  missing_le = leb→le p.missing p.hours (and_r (lawful_total p.total && leb p.hours most_hours) (leb p.missing p.hours) l)

pub lawful-of : (p : Panel) → T (lawful_total p.total) → p.hours ≤ most_hours → p.missing ≤ p.hours → T (lawful p)
unfolding lawful
lawful-of p t h m =
    and_i (lawful_total p.total && leb p.hours most_hours) (leb p.missing p.hours)
    (and_i (lawful_total p.total) (leb p.hours most_hours) t (le→leb p.hours most_hours h))
    (le→leb p.missing p.hours m)

-- ---- which case a state and an hour are
module _ (p : Panel) where
  pub step_unlawful : (h : Hour) → lawful p ≡ false → panel_step p h ≡ unchanged 12 p
  unfolding panel_step need
  step_unlawful h e = rw e

  pub step_full : (h : Hour) → lawful p ≡ true → most_hours ≤ p.hours → panel_step p h ≡ unchanged 11 p
  unfolding panel_step need
  step_full h e g = simp (e, le-ltb _ _ g)

  pub step_room : (h : Hour) → lawful p ≡ true → p.hours < most_hours → panel_step p h ≡ after_hour p (figures_of h)
  unfolding panel_step need
  step_room h e g = simp (e, lt-ltb _ _ g)

  pub added-over : (q : ℕ) → 2 ^ 53 < whole p.total + q → added p q ≡ unchanged 10 p
  unfolding added need
  added-over q h = rw (lt-leb _ _ h)

  pub added-sum : (q : ℕ) → whole p.total + q ≤ 2 ^ 53 → added p q ≡ counted p (as_total (whole p.total + q)) p.missing
  unfolding added need
  added-sum q h = rw (le-leb _ _ h)

-- `panel::Panel::take` meets its contract: each way out is the rule's case at the tests that led there. Assumes nothing.
use Rattle.std.proofs.Common.{◌≡◌, ◌<◌, Bool, true, T, sym, ap, ◌∙◌, subst, arith}
use lib.Ieee.Bits.{is_true}
use Rattle.law.specs.Numbers.{most_hours}
use Rattle.reading.specs.Reading.{stated, stated_hour, figures_of}
use Rattle.reading.specs.declared.Hour.{Hour}
use Rattle.panel.specs.declared.Panel.{Panel}
use Rattle.panel.specs.Lawful.{lawful}
use Rattle.panel.specs.Panel.{unchanged, counted, after_hour, panel_step}
use Rattle.panel.proofs.Laws.{lawful-total, missing_le, step_unlawful, step_full, step_room}
use Rattle.panel.proofs.Panel.take.Goals as goal

-- ---- past the first test, where it answered b, the panel is lawful, past the second it has room
law : (p : Panel) (b : Bool) → b ≡ lawful p → b ≡ true → lawful p ≡ true
law p b e t = sym e ∙ t

lawfully : (p : Panel) (b : Bool) → b ≡ lawful p → b ≡ true → T (lawful p)
lawfully p b e t = subst T (sym (law p b e t)) tt

case : (p : Panel) (h g : Hour) → lawful p ≡ true → p.hours < most_hours → h ≡ g → after_hour p (figures_of g) ≡ panel_step p h
case p h g l r e = ap (λ (i : Hour). after_hour p (figures_of i)) (sym e) ∙ sym (step_room p h l r)

pub returns-then-not-is_lawful : goal.returns-then-not-is_lawful
unfolding unchanged
returns-then-not-is_lawful c = sym (step_unlawful _ _ (sym c.is_lawful.ensures ∙ c.if-not-is_lawful.true))

pub returns-then-self-ge-MOST_HOURS : goal.returns-then-self-ge-MOST_HOURS
unfolding unchanged
returns-then-self-ge-MOST_HOURS c = sym (step_full _ _ (law _ _ c.is_lawful.ensures c.if-not-is_lawful.false) c.if-self-ge-MOST_HOURS.true)

pub measure-requires : goal.measure-requires
measure-requires c = (is_true _ (lawful-total _ (lawfully _ _ c.is_lawful.ensures c.if-not-is_lawful.false)), c.if-self-ge-MOST_HOURS.false)

pub overflow_add-self : goal.overflow_add-self
overflow_add-self c = omega (arith, missing_le _ (lawfully _ _ c.is_lawful.ensures c.if-not-is_lawful.false), c.if-self-ge-MOST_HOURS.false)

pub returns-in-Measured : goal.returns-in-Measured
unfolding figures_of
returns-in-Measured c = c.measure.ensures ∙ case _ _ _ (law _ _ c.is_lawful.ensures c.if-not-is_lawful.false) c.if-self-ge-MOST_HOURS.false c.in-Measured.is

pub returns-in-Missing : goal.returns-in-Missing
unfolding after_hour counted stated stated_hour figures_of
returns-in-Missing c = case _ _ _ (law _ _ c.is_lawful.ensures c.if-not-is_lawful.false) c.if-self-ge-MOST_HOURS.false c.in-Missing.is

pub returns-in-Stopped : goal.returns-in-Stopped
unfolding after_hour counted figures_of
returns-in-Stopped c = case _ _ _ (law _ _ c.is_lawful.ensures c.if-not-is_lawful.false) c.if-self-ge-MOST_HOURS.false c.in-Stopped.is

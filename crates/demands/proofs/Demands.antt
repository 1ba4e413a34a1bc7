-- A proof of each statement of specs/Demands.antt. Assumes nothing.
use mathlib.Core.Path.{◌≡◌, refl, sym, ap, ◌∙◌, subst}
use mathlib.Core.Logic.{◌⊎◌, ⊎_elim}
use mathlib.Core.Bool.{Bool, true, false, not}
use mathlib.Core.List.{List}
use Prim.Native.Nat.{ℕ, zero, suc, ◌+◌, ◌-◌, ◌*◌, ◌/◌, ◌^◌, ◌<◌}
use native.Mathlib.Nat.{zero-mul, zero-div}
use native.Mathlib.Omega.{arith}
use lib.ListN.{length, get_or, replicate}
use lib.Dec.{T}
use lib.IntN.{ℤ}
use lib.Ieee.{Float, nan, inf, fin, binary32, up, down, fits}
use lib.Ieee.Bits.{of_bits-fits}
use lib.Ieee.Exact.{HasValue}
use borrow.Author.Tests.{ne_eqb}
use denote.Ref.{Bor}
use Rattle.law.proofs.Seek.{seek_first, seek_none}
use Rattle.law.proofs.Tests.{false_true}
use Rattle.reading.specs.declared.Hour.{Hour}
use Rattle.reading.specs.Reading.{reading, allowed, exact}
use Rattle.reading.proofs.Laws.{units_exact}
use Rattle.rules.specs.Refusals.{Answer}
use Rattle.rules.specs.Row.{concentration_cells, flow_cells}
use Rattle.rules.specs.Judge.{refuse}
use Rattle.rules.proofs.Surveyed.{days_no_more}
use Rattle.rules.specs.Account.{refusal, acceptance, answer_of, rows_after, work_after}
use Rattle.answers.proofs.Answers.{stated}
use Rattle.answers.proofs.Places.{answer_points}
use Rattle.answers.proofs.Never.{never_three}
use Rattle.answers.proofs.Running.{accepted_alone}
use Rattle.answers.specs.Places.{of_field, PointsAt}
use Rattle.answers.proofs.Only.{promise_only}
use Rattle.panel.proofs.Runs.{run_exact, run_fits, run_good, run_value, run_accepts}
use Rattle.survey.specs.Governing.{is_survey, part, survey_or, governing}
use Rattle.survey.proofs.Only.{governing-survey}
use Rattle.demands.specs.Example.{example}
use Rattle.law.specs.Numbers.{most_hours, row_cells}
use Rattle.rules.specs.Measured.{Measured}
use Rattle.rules.specs.Grams.{automatic, manual}
use Rattle.allowance.specs.Allowance.{Filling, in_air, in_water, AutomaticNear, ManualNear}
use Rattle.allowance.proofs.Account.{FillsOff}
use Rattle.allowance.proofs.Fills.{fills_off, unfilled-off}
use Rattle.allowance.proofs.Near.{automatic-near, manual-near, stack_near, outfall_near}
use Rattle.quarter.proofs.account.Met.{met as account-met}
use Rattle.panel.proofs.Panel.hour.Met.{met as hour-met}
use Rattle.survey.proofs.governing_survey.Met.{met as governing-met}
use Rattle.import.proofs.import_days.Met.{met as import-met}
use Rattle.import.proofs.Back.{back}
use Rattle.import.proofs.Grammar.{formed_is}
use Rattle.demands.specs.Demands.{Call, Result, Lent, Kept, Version, Keeps, Taken, NoneOfFour, EveryRowNear, RefusesAll, PanelExact, Governs, Demands, Code}
use Rattle.filed.proofs.check_filed.Met.{met as check-met}
use Rattle.filed.proofs.filed_text.Met.{met as filed-text-met}
use Rattle.demands.proofs.Filings.{checks, stated-agrees}
use Rattle.demands.proofs.Printed.{printed-agrees}
use Rattle.demands.proofs.Falsity.{differ}
use Rattle.demands.proofs.Files.{second, two, outfall, dirtier, mixed, call_of, lent_all, rows_to, Given, given_all}
use Rattle.demands.proofs.Rows.{row_near}
use Rattle.demands.proofs.Imports.{brings_in}

-- ---- demand 1
-- the result that the definitions give
unfoldable pub result_of : Call → Result
result_of c =
    let lent = length c.rows in
    let n = length c.concentrations in
    let m = length c.flows in
    record {
      answer = answer_of c.file lent n m;
      rows = rows_after c.file c.rows n m;
      concentrations = work_after concentration_cells c.file lent n m c.concentrations;
      flows = work_after flow_cells c.file lent n m c.flows;
    }

pub kept : (c : Call) → Kept c (result_of c)
unfolding result_of
kept c = record { answers = refl; leaves = refl; concentrations_hold = refl; flows_hold = refl }

one : (c : Call) → (r : Result) × Kept c r × ((s : Result) → Kept c s → s ≡ r)
one c = (result_of c, kept c, λ s k. same s k)
  where
    same : (s : Result) → Kept c s → s ≡ result_of c
    same s k =
        let e = promise_only c.file c.rows c.concentrations c.flows _ _ _ _ _ _ _ _ k (kept c) in
        λ i. record { answer = e.0 i; rows = e.1 i; concentrations = e.2 i; flows = e.3 i }

-- ---- demand 2
-- three files that show it: two with one line and other grams, and one with two lines; what they give, by the definitions
record Shown (pollutant : ℕ) : Type 0 where
  this : List ℕ
  other : List ℕ
  both : List ℕ
  lent_this : Lent (call_of this)
  lent_other : Lent (call_of other)
  lent_both : Lent (call_of both)
  given_this : Given this 1
  given_other : Given other 1
  given_both : Given both 2
  of_this : get_or (rows_to this) 1 0 ≡ pollutant
  of_other : get_or (rows_to other) 1 0 ≡ pollutant
  of_both : get_or (rows_to both) 8 0 ≡ pollutant
  grams_differ : get_or (rows_to this) 3 0 ≡ get_or (rows_to other) 3 0 → ⊥
  lines_differ : get_or (rows_to both) 10 0 ≡ get_or (rows_to both) 3 0 → ⊥
  row_some : get_or (rows_to this) 3 0 ≡ 0 → ⊥
  concentration_some : get_or (work_after concentration_cells this 14 most_hours most_hours (replicate most_hours 0)) 0 0 ≡ 0 → ⊥
  flow_some : get_or (work_after flow_cells this 14 most_hours most_hours (replicate most_hours 0)) 0 0 ≡ 0 → ⊥

module _ (v : Version) (k : Keeps v) where
  taken_of : (file : List ℕ) (p n : ℕ) → Given file n → Lent (call_of file) → get_or (rows_to file) (row_cells * (n - 1) + 1) 0 ≡ p → Taken v p n
  taken_of file p n g l o =
      let e = (k (call_of file) l).answers in
      record {
        call = call_of file;
        lent = l;
        number = ap (λ (a : Answer). a.number) e ∙ g.number;
        count = ap (λ (a : Answer). a.rows) e ∙ g.rows;
        of = ap (λ (r : List ℕ). get_or r (row_cells * (n - 1) + 1) 0) (k (call_of file) l).leaves ∙ o;
      }

  none_by : (p : ℕ) → Shown p → NoneOfFour v p
  unfolding taken_of
  none_by p s =
      let this = taken_of s.this p 1 s.given_this s.lent_this s.of_this in
      let other = taken_of s.other p 1 s.given_other s.lent_other s.of_other in
      let both = taken_of s.both p 2 s.given_both s.lent_both s.of_both in
      let kept-this = k (call_of s.this) s.lent_this in
      let a = ap (λ (r : List ℕ). get_or r 3 0) kept-this.leaves in
      let b = ap (λ (r : List ℕ). get_or r 3 0) (k (call_of s.other) s.lent_other).leaves in
      let rows = (k (call_of s.both) s.lent_both).leaves in
      record {
        accepts = this;
        grams = (this, other, λ e. s.grams_differ (sym a ∙ e ∙ b));
        writes = (
          this,
          (λ e. s.row_some (sym a ∙ ap (λ (r : List ℕ). get_or r 3 0) e)),
          (λ e. s.concentration_some (sym (ap (λ (r : List ℕ). get_or r 0 0) kept-this.concentrations_hold) ∙ ap (λ (r : List ℕ). get_or r 0 0) e)),
          (λ e. s.flow_some (sym (ap (λ (r : List ℕ). get_or r 0 0) kept-this.flows_hold) ∙ ap (λ (r : List ℕ). get_or r 0 0) e)),
        );
        lines = (both, λ e. s.lines_differ (sym (ap (λ (r : List ℕ). get_or r 10 0) rows) ∙ e ∙ ap (λ (r : List ℕ). get_or r 3 0) rows));
      }

stacks_show : Shown 2
stacks_show =
    let g = given_all in
    let l = lent_all in
    let a : get_or (rows_to example) 3 0 ≡ 126_500 = ap (λ (r : List ℕ). get_or r 3 0) g.row_example in
    let b : get_or (rows_to second) 3 0 ≡ 136_500 = ap (λ (r : List ℕ). get_or r 3 0) g.row_second in
    let c : get_or (rows_to two) 3 0 ≡ 126_500 = ap (λ (r : List ℕ). get_or r 3 0) g.rows_two in
    let d : get_or (rows_to two) 10 0 ≡ 136_500 = ap (λ (r : List ℕ). get_or r 10 0) g.rows_two in
    record {
      this = example;
      other = second;
      both = two;
      lent_this = l.of_example_here;
      lent_other = l.of_second;
      lent_both = l.of_two;
      given_this = g.of_example_here;
      given_other = g.of_second;
      given_both = g.of_two;
      of_this = ap (λ (r : List ℕ). get_or r 1 0) g.row_example;
      of_other = ap (λ (r : List ℕ). get_or r 1 0) g.row_second;
      of_both = ap (λ (r : List ℕ). get_or r 8 0) g.rows_two;
      grams_differ = λ e. differ _ _ _ _ a b (omega arith) e;
      lines_differ = λ e. differ _ _ _ _ d c (omega arith) e;
      row_some = λ e. differ _ _ _ _ a refl (omega arith) e;
      concentration_some = λ e. differ _ _ _ _ g.concentration refl (omega arith) e;
      flow_some = λ e. differ _ _ _ _ g.flow refl (omega arith) e;
    }

outfalls_show : Shown 4
outfalls_show =
    let g = given_all in
    let l = lent_all in
    let a : get_or (rows_to outfall) 3 0 ≡ 20_000 = ap (λ (r : List ℕ). get_or r 3 0) g.row_outfall in
    let b : get_or (rows_to dirtier) 3 0 ≡ 30_000 = ap (λ (r : List ℕ). get_or r 3 0) g.row_dirtier in
    let c : get_or (rows_to mixed) 3 0 ≡ 126_500 = ap (λ (r : List ℕ). get_or r 3 0) g.rows_mixed in
    let d : get_or (rows_to mixed) 10 0 ≡ 20_000 = ap (λ (r : List ℕ). get_or r 10 0) g.rows_mixed in
    record {
      this = outfall;
      other = dirtier;
      both = mixed;
      lent_this = l.of_outfall;
      lent_other = l.of_dirtier;
      lent_both = l.of_mixed;
      given_this = g.of_outfall;
      given_other = g.of_dirtier;
      given_both = g.of_mixed;
      of_this = ap (λ (r : List ℕ). get_or r 1 0) g.row_outfall;
      of_other = ap (λ (r : List ℕ). get_or r 1 0) g.row_dirtier;
      of_both = ap (λ (r : List ℕ). get_or r 8 0) g.rows_mixed;
      grams_differ = λ e. differ _ _ _ _ a b (omega arith) e;
      lines_differ = λ e. differ _ _ _ _ d c (omega arith) e;
      row_some = λ e. differ _ _ _ _ a refl (omega arith) e;
      concentration_some = λ e. differ _ _ _ _ g.day_concentration refl (omega arith) e;
      flow_some = λ e. differ _ _ _ _ g.day_flow refl (omega arith) e;
    }

none_of_four : (v : Version) → Keeps v → NoneOfFour v 2 × NoneOfFour v 4
none_of_four v k = (none_by v k 2 stacks_show, none_by v k 4 outfalls_show)

-- ---- demand 3 over the scale
over_scale : (f : Filling) → (f ≡ in_air) ⊎ (f ≡ in_water) → (m : Measured) → 0 < m.units
    → AutomaticNear f m (automatic f.values m) × (0 < length m.surveys → ManualNear m (manual m))
over_scale f w m u = (
  ⊎_elim (λ e. automatic-near f m _ (subst (λ (g : Filling). FillsOff (2 ^ 149) g.values g.exactly g.allows) (sym e) (fills_off (2 ^ 149))) u refl)
      (λ e. automatic-near f m _ (subst (λ (g : Filling). FillsOff (2 ^ 149) g.values g.exactly g.allows) (sym e) (unfilled-off (2 ^ 149))) u refl) w,
  λ n. manual-near m _ u n refl,
)

-- ---- demand 3
near : (v : Version) → Keeps v → EveryRowNear v
unfolding acceptance
near v k c l z =
    let s = stated c.file c.rows (v c).answer (v c).rows c.concentrations c.flows (v c).concentrations (v c).flows (k c l) z in
    (s.lines, s.accepted, ap (λ (a : Answer). a.rows) s.answers, λ i h. row_near c.file s.lines s.accepted (v c).rows _ s.leaves i h)

-- refuses every call with 1
refuser : Version
refuser c = record { answer = refusal (refuse 1 0); rows = c.rows; concentrations = c.concentrations; flows = c.flows }

refuses : RefusesAll refuser
unfolding refuser refusal refuse
refuses c l z = omega arith

alone : (v : Version) → RefusesAll v → EveryRowNear v × (Keeps v → ⊥)
alone v r = ((λ c l z. absurd (r c l z)), λ k. let a = (none_of_four v k).0.accepts in r a.call a.lent a.number)

-- ---- which field
pointed : (c : Call) (r : Result) → Kept c r → (r.answer.number ≡ 3 → ⊥) × (of_field r.answer.number ≡ true → PointsAt c.file r.answer.number r.answer.place)
pointed c r k = (
  never_three c.file c.rows r.answer r.rows c.concentrations c.flows r.concentrations r.flows k,
  answer_points c.file c.rows r.answer r.rows c.concentrations c.flows r.concentrations r.flows k,
)

-- ---- readings
sign_zero : (s : Bool) (m : ℕ) (e : ℤ) → allowed (fin s m e) ≡ true → s ≡ true → exact (fin s m e) ≡ 0
unfolding allowed exact
sign_zero false m e h t = absurd (false_true t)
sign_zero true zero e h t = ap (λ (n : ℕ). n * 2 ^ 149 / down e) (zero-mul (up e)) ∙ ap (λ (n : ℕ). n / down e) (zero-mul (2 ^ 149)) ∙ zero-div (down e)
sign_zero true (suc m) e h t = absurd (false_true (ap (λ (b : Bool). not (not b)) (sym (ne_eqb (suc m) 0 (λ z. omega arith))) ∙ h))

finite_exact : (x : Float) → T (fits binary32 x) → allowed x ≡ true → (sign : Bool) × HasValue x sign (exact x) (2 ^ 149) × (sign ≡ true → exact x ≡ 0)
unfolding allowed
finite_exact nan f h = absurd (false_true h)
finite_exact (inf s) f h = absurd (false_true h)
finite_exact (fin s m e) f h = (s, (refl, sym (units_exact s m e f)), sign_zero s m e h)

in_units : (bits : ℕ) → allowed (reading bits) ≡ true
    → (sign : Bool) × HasValue (reading bits) sign (exact (reading bits)) (2 ^ 149) × (sign ≡ true → exact (reading bits) ≡ 0)
unfolding reading
in_units bits h = finite_exact (reading bits) (of_bits-fits binary32 bits) h

-- ---- the panel
panel_exact : (hs : List Hour) → PanelExact hs
panel_exact hs =
    record {
      taken = ((λ r. (run_good hs r, (run_fits hs r).hours-le, (run_fits hs r).total_le)), λ h. run_accepts hs h.0 h.1 h.2);
      state = run_exact hs;
      value = run_value hs;
    }

-- ---- the governing survey
governs : (e p : Bor (List ℕ)) (hour : ℕ) → Governs e p hour
unfolding governing survey_or
governs e p hour =
    let n = seek_none (λ i. is_survey e.now 3 hour (14 * i)) (λ i. part e (14 * i) 14) (survey_or p 4 hour (part p 0 0)) (length e.now / 14) in
    record {
      first = λ i f. seek_first (λ j. is_survey e.now 3 hour (14 * j)) (λ j. part e (14 * j) 14) _ (length e.now / 14) i f.0 f.1 f.2;
      second = λ o i f. n o ∙ seek_first (λ j. is_survey p.now 4 hour (14 * j)) (λ j. part p (14 * j) 14) _ (length p.now / 14) i f.0 f.1 f.2;
      neither = λ o q. n o ∙ seek_none (λ i. is_survey p.now 4 hour (14 * i)) (λ i. part p (14 * i) 14) (part p 0 0) (length p.now / 14) q;
      only = λ r s. governing-survey e p r s hour;
    }

-- ---- all of it
pub demands : Demands
demands =
    record {
      one = one;
      two = none_of_four;
      three = near;
      scale = over_scale;
      air = stack_near;
      water = outfall_near;
      alone = ((refuser, refuses), alone);
      places = pointed;
      outage = days_no_more;
      elsewhere = accepted_alone;
      readings = in_units;
      panel = panel_exact;
      survey = governs;
      imports = brings_in;
      lines = formed_is;
      decimals = back;
      checks = checks;
      stated = stated-agrees;
      printed = printed-agrees;
    }

-- ---- the code
pub code : {M : Type 1} → Code M
code = record { account = account-met; hour = hour-met; survey = governing-met; import = import-met; check = check-met; filed = filed-text-met }

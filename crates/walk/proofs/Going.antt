-- The loop of the walk: the code's state stands for some lines, from which the rules' walk goes on to the file's outcome. Assumes nothing.
use mathlib.Core.Path.{◌≡◌, refl, ◌∙◌, sym, ap, subst}
use mathlib.Core.Bool.{Bool, true, false, true≢false, ◌||◌}
use mathlib.Core.List.{List, []}
use Prim.Native.Nat.{ℕ, zero, suc, ◌+◌, ◌-◌, ◌<◌, ◌≤◌}
use native.Mathlib.Omega.{arith}
use lib.ListN.{length, take, drop, replicate, get_or, length-drop, length-replicate, get_or-replicate}
use borrow.Author.Tests.{lt-ltb, le-ltb, eq-eqb, ne_eqb, eqb-false}
use Rattle.law.specs.Numbers.{most_days, most_hours, most_cells, total_cells}
use Rattle.law.specs.Words.{need, pick, sum_of, table}
use Rattle.law.proofs.Over.{part-whole}
use Rattle.law.proofs.Tabled.{table_is}
use Rattle.std.specs.Prelude.{Result, Ok, Err}
use Rattle.rules.specs.declared.Refused.{Refused as RefusedAt}
use Rattle.rules.specs.declared.Refusal.TheVariants.{OutOfPlace}
use Rattle.rules.specs.Refusals.{Fault, number_of, fault_in, told}
use Rattle.rules.proofs.Refusals.{numbered}
use Rattle.rules.specs.declared.Record.{Record}
use Rattle.rules.specs.declared.Record.TheVariants.{Bad}
use Rattle.rules.specs.declared.View.{View}
use Rattle.rules.specs.Records.{record_in, size_in, records_from, records_of}
use Rattle.rules.specs.OnPaper.{record_on_paper}
use Rattle.rules.proofs.OnPaper.{record_only}
use Rattle.rules.specs.Judge.{refuse, fine, judge_record, judge_readings, judge, at_place}
use Rattle.rules.specs.Row.{rows_of, total_of, totals_of, cells, concentration_cells, flow_cells}
use Rattle.rules.specs.Walk.{Stand, Between, Inside, InWater, no_head, view_of, runs_of, taken, ended, fault_of, walk, Refused, outcome}
use Rattle.rules.proofs.Faults.{Within, at_place-number}
use Rattle.rules.proofs.Records.{size_some, record_whole}
use Rattle.judge.proofs.Laws.{record_within, readings-within, judge-refused, judge-passed, bad_refused}
use Rattle.walk.specs.declared.books.Sums.{Sums}
use Rattle.walk.specs.declared.books.Taken.{Taken}
use Rattle.walk.specs.declared.books.Done.{Done}
use Rattle.walk.specs.declared.Walked.{Walked}
use Rattle.walk.specs.Views.{opened_view, behind}
use Rattle.walk.specs.Books.{no_rows, Open, Kept}
use Rattle.walk.specs.Walking.{Ready, Took, Takes, Stepped, Steps, Going, Ended}
use Rattle.walk.proofs.Asked.{refused_none}
use Rattle.walk.proofs.Cleared.{replicate_zero, cells-past}
use Rattle.walk.proofs.Views.{view_start}

-- ---- the rules' walk, a record at a time
module _ (file : List ℕ) (at : ℕ) (stand : Stand) where
  -- the bytes from the record on, and what refuses it, counted from its start
  abbrev here : List ℕ
  here = drop at file

  abbrev verdict : Fault
  verdict = judge (view_of stand) (runs_of stand) here

  walk-on : (most : ℕ) → at < length file → length file ≤ at + most → verdict.number ≡ 0
      → (f : ℕ) × (walk file (records_from most file at) stand ≡ walk file (records_from f file (at + size_in here)) (taken stand here (record_in here))) × (length file ≤ at + size_in here + f)
  unfolding walk records_from need pick fault_of
  walk-on zero h n e = absurd (omega arith)
  walk-on (suc f) h n e = (f, rw (lt-ltb at (length file) h, eq-eqb _ 0 (at_place-number at verdict ∙ e)), omega (arith, size_some here))

  walk_refused : (most : ℕ) → at < length file → length file ≤ at + most → (verdict.number ≡ 0 → ⊥) → walk file (records_from most file at) stand ≡ Refused (at_place at verdict)
  unfolding walk records_from need pick fault_of
  walk_refused zero h n e = absurd (omega arith)
  walk_refused (suc f) h n e = rw (lt-ltb at (length file) h, ne_eqb _ 0 (λ z. e (sym (at_place-number at verdict) ∙ z)))

  walk-ended : (most : ℕ) → length file ≤ at → walk file (records_from most file at) stand ≡ ended file stand
  unfolding walk records_from need
  walk-ended zero h = refl
  walk-ended (suc f) h = rw (le-ltb at (length file) h)

-- ---- the loop begins
pub zeros : (n : ℕ) → table {A = ℕ} (λ h. 0) n ≡ replicate n 0
zeros n = sym (table_is (λ h. 0) n 0 (replicate n 0) (length-replicate n 0) (λ k l. get_or-replicate n k 0 0 l))

pub going_start : (file : List ℕ) (v : View) (s : Sums) (o : Open) (d : Done) → v ≡ opened_view false false 0 0 no_head → s.used ≡ 0
    → length o.runs ≡ most_days → length o.measured ≡ most_days → length o.states ≡ most_hours → o.flags ≡ replicate most_hours false
    → o.concentrations ≡ cells [] → o.flows ≡ cells [] → d.rows ≡ no_rows → d.totals ≡ replicate total_cells 0 → Going file v s 0 o d
unfolding outcome records_of rows_of totals_of total_of sum_of concentration_cells flow_cells cells no_rows
going_start file v s o d ve se rl ml sl g c f ol tl =
    let kept : Kept (Between []) v s o d =
    record {
      view = ve ∙ view_start;
      lines = omega arith;
      done =
          record {
            rows = ol;
            totals = tl ∙ sym (zeros total_cells);
            most = λ i. omega (arith, ap (λ (t : List ℕ). get_or t i 0) tl ∙ replicate_zero 0 total_cells i);
            long = ap length ol ∙ length-replicate {A = ℕ} most_cells 0;
          };
      long =
          record {
            runs = rl;
            measured = ml;
            states = sl;
            flags = ap length g ∙ length-replicate {A = Bool} most_hours false;
            concentrations = ap length c ∙ length-replicate {A = ℕ} most_hours 0;
            flows = ap length f ∙ length-replicate {A = ℕ} most_hours 0;
          };
      books =
          record {
            conc_held_here = c;
            flow_held = f;
            used_most = omega (arith, se);
            flags_past = λ h l. ap (λ (t : List Bool). get_or t h false) g ∙ replicate_zero false most_hours h;
            conc_past = λ h l. ap (λ (t : List ℕ). get_or t h 0) c ∙ cells-past [] 0 h (omega arith) (omega arith);
            flow_past = λ h l. ap (λ (t : List ℕ). get_or t h 0) f ∙ cells-past [] 0 h (omega arith) (omega arith);
          };
    } in
    record { stand = Between []; most = length file; kept = kept; within = omega arith; enough = omega arith; rest = refl }

-- ---- a record is judged
-- the run masks that are lent to the judge
lent_stand : (stand : Stand) (v : View) (s : Sums) (o : Open) (d : Done) → Kept stand v s o d → take v.days o.runs ≡ runs_of stand
unfolding view_of runs_of
lent_stand (Between done) v s o d k = ap (λ (w : View). take w.days o.runs) k.view
lent_stand (Inside x done) v s o d k = ap (λ (w : View). take w.days o.runs) k.view ∙ k.books.masks.runs_kept
lent_stand (InWater x done) v s o d k = ap (λ (w : View). take w.days o.runs) k.view ∙ k.books.runs

numbered_told : {A : Type 0} (t : Result A RefusedAt) (f : RefusedAt) → t ≡ Err f → (told t).number ≡ 0 → ⊥
unfolding told fault_in
numbered_told t f e z = eqb-false (number_of f.refusal) 0 (numbered f.refusal) (sym (ap (λ (x : Result _ RefusedAt). (told x).number) e) ∙ z)

module _ (stand : Stand) (v : View) (s : Sums) (o : Open) (d : Done) (kept : Kept stand v s o d) (bytes : List ℕ) (r : Record)
    (paper : record_on_paper r ≡ record_on_paper (record_in bytes)) (j : Result Unit RefusedAt) (judged : told j ≡ judge_record v (take v.days o.runs) r)
  where
    read : r ≡ record_in bytes
    read = record_only r (record_in bytes) paper

    judged-here : told j ≡ judge_record v (runs_of stand) r
    judged-here = judged ∙ ap (λ (l : List ℕ). judge_record v l r) (lent_stand stand v s o d kept)

    by_view : judge v (runs_of stand) bytes ≡ judge (view_of stand) (runs_of stand) bytes
    by_view = ap (λ (w : View). judge w (runs_of stand) bytes) kept.view

    -- the judge refuses it
    pub refused_step : (f : RefusedAt) → j ≡ Err f → (t : Result Unit RefusedAt) → t ≡ Err f → (u : Taken) (o' : Open) (d' : Done) → Stepped stand bytes t u o' d'
    unfolding told fault_in
    refused_step f e t is u o' d' =
        let n = numbered_told j f e in
        let w : Within (length bytes) (told j) = subst (Within (length bytes)) (sym (judged-here ∙ ap (judge_record v (runs_of stand)) read)) (record_within v (runs_of stand) bytes) in
        record {
          faults = ap told is ∙ sym (ap told e) ∙ judge-refused v (runs_of stand) bytes r read (told j) judged-here n ∙ by_view;
          stays = λ q. absurd (refused_none f tt (sym is ∙ q));
          within = λ g q. omega (arith, w, ap (λ (x : Result Unit RefusedAt). (told x).place) e, ap (λ (x : Result Unit RefusedAt). (told x).place) (sym is ∙ q));
        }

    module _ (passes : j ≡ Ok tt) where
      is_fine : judge_record v (runs_of stand) r ≡ fine
      unfolding told fine
      is_fine = sym judged-here ∙ ap told passes

      pub ready : Ready stand bytes r v s o d
      ready = record { kept = kept; read = read; passed = is_fine }

      not_bad : record_in bytes ≡ Bad → ⊥
      not_bad q = bad_refused v (runs_of stand) (ap (judge_record v (runs_of stand)) (sym q ∙ sym read) ∙ is_fine)

      -- it is taken in, or one of a day's readings is refused
      pub taken_step : (t : Result Unit RefusedAt) (u : Taken) (o' : Open) (d' : Done) → Takes bytes r v s o d o' d' t u → Stepped stand bytes t u o' d'
      unfolding told fault_in ready fine
      taken_step t u o' d' takes =
          let mine : Took stand bytes r t u o' d' = takes stand ready in
          let w : Within (length bytes) (told t) = subst (Within (length bytes)) (sym (mine.faults ∙ ap (judge_readings bytes) read)) (readings-within bytes) in
          record {
            faults = mine.faults ∙ judge-passed v (runs_of stand) bytes r read (told j) judged-here (ap (λ (x : Result Unit RefusedAt). (told x).number) passes) ∙ by_view;
            stays = λ q. (subst (λ (x : Record). Kept (taken stand bytes x) u.view u.sums o' d') read (mine.stays q), record_whole bytes not_bad);
            within = λ f q. omega (arith, w, ap (λ (x : Result Unit RefusedAt). (told x).place) q);
          }

-- ---- a turn of the loop
module _ (file : List ℕ) (v : View) (s : Sums) (at : ℕ) (o : Open) (d : Done) (g : Going file v s at o d) (more : at < length file)
    (t : Result Unit RefusedAt) (u : Taken) (o' : Open) (d' : Done)
  where
    abbrev bytes : List ℕ
    bytes = take (length file - at) (drop at file)

    module _ (steps : Steps bytes v s o d o' d' t u) where
      mine : Stepped g.stand bytes t u o' d'
      mine = steps g.stand g.kept

      here-is : told t ≡ verdict file at g.stand
      here-is = mine.faults ∙ ap (judge (view_of g.stand) (runs_of g.stand)) (part-whole at file)

      -- its refusal is the file's
      pub turn_refused : (f : RefusedAt) → t ≡ Err f → outcome file ≡ Refused (fault_in (behind at f))
      unfolding told fault_in at_place need refuse
      turn_refused f e =
          let q : verdict file at g.stand ≡ fault_in f = sym here-is ∙ ap told e in
          let m : (verdict file at g.stand).number ≡ 0 → ⊥ = λ z. numbered_told t f e (ap (λ (y : Fault). y.number) here-is ∙ z) in
          sym g.rest ∙ walk_refused file at g.stand g.most more g.enough m ∙ ap (λ (y : Fault). Refused (at_place at y)) q ∙ ap Refused (rw (numbered f.refusal) refl)

      -- it is taken in, and the walk goes on behind it
      pub turn_goes : t ≡ Ok tt → Going file u.view u.sums (at + size_in bytes) o' d'
      unfolding told
      turn_goes e =
          let z : (verdict file at g.stand).number ≡ 0 = ap (λ (y : Fault). y.number) (sym here-is ∙ ap told e) in
          let on = walk-on file at g.stand g.most more g.enough z in
          let same = part-whole at file in
          record {
            stand = taken g.stand (here file at g.stand) (record_in (here file at g.stand));
            most = on.0;
            kept = subst (λ (b : List ℕ). Kept (taken g.stand b (record_in b)) u.view u.sums o' d') same (mine.stays e).0;
            within = omega (arith, (mine.stays e).1, ap length same, length-drop at file);
            enough = omega (arith, on.2, ap size_in same);
            rest = ap (λ (b : List ℕ). walk file (records_from on.0 file (at + size_in b)) (taken g.stand (drop at file) (record_in (drop at file)))) same ∙ sym on.1 ∙ g.rest;
          }

      pub turn_shorter : 0 < size_in bytes
      turn_shorter = omega (arith, size_some bytes)

-- ---- the file's end
open_case : (file : List ℕ) (stand : Stand) → ((view_of stand).inside || (view_of stand).water) ≡ true → ended file stand ≡ Refused (refuse 2 (length file))
unfolding view_of ended
open_case file (Between done) e = absurd (true≢false (sym e))
open_case file (Inside x done) e = refl
open_case file (InWater x done) e = refl

module _ (file : List ℕ) (v : View) (s : Sums) (at : ℕ) (o : Open) (d : Done) (g : Going file v s at o d) (over : length file ≤ at) where
  at-end : outcome file ≡ ended file g.stand
  at-end = sym g.rest ∙ walk-ended file at g.stand g.most over

  pub end_open : (v.inside || v.water) ≡ true → outcome file ≡ Refused (fault_in (record { refusal = OutOfPlace; place = length file }))
  unfolding fault_in refuse
  end_open e = at-end ∙ open_case file g.stand (sym (ap (λ (w : View). w.inside || w.water) g.kept.view) ∙ e)

  closed_by : (stand : Stand) → stand ≡ g.stand → (v.inside || v.water) ≡ false → (w : Walked) → w.account.lines ≡ v.lines → w.account.totals ≡ d.totals → w.rows ≡ d.rows
      → Ended file o.concentrations o.flows w
  unfolding view_of ended
  closed_by (Between done) q e w l t r =
      let k = subst (λ (x : Stand). Kept x v s o d) (sym q) g.kept in
      record {
        lines = done;
        accepted = at-end ∙ ap (ended file) (sym q);
        count = l ∙ ap (λ (x : View). x.lines) k.view;
        most = k.lines;
        rows = r ∙ k.done.rows;
        totals = t ∙ k.done.totals;
        conc_held_here = k.books.conc_held_here;
        flow_held = k.books.flow_held;
      }
  closed_by (Inside x done) q e w l t r = absurd (true≢false (sym (ap (λ (x : View). x.inside || x.water) (g.kept.view ∙ ap view_of (sym q))) ∙ e))
  closed_by (InWater x done) q e w l t r = absurd (true≢false (sym (ap (λ (x : View). x.inside || x.water) (g.kept.view ∙ ap view_of (sym q))) ∙ e))

  pub end_closed : (v.inside || v.water) ≡ false → (w : Walked) → w.account.lines ≡ v.lines → w.account.totals ≡ d.totals → w.rows ≡ d.rows → Ended file o.concentrations o.flows w
  end_closed = closed_by g.stand refl

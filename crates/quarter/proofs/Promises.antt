-- The ways out of the account call, from what the walk promises. Assumes nothing.
use Rattle.std.specs.Prelude.{Result, Ok, Err}
use mathlib.Core.Path.{◌≡◌, refl, ◌∙◌, sym, ap, ap₂, subst}
use mathlib.Core.Bool.{Bool, true, false, true≢false}
use mathlib.Core.List.{List, [], ◌++◌}
use Prim.Native.Nat.{ℕ, ◌*◌, ◌<◌, ◌≤◌}
use native.Mathlib.Omega.{arith}
use lib.ListN.{length, take, drop, length-append, length-drop}
use lib.Seq.{take_at, drop_at}
use lib.Dec.{leb}
use borrow.Author.Tests.{le-leb, lt-leb, leb-true, eqb-false}
use Rattle.law.specs.Numbers.{most_hours, most_cells}
use Rattle.law.specs.Words.{need}
use Rattle.rules.specs.declared.Refused.{Refused}
use Rattle.rules.specs.declared.Account.{Account}
use Rattle.rules.specs.Refusals.{number_of, Answer, answered}
use Rattle.rules.proofs.Refusals.{numbered}
use Rattle.rules.specs.Outfalls.{Line}
use Rattle.rules.specs.Judge.{refuse}
use Rattle.rules.specs.Row.{rows_of, cells, concentration_cells, flow_cells}
use Rattle.rules.specs.Account.{refusal, acceptance, rows_fit, work_fits, answer_from, answer_of, rows_from, rows_after, cells_from, work_after, Promise}
use Rattle.answers.specs.Answers.{Stated}
use Rattle.answers.proofs.Answers.{stated, denied}
use Rattle.answers.proofs.Rows.{rows_long}
use Rattle.walk.specs.declared.Walked.{Walked}
use Rattle.walk.specs.Books.{no_rows}
use Rattle.walk.specs.Walking.{walked_answer, walked_rows}
use Rattle.walk.proofs.Promises.{no_rows-long}

-- the cells past 2,208 stand as they were
past-kept : (cs xs ys : List ℕ) → ys ≡ cs ++ drop most_hours xs → length ys ≡ length xs → most_hours ≤ length xs → drop most_hours ys ≡ drop most_hours xs
past-kept cs xs ys e l m =
    let n : length cs ≡ most_hours = omega (arith, ap length e, length-append cs (drop most_hours xs), length-drop most_hours xs, l, m) in
    ap (drop most_hours) e ∙ drop_at cs (drop most_hours xs) most_hours n

-- the rows that are copied are those of the lines
copied : (lines : List Line) (t rows rows' : List ℕ) (n : ℕ) → n ≡ 7 * length lines → t ≡ rows_of lines ++ drop (7 * length lines) no_rows → rows' ≡ take n t ++ drop n rows
    → rows' ≡ rows_of lines ++ drop (7 * length lines) rows
copied lines t rows rows' n q e o =
    let front : take n t ≡ rows_of lines = ap₂ take q e ∙ take_at (rows_of lines) (drop (7 * length lines) no_rows) (7 * length lines) (rows_long lines) in
    o ∙ ap₂ (λ (s r : List ℕ). s ++ r) front (ap (λ (k : ℕ). drop k rows) q)

module _ (file conc flow : List ℕ) (a : Answer) (t conc' flow' : List ℕ) (p : Promise file no_rows conc flow a t conc' flow') where
  -- the number is 0: both work slices are long enough
  work_by : (b : Bool) → work_fits (length conc) (length flow) ≡ b → a.number ≡ 0 → work_fits (length conc) (length flow) ≡ true
  unfolding answer_of need refusal refuse
  work_by true e z = e
  work_by false e z = let q : a ≡ refusal (refuse 9 0) = p.answers ∙ rw e in absurd (omega (arith, ap (λ (b : Answer). b.number) q, z))

  work_fits_here : a.number ≡ 0 → work_fits (length conc) (length flow) ≡ true
  work_fits_here z = work_by (work_fits (length conc) (length flow)) refl z

  lengths_by : (b d : Bool) → leb most_hours (length conc) ≡ b → leb most_hours (length flow) ≡ d → work_fits (length conc) (length flow) ≡ true → (most_hours ≤ length conc) × (most_hours ≤ length flow)
  unfolding work_fits
  lengths_by true true e f w = (leb-true most_hours (length conc) e, leb-true most_hours (length flow) f)
  lengths_by true false e f w = absurd (true≢false (sym w ∙ rw (e, f)))
  lengths_by false d e f w = absurd (true≢false (sym w ∙ rw e))

  pub lent : a.number ≡ 0 → (most_hours ≤ length conc) × (most_hours ≤ length flow)
  lent z = lengths_by (leb most_hours (length conc)) (leb most_hours (length flow)) refl refl (work_fits_here z)

  lines_of : a.number ≡ 0 → Stated file no_rows a t
  lines_of z = stated file no_rows a t conc flow conc' flow' p z

  rows_are : (z : a.number ≡ 0) → a.rows ≡ length (lines_of z).lines
  unfolding acceptance
  rows_are z = ap (λ (b : Answer). b.rows) (lines_of z).answers

  pub rows_most : a.number ≡ 0 → 7 * a.rows ≤ most_cells
  rows_most z = omega (arith, rows_are z, (lines_of z).most)

  pub table_long : a.number ≡ 0 → length t ≡ most_cells
  table_long z =
      let s = lines_of z in
      ap length s.leaves ∙ length-append (rows_of s.lines) (drop (7 * length s.lines) no_rows)
      ∙ omega (arith, rows_long s.lines, length-drop (7 * length s.lines) no_rows, no_rows-long, s.most)

  fits-table : (z : a.number ≡ 0) → leb (7 * length (lines_of z).lines) (length no_rows) ≡ true
  fits-table z = le-leb (7 * length (lines_of z).lines) (length no_rows) (omega (arith, (lines_of z).most, no_rows-long))

  conc_held : (z : a.number ≡ 0) → conc' ≡ concentration_cells (lines_of z).lines ++ drop most_hours conc
  unfolding work_after cells_from rows_fit need
  conc_held z = p.concentrations_hold ∙ rw (work_fits_here z, (lines_of z).accepted, fits-table z)

  flow-held : (z : a.number ≡ 0) → flow' ≡ flow_cells (lines_of z).lines ++ drop most_hours flow
  unfolding work_after cells_from rows_fit need
  flow-held z = p.flows_hold ∙ rw (work_fits_here z, (lines_of z).accepted, fits-table z)

  module _ (rows : List ℕ) where
    stops_by : (b : Bool) → work_fits (length conc) (length flow) ≡ b → (a.number ≡ 0 → ⊥) → Promise file rows conc flow a rows conc' flow'
    unfolding answer_of rows_after work_after answer_from rows_from cells_from need
    stops_by false e n =
        record { answers = p.answers ∙ rw e; leaves = rw e; concentrations_hold = p.concentrations_hold ∙ rw e; flows_hold = p.flows_hold ∙ rw e }
    stops_by true e n =
        let d = denied file no_rows a t conc flow conc' flow' p (omega (arith, no_rows-long)) e n in
        record {
          answers = d.answers ∙ rw (e, d.refused);
          leaves = rw (e, d.refused);
          concentrations_hold = p.concentrations_hold ∙ rw (e, d.refused);
          flows_hold = p.flows_hold ∙ rw (e, d.refused);
        }

    -- the walk refuses
    pub promise_refused : (a.number ≡ 0 → ⊥) → Promise file rows conc flow a rows conc' flow'
    promise_refused n = stops_by (work_fits (length conc) (length flow)) refl n

    -- 8: the file is accepted, and too few cells are lent for its rows
    pub promise_8 : (z : a.number ≡ 0) → length rows < 7 * a.rows → (r : Answer) (cs fs : List ℕ) → length conc' ≡ length conc → length flow' ≡ length flow
        → r ≡ refusal (refuse 8 0) → cs ≡ cells [] ++ drop most_hours conc' → fs ≡ cells [] ++ drop most_hours flow' → Promise file rows conc flow r rows cs fs
    unfolding answer_of rows_after work_after answer_from rows_from cells_from rows_fit need
    promise_8 z l r cs fs lc lf q c f =
        let s = lines_of z in
        let n : leb (7 * length s.lines) (length rows) ≡ false = lt-leb (7 * length s.lines) (length rows) (omega (arith, rows_are z, l)) in
        let k = work_fits_here z in
        record {
          answers = q ∙ rw (k, s.accepted, n);
          leaves = rw (k, s.accepted, n);
          concentrations_hold = c ∙ ap (λ (x : List ℕ). cells [] ++ x) (past-kept (concentration_cells s.lines) conc conc' (conc_held z) lc (lent z).0) ∙ rw (k, s.accepted, n);
          flows_hold = f ∙ ap (λ (x : List ℕ). cells [] ++ x) (past-kept (flow_cells s.lines) flow flow' (flow-held z) lf (lent z).1) ∙ rw (k, s.accepted, n);
        }

    -- the file is accepted, and its rows are copied
    pub promise_0 : (z : a.number ≡ 0) (m : ℕ) → m ≡ 7 * a.rows → m ≤ length rows → (rows' : List ℕ) → rows' ≡ take m t ++ drop m rows → Promise file rows conc flow a rows' conc' flow'
    unfolding answer_of rows_after work_after answer_from rows_from cells_from rows_fit need
    promise_0 z m e l rows' o =
        let s = lines_of z in
        let n : leb (7 * length s.lines) (length rows) ≡ true = le-leb (7 * length s.lines) (length rows) (omega (arith, rows_are z, l, e)) in
        let k = work_fits_here z in
        record {
          answers = s.answers ∙ rw (k, s.accepted, n);
          leaves = copied s.lines t rows rows' m (omega (arith, rows_are z, e)) s.leaves o ∙ rw (k, s.accepted, n);
          concentrations_hold = conc_held z ∙ rw (k, s.accepted, n);
          flows_hold = flow-held z ∙ rw (k, s.accepted, n);
        }

-- ---- the same of a walk that is asked by `?`
module _ (file conc flow conc' flow' : List ℕ) (r : Result Walked Refused) (p : Promise file no_rows conc flow (walked_answer r) (walked_rows r) conc' flow') where
  -- the walk refuses
  pub asked_refused : (f : Refused) → r ≡ Err f → (x : Result Account Refused) → x ≡ Err f → (rows : List ℕ) → Promise file rows conc flow (answered x) rows conc' flow'
  unfolding answered
  asked_refused f e x q rows =
      subst (λ (y : Result Account Refused). Promise file rows conc flow (answered y) rows conc' flow') (sym q)
      (promise_refused file conc flow (answered (Err f)) no_rows conc' flow' (subst (λ (y : Result Walked Refused). Promise file no_rows conc flow (walked_answer y) (walked_rows y) conc' flow') e p) rows
      (eqb-false (number_of f.refusal) 0 (numbered f.refusal)))

  -- and where it accepts, its answer is numbered 0
  pub asked : (w : Walked) → r ≡ Ok w → Promise file no_rows conc flow (answered (Ok w.account)) w.rows conc' flow'
  asked w e = subst (λ (y : Result Walked Refused). Promise file no_rows conc flow (walked_answer y) (walked_rows y) conc' flow') e p

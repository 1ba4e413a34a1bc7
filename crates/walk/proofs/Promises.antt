-- The ways out of the account call, from what its walk promises. Assumes nothing.
use Rattle.std.specs.Prelude.{Result, Ok, Err, is_err}
use mathlib.Core.Path.{◌≡◌, sym, ◌∙◌, ap}
use mathlib.Core.Bool.{true, false, true≢false}
use mathlib.Core.List.{List, [], ◌++◌}
use Prim.Native.Nat.{ℕ, ◌*◌, ◌<◌, ◌≤◌}
use native.Mathlib.Omega.{arith}
use lib.ListN.{length, drop, length-replicate}
use lib.Dec.{leb}
use borrow.Author.Tests.{le-leb, lt-leb}
use Rattle.law.specs.Numbers.{most_hours, row_cells, most_cells}
use Rattle.law.specs.Words.{need}
use Rattle.rules.specs.Refusals.{Answer}
use Rattle.rules.specs.Judge.{refuse}
use Rattle.rules.specs.Row.{cells}
use Rattle.rules.specs.Account.{refusal, acceptance, rows_fit, work_fits, answer_from, answer_of, rows_from, rows_after, cells_from, work_after, Promise}
use Rattle.rules.specs.declared.Refused.{Refused as RefusedAt}
use Rattle.rules.specs.declared.Refusal.TheVariants.{FewWorkCells}
use Rattle.rules.specs.Refusals.{fault_in, answered}
use Rattle.walk.specs.declared.Walked.{Walked}
use Rattle.walk.specs.Books.{no_rows}
use Rattle.walk.specs.Walking.{walked_answer, walked_rows, Ended, WalkPromise, Unlent, Settled}

-- ---- 9: the work slices
fits_work : (c f : ℕ) → most_hours ≤ c → most_hours ≤ f → work_fits c f ≡ true
unfolding work_fits
fits_work c f a b = rw (le-leb most_hours c a, le-leb most_hours f b)

pub short_conc : (c f : ℕ) → c < most_hours → work_fits c f ≡ false
unfolding work_fits
short_conc c f a = rw (lt-leb most_hours c a)

pub short_flow : (c f : ℕ) → most_hours ≤ c → f < most_hours → work_fits c f ≡ false
unfolding work_fits
short_flow c f a b = rw (le-leb most_hours c a, lt-leb most_hours f b)

module _ (file conc flow : List ℕ) where
  pub promise_9 : work_fits (length conc) (length flow) ≡ false
      → Promise file no_rows conc flow (answered (Err (record { refusal = FewWorkCells; place = 0 }))) no_rows conc flow
  unfolding answer_of rows_after work_after need answered refusal refuse
  promise_9 e = record { answers = rw e; leaves = rw e; concentrations_hold = rw e; flows_hold = rw e }

  -- ---- both are lent on: their first 2,208 cells come back
  pub promise_settled : (r : Answer) (rows' cs fs : List ℕ) → most_hours ≤ length conc → most_hours ≤ length flow → Settled file r rows' cs fs
      → Promise file no_rows conc flow r rows' (cs ++ drop most_hours conc) (fs ++ drop most_hours flow)
  unfolding answer_of rows_after work_after need
  promise_settled r rows' cs fs a b s =
      let work = fits_work (length conc) (length flow) a b in
      record {
        answers = s.walked.answers ∙ rw work;
        leaves = s.walked.leaves ∙ rw work;
        concentrations_hold = ap (λ (t : List ℕ). t ++ drop most_hours conc) s.concentrations_hold ∙ rw work;
        flows_hold = ap (λ (t : List ℕ). t ++ drop most_hours flow) s.flows_hold ∙ rw work;
      }

pub no_rows-long : length no_rows ≡ most_cells
unfolding no_rows
no_rows-long = length-replicate {A = ℕ} most_cells 0

module _ (file : List ℕ) where
  fits : (w : Walked) (conc flow : List ℕ) (e : Ended file conc flow w) → leb (row_cells * length e.lines) (length no_rows) ≡ true
  fits w conc flow e = le-leb (row_cells * length e.lines) (length no_rows) (omega (arith, e.most, no_rows-long))

  -- a file that is refused leaves no row; one that is accepted has cells enough for its rows
  pub unlent : (r : Result Walked RefusedAt) (conc flow : List ℕ) → WalkPromise file conc flow r → Unlent file (walked_answer r) (walked_rows r)
  unfolding answer_from rows_from rows_fit refusal acceptance need answered fault_in
  unlent (Err f) conc flow o = record { answers = rw o; leaves = rw o }
  unlent (Ok w) conc flow e = record { answers = rw (e.count, e.totals, e.accepted, fits w conc flow e); leaves = e.rows ∙ rw (e.accepted, fits w conc flow e) }

  -- and so in the cells
  pub settled_stopped : (r : Result Walked RefusedAt) (conc flow : List ℕ) → WalkPromise file conc flow r → is_err r ≡ true → (conc' flow' : List ℕ) → conc' ≡ cells [] → flow' ≡ cells []
      → Settled file (walked_answer r) (walked_rows r) conc' flow'
  unfolding cells_from
  settled_stopped (Err f) conc flow o t conc' flow' c l =
      rw (c, l) (record { walked = unlent (Err f) conc flow o; concentrations_hold = rw o; flows_hold = rw o })
  settled_stopped (Ok w) conc flow o t conc' flow' c l = absurd (true≢false (sym t))

  pub settled_0 : (r : Result Walked RefusedAt) (conc flow : List ℕ) → WalkPromise file conc flow r → is_err r ≡ false → Settled file (walked_answer r) (walked_rows r) conc flow
  unfolding cells_from rows_fit need
  settled_0 (Err f) conc flow o t = absurd (true≢false t)
  settled_0 (Ok w) conc flow e t =
      record {
        walked = unlent (Ok w) conc flow e;
        concentrations_hold = e.conc_held_here ∙ rw (e.accepted, fits w conc flow e);
        flows_hold = e.flow_held ∙ rw (e.accepted, fits w conc flow e);
      }

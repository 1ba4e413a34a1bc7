-- Every survey of an accepted line lies in a running hour: 5 refuses one in a stopped hour. So where none lies in a missing one, A2 moves nothing. Assumes
-- nothing.
use mathlib.Core.Path.{◌≡◌, refl, ap, ◌∙◌}
use mathlib.Core.Bool.{Bool, true, false}
use mathlib.Core.List.{List, [], ◌∷◌, ◌++◌}
use Prim.Native.Nat.{ℕ, zero, suc, ◌/◌, ◌%◌, ◌^◌}
use native.Mathlib.Nat.{zero-div}
use native.Mathlib.Omega.{arith}
use lib.ListN.{get_or}
use lib.Dec.{eqb}
use borrow.Author.Tests.{eqb-true, eq-eqb}
use Rattle.law.specs.Numbers.{hours_of_day}
use Rattle.law.specs.Words.{need}
use Rattle.law.proofs.Tests.{pick_case}
use Rattle.law.proofs.Each.{Each, each_none, each_more, each_so, each_at}
use Rattle.rules.specs.Refusals.{Fault}
use Rattle.rules.specs.declared.Survey.{Survey}
use Rattle.rules.specs.declared.View.{View}
use Rattle.rules.specs.declared.Record.{Record}
use Rattle.rules.specs.declared.Record.TheVariants.{Bad, OfHead, OfDay, OfEnforcement, OfPlant, OfBatch, OfEnd, OfOutfallHead, OfOutfallDay, OfOutfallEnforcement, OfOutfallPlant}
use Rattle.rules.specs.Records.{day_of, Placed, record_in, records_of}
use Rattle.rules.specs.Hours.{bit, run_masks, runs_at}
use Rattle.rules.specs.Lines.{StackLine, surveyed, days_after}
use Rattle.rules.specs.Outfalls.{Line, OfStack, OfOutfall}
use Rattle.rules.specs.Alone.{none_missing, days_alone}
use Rattle.rules.specs.Judge.{refuse, fine, first, place_enforcement, place_plant, judge_stopped, judge_survey, judge_record}
use Rattle.rules.specs.Walk.{Stand, Between, Inside, InWater, view_of, runs_of, begun, with_day, with_enforcement, with_plant, with_batch, taken, taken_between, taken_inside, taken_in_water, Outcome, Refused, Accepted, ended, fault_of, walk, outcome}
use Rattle.rules.proofs.Faults.{first_goes, first-passed}
use Rattle.rules.proofs.Alone.{InRunning, SurveysRun, nothing-else}
use Rattle.answers.proofs.Walks.{passed_record}

-- ---- a survey that is taken in
second_passed : (f g : Fault) → (first f g).number ≡ 0 → g.number ≡ 0
second_passed f g z = ap (λ (h : Fault). h.number) (first_goes f g (first-passed f g z)) ∙ z

need_passed : (t : Bool) → (need (refuse 5 0) t fine).number ≡ 0 → t ≡ true
unfolding need refuse fine
need_passed true z = refl
need_passed false z = absurd (omega arith)

survey-runs : (f : Fault) (v : View) (runs : List ℕ) (s : Survey) → (first f (judge_survey v runs s)).number ≡ 0 → InRunning runs s
unfolding judge_survey judge_stopped
survey-runs f v runs s z = need_passed (runs_at runs s.hour) (second_passed _ (judge_stopped runs s.hour) (second_passed f (judge_survey v runs s) z))

-- ---- a day more: an hour that runs is one of the days before
mask_stays : (runs more : List ℕ) (k h : ℕ) → bit h (get_or runs k 0) ≡ 1 → get_or (runs ++ more) k 0 ≡ get_or runs k 0
unfolding bit
mask_stays [] more k h e = absurd (omega (arith, e, ap (λ (n : ℕ). n % 2) (zero-div (2 ^ h))))
mask_stays (r ∷ runs) more zero h e = refl
mask_stays (r ∷ runs) more (suc k) h e = mask_stays runs more k h e

day_more : (runs more : List ℕ) (s : Survey) → InRunning runs s → InRunning (runs ++ more) s
unfolding runs_at
day_more runs more s r =
    let h = s.hour % hours_of_day in
    let one = eqb-true (bit h (get_or runs (s.hour / hours_of_day) 0)) 1 r in
    eq-eqb _ 1 (ap (bit h) (mask_stays runs more (s.hour / hours_of_day) h one) ∙ one)

-- ---- where the walk stands
unfoldable LineRuns : Line → Type 0
LineRuns (OfStack x) = SurveysRun x
LineRuns (OfOutfall x) = Unit

unfoldable Runs : Stand → Type 0
Runs (Between done) = Each LineRuns done
Runs (Inside x done) = SurveysRun x × Each LineRuns done
Runs (InWater x done) = Each LineRuns done

runs_on_lem : (stand : Stand) (bytes : List ℕ) (r : Record) → Runs stand → (judge_record (view_of stand) (runs_of stand) r).number ≡ 0 → Runs (taken stand bytes r)
unfolding Runs LineRuns taken taken_between taken_inside taken_in_water judge_record runs_of begun with_day with_enforcement with_plant with_batch run_masks
runs_on_lem (Between done) bytes Bad k z = k
runs_on_lem (Between done) bytes (OfHead h) k z = (record { enforcement = each_none; plant = each_none }, k)
runs_on_lem (Between done) bytes (OfDay m) k z = k
runs_on_lem (Between done) bytes (OfEnforcement s) k z = k
runs_on_lem (Between done) bytes (OfPlant s) k z = k
runs_on_lem (Between done) bytes (OfBatch b) k z = k
runs_on_lem (Between done) bytes OfEnd k z = k
runs_on_lem (Between done) bytes (OfOutfallHead o) k z = k
runs_on_lem (Between done) bytes (OfOutfallDay d) k z = k
runs_on_lem (Between done) bytes (OfOutfallEnforcement s) k z = k
runs_on_lem (Between done) bytes (OfOutfallPlant s) k z = k
runs_on_lem (Inside x done) bytes Bad k z = k
runs_on_lem (Inside x done) bytes (OfHead h) k z = k
runs_on_lem (Inside x done) bytes (OfDay m) k z =
    let on = day_more (run_masks x.days) ((day_of bytes).masks.run ∷ []) in
    (record { enforcement = each_so _ _ on k.0.enforcement; plant = each_so _ _ on k.0.plant }, k.1)
runs_on_lem (Inside x done) bytes (OfEnforcement s) k z =
    (record { enforcement = each_more (survey-runs (place_enforcement (view_of (Inside x done)).inside (view_of (Inside x done)) s) _ (run_masks x.days) s z) k.0.enforcement; plant = k.0.plant }, k.1)
runs_on_lem (Inside x done) bytes (OfPlant s) k z =
    (record { enforcement = k.0.enforcement; plant = each_more (survey-runs (place_plant (view_of (Inside x done)).inside (view_of (Inside x done)) s) _ (run_masks x.days) s z) k.0.plant }, k.1)
runs_on_lem (Inside x done) bytes (OfBatch b) k z = (record { enforcement = k.0.enforcement; plant = k.0.plant }, k.1)
runs_on_lem (Inside x done) bytes OfEnd k z = each_more k.0 k.1
runs_on_lem (Inside x done) bytes (OfOutfallHead o) k z = k
runs_on_lem (Inside x done) bytes (OfOutfallDay d) k z = k
runs_on_lem (Inside x done) bytes (OfOutfallEnforcement s) k z = k
runs_on_lem (Inside x done) bytes (OfOutfallPlant s) k z = k
runs_on_lem (InWater x done) bytes Bad k z = k
runs_on_lem (InWater x done) bytes (OfHead h) k z = k
runs_on_lem (InWater x done) bytes (OfDay m) k z = k
runs_on_lem (InWater x done) bytes (OfEnforcement s) k z = k
runs_on_lem (InWater x done) bytes (OfPlant s) k z = k
runs_on_lem (InWater x done) bytes (OfBatch b) k z = k
runs_on_lem (InWater x done) bytes OfEnd k z = each_more tt k
runs_on_lem (InWater x done) bytes (OfOutfallHead o) k z = k
runs_on_lem (InWater x done) bytes (OfOutfallDay d) k z = k
runs_on_lem (InWater x done) bytes (OfOutfallEnforcement s) k z = k
runs_on_lem (InWater x done) bytes (OfOutfallPlant s) k z = k

-- ---- the lines of a file
unfoldable lines_in : Outcome → List Line
lines_in (Refused f) = []
lines_in (Accepted lines) = lines

walk-runs : (file : List ℕ) (ps : List Placed) (stand : Stand) → Runs stand → Each LineRuns (lines_in (walk file ps stand))
unfolding walk ended lines_in Runs
walk-runs file [] (Between done) k = k
walk-runs file [] (Inside x done) k = each_none
walk-runs file [] (InWater x done) k = each_none
walk-runs file (p ∷ more) stand k =
    let r = record_in p.bytes in
    pick_case (λ (o : Outcome). Each LineRuns (lines_in o)) (eqb (fault_of stand p).number 0) (walk file more (taken stand p.bytes r)) (Refused (fault_of stand p))
    (λ e. walk-runs file more (taken stand p.bytes r) (runs_on_lem stand p.bytes r k (passed_record stand p (eqb-true (fault_of stand p).number 0 e)))) (λ e. each_none)

pub accepted_alone : (file : List ℕ) (later earlier : List Line) (x : StackLine) → outcome file ≡ Accepted (later ++ (OfStack x ∷ earlier)) → none_missing x.days (surveyed x) ≡ true → days_after x ≡ days_alone x
unfolding outcome lines_in Runs LineRuns
accepted_alone file later earlier x o e =
    let all : Each LineRuns (lines_in (outcome file)) = walk-runs file (records_of file) (Between []) each_none in
    nothing-else x (each_at LineRuns (lines_in (outcome file)) later earlier (OfStack x) all (ap lines_in o)) e

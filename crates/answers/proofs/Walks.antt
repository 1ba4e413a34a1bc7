-- Every file's outcome: a refusal has a number, and at most 48 lines are accepted. Assumes nothing.
use mathlib.Core.Path.{◌≡◌, ap, sym, ◌∙◌, subst}
use mathlib.Core.List.{List, [], ◌∷◌}
use Prim.Native.Nat.{ℕ, ◌≤◌, ◌<◌}
use native.Mathlib.Omega.{arith}
use lib.ListN.{length}
use lib.Dec.{eqb}
use borrow.Author.Tests.{ltb-true, eqb-true, eqb-false}
use Rattle.law.specs.Numbers.{most_lines}
use Rattle.law.proofs.Tests.{pick_case, all_passed}
use Rattle.rules.specs.declared.Head.{Head}
use Rattle.rules.specs.declared.View.{View}
use Rattle.rules.specs.Refusals.{Fault}
use Rattle.rules.specs.declared.Record.{Record}
use Rattle.rules.specs.declared.Record.TheVariants.{Bad, OfHead, OfDay, OfEnforcement, OfPlant, OfBatch, OfEnd, OfOutfallHead, OfOutfallDay, OfOutfallEnforcement, OfOutfallPlant}
use Rattle.rules.specs.Records.{Placed, record_in, records_of}
use Rattle.rules.specs.Outfalls.{Line, as_head}
use Rattle.rules.specs.Fields.{outfall_fields}
use Rattle.rules.specs.Judge.{refuse, fine, first, first_wrong, place_head, range_head, judge_record, judge_readings, judge}
use Rattle.rules.proofs.Faults.{first-passed, at_place-number}
use Rattle.rules.specs.Walk.{Stand, Between, Inside, InWater, view_of, runs_of, taken, taken_between, taken_inside, taken_in_water, Outcome, Refused, Accepted, ended, fault_of, walk, outcome}

-- ---- a refusal has a number
unfoldable number_in : Outcome → ℕ
number_in (Refused f) = f.number
number_in (Accepted lines) = 1

walk-some : (file : List ℕ) (ps : List Placed) (stand : Stand) → number_in (walk file ps stand) ≡ 0 → ⊥
unfolding walk ended number_in refuse
walk-some file [] (Between done) = λ z. omega arith
walk-some file [] (Inside x done) = λ z. omega arith
walk-some file [] (InWater x done) = λ z. omega arith
walk-some file (p ∷ more) stand =
    pick_case (λ (o : Outcome). number_in o ≡ 0 → ⊥) (eqb (fault_of stand p).number 0) (walk file more (taken stand p.bytes (record_in p.bytes))) (Refused (fault_of stand p))
    (λ _. walk-some file more (taken stand p.bytes (record_in p.bytes))) (λ e z. eqb-false (fault_of stand p).number 0 e z)

pub refused_some : (file : List ℕ) (f : Fault) → outcome file ≡ Refused f → f.number ≡ 0 → ⊥
unfolding outcome number_in
refused_some file f o z = walk-some file (records_of file) (Between []) (ap number_in o ∙ z)

-- ---- at most 48 lines
unfoldable count_in : Outcome → ℕ
count_in (Refused f) = 0
count_in (Accepted lines) = length lines

unfoldable Room : Stand → Type 0
Room (Between done) = length done ≤ most_lines
Room (Inside x done) = length done < most_lines
Room (InWater x done) = length done < most_lines

-- what passes the walk's judgement was judged right as it was read
pub passed_record : (stand : Stand) (p : Placed) → (fault_of stand p).number ≡ 0 → (judge_record (view_of stand) (runs_of stand) (record_in p.bytes)).number ≡ 0
unfolding fault_of judge
passed_record stand p z = first-passed (judge_record (view_of stand) (runs_of stand) (record_in p.bytes)) (judge_readings p.bytes (record_in p.bytes)) (sym (at_place-number p.place _) ∙ z)

head_room : (v : View) (h : Head) (range : Fault) → (first (place_head v h) range).number ≡ 0 → v.lines < most_lines
unfolding place_head refuse
head_room v h range z = ltb-true v.lines most_lines (all_passed (λ f. f.number ≡ 0) (refuse 2 0) fine (λ e. omega arith) _ (first-passed (place_head v h) range z) 2)

room-on : (stand : Stand) (bytes : List ℕ) (r : Record) → Room stand → (judge_record (view_of stand) (runs_of stand) r).number ≡ 0 → Room (taken stand bytes r)
unfolding Room taken taken_between taken_inside taken_in_water judge_record view_of
room-on (Between done) bytes Bad k z = k
room-on (Between done) bytes (OfHead h) k z = head_room (view_of (Between done)) h (range_head h) z
room-on (Between done) bytes (OfDay m) k z = k
room-on (Between done) bytes (OfEnforcement s) k z = k
room-on (Between done) bytes (OfPlant s) k z = k
room-on (Between done) bytes (OfBatch b) k z = k
room-on (Between done) bytes OfEnd k z = k
room-on (Between done) bytes (OfOutfallHead o) k z = head_room (view_of (Between done)) (as_head o) (first_wrong (outfall_fields o)) z
room-on (Between done) bytes (OfOutfallDay d) k z = k
room-on (Between done) bytes (OfOutfallEnforcement s) k z = k
room-on (Between done) bytes (OfOutfallPlant s) k z = k
room-on (Inside x done) bytes Bad k z = k
room-on (Inside x done) bytes (OfHead h) k z = k
room-on (Inside x done) bytes (OfDay m) k z = k
room-on (Inside x done) bytes (OfEnforcement s) k z = k
room-on (Inside x done) bytes (OfPlant s) k z = k
room-on (Inside x done) bytes (OfBatch b) k z = k
room-on (Inside x done) bytes OfEnd k z = k
room-on (Inside x done) bytes (OfOutfallHead o) k z = k
room-on (Inside x done) bytes (OfOutfallDay d) k z = k
room-on (Inside x done) bytes (OfOutfallEnforcement s) k z = k
room-on (Inside x done) bytes (OfOutfallPlant s) k z = k
room-on (InWater x done) bytes Bad k z = k
room-on (InWater x done) bytes (OfHead h) k z = k
room-on (InWater x done) bytes (OfDay m) k z = k
room-on (InWater x done) bytes (OfEnforcement s) k z = k
room-on (InWater x done) bytes (OfPlant s) k z = k
room-on (InWater x done) bytes (OfBatch b) k z = k
room-on (InWater x done) bytes OfEnd k z = k
room-on (InWater x done) bytes (OfOutfallHead o) k z = k
room-on (InWater x done) bytes (OfOutfallDay d) k z = k
room-on (InWater x done) bytes (OfOutfallEnforcement s) k z = k
room-on (InWater x done) bytes (OfOutfallPlant s) k z = k

walk-48 : (file : List ℕ) (ps : List Placed) (stand : Stand) → Room stand → count_in (walk file ps stand) ≤ most_lines
unfolding walk ended count_in Room
walk-48 file [] (Between done) k = k
walk-48 file [] (Inside x done) k = omega arith
walk-48 file [] (InWater x done) k = omega arith
walk-48 file (p ∷ more) stand k =
    let r = record_in p.bytes in
    pick_case (λ (o : Outcome). count_in o ≤ most_lines) (eqb (fault_of stand p).number 0) (walk file more (taken stand p.bytes r)) (Refused (fault_of stand p))
    (λ e. walk-48 file more (taken stand p.bytes r) (room-on stand p.bytes r k (passed_record stand p (eqb-true (fault_of stand p).number 0 e)))) (λ e. omega arith)

pub accepted_48 : (file : List ℕ) (lines : List Line) → outcome file ≡ Accepted lines → length lines ≤ most_lines
unfolding outcome count_in Room
accepted_48 file lines o = subst (λ (n : Outcome). count_in n ≤ most_lines) o (walk-48 file (records_of file) (Between []) (omega arith))

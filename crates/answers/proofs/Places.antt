-- A refusal of a field points at the first of its record's fields that is out of range. Assumes nothing.
use Prim.Native.Nat.{ℕ, zero, suc, ◌+◌, ◌<◌}
use mathlib.Core.Bool.{true}
use mathlib.Core.List.{List, [], ◌∷◌, ◌++◌}
use mathlib.Core.Path.{◌≡◌, refl, sym, ap, subst, ◌∙◌}
use native.Mathlib.Omega.{arith}
use lib.ListN.{length, drop, length-drop}
use lib.Dec.{eqb}
use borrow.Author.Tests.{ltb-true}
use Rattle.law.proofs.Tests.{need_case, pick_case}
use Rattle.law.proofs.Each.{Each, each_none, each_more, each_at}
use Rattle.field.specs.Field.{u8, u16, u32, u64}
use Rattle.field.proofs.Laws.{u8-from, u16-from, u32-from, u64-from}
use Rattle.rules.specs.Refusals.{Fault, Answer}
use Rattle.rules.specs.declared.View.{View}
use Rattle.rules.specs.Records.{record_in, size_in, Placed, records_from, records_of}
use Rattle.rules.specs.Judge.{refuse, fine, judge, at_place}
use Rattle.rules.specs.Walk.{Stand, Between, Inside, InWater, view_of, runs_of, taken, Outcome, Refused, Accepted, ended, fault_of, walk, outcome}
use Rattle.rules.specs.Account.{Promise}
use Rattle.rules.proofs.Faults.{at_place-number, at_place-refused}
use Rattle.answers.proofs.Answers.{answer_case}
use Rattle.answers.specs.Places.{of_field, number_at, stand_behind, PointsAt}
use Rattle.answers.proofs.Wrong.{InRecord, Holds, clash, in_record}

-- ---- the record of a file at which the walk stops
unfoldable pub fault_by : Outcome → Fault
fault_by (Refused f) = f
fault_by (Accepted lines) = fine

record StopsAt (stand : Stand) (ps : List Placed) (f : Fault) : Type 0 where
  before : List Placed
  refused : Placed
  behind : List Placed
  split : ps ≡ before ++ (refused ∷ behind)
  fault : f ≡ fault_of (stand_behind stand before) refused

module _ (file : List ℕ) where
  stops_at : (ps : List Placed) (stand : Stand) → of_field (fault_by (walk file ps stand)).number ≡ true → StopsAt stand ps (fault_by (walk file ps stand))
  unfolding walk ended fault_by refuse fine of_field stand_behind
  stops_at [] (Between done) = λ o. absurd (let z : ◌≡◌ {A = ℕ} 0 1 = cc in omega arith)
  stops_at [] (Inside x done) = λ o. absurd (let z : ◌≡◌ {A = ℕ} 0 1 = cc in omega arith)
  stops_at [] (InWater x done) = λ o. absurd (let z : ◌≡◌ {A = ℕ} 0 1 = cc in omega arith)
  stops_at (p ∷ more) stand =
      pick_case (λ (o : Outcome). of_field (fault_by o).number ≡ true → StopsAt stand (p ∷ more) (fault_by o)) (eqb (fault_of stand p).number 0) _ _
      (λ _ o. further (stops_at more (taken stand p.bytes (record_in p.bytes)) o))
      (λ _ o. record { before = []; refused = p; behind = more; split = refl; fault = refl })
    where
      further : {f : Fault} → StopsAt (taken stand p.bytes (record_in p.bytes)) more f → StopsAt stand (p ∷ more) f
      further s = record { before = p ∷ s.before; refused = s.refused; behind = s.behind; split = ap (λ (l : List Placed). p ∷ l) s.split; fault = s.fault }

-- each record of a file stands where its place says, in the file
abbrev There : List ℕ → Placed → Type 0
There s p = (p.bytes ≡ drop p.place s) × (p.place < length s)

module _ (s : List ℕ) where
  there_from : (most at : ℕ) → Each (There s) (records_from most s at)
  unfolding records_from
  there_from zero at = each_none
  there_from (suc most) at =
      need_case (Each (There s)) _ _ _ (λ _. each_none) (λ t. each_more (refl, ltb-true at (length s) t) (there_from most (at + size_in (drop at s))))

-- ---- the number at a place, counted from an earlier one
number_from : (n : ℕ) (s : List ℕ) (i width : ℕ) → number_at (drop n s) i width ≡ number_at s (n + i) width
unfolding number_at
number_from n s i width =
    let a : u8 (drop n s) i ≡ u8 s (n + i) = u8-from n s i in
    let b : u16 (drop n s) i ≡ u16 s (n + i) = u16-from n s i in
    let c : u32 (drop n s) i ≡ u32 s (n + i) = u32-from n s i in
    let d : u64 (drop n s) i ≡ u64 s (n + i) = u64-from n s i in
    cc

placed_by : (p : Placed) (b : List ℕ) → p.bytes ≡ b → p ≡ record { place = p.place; bytes = b }
placed_by p b e = ap (λ (x : List ℕ). record { place = p.place; bytes = x }) e

-- ---- where the refusal of a file points
module _ (file : List ℕ) (f : Fault) (o : outcome file ≡ Refused f) (named : of_field f.number ≡ true) where
  stop : StopsAt (Between []) (records_of file) f
  unfolding outcome fault_by
  stop = subst (λ (x : Outcome). StopsAt (Between []) (records_of file) (fault_by x)) o (stops_at file (records_of file) (Between []) (subst (λ (x : Outcome). of_field (fault_by x).number ≡ true) (sym o) named))

  abbrev at : ℕ
  at = stop.refused.place

  there : There file stop.refused
  unfolding records_of
  there = each_at (There file) (records_of file) stop.before stop.behind stop.refused (there_from file (length file) 0) stop.split

  abbrev view : View
  view = view_of (stand_behind (Between []) stop.before)

  abbrev own : Fault
  own = judge view (runs_of (stand_behind (Between []) stop.before)) (drop at file)

  placed : f ≡ at_place at own
  unfolding fault_of
  placed = stop.fault ∙ ap (λ (b : List ℕ). at_place at (judge view (runs_of (stand_behind (Between []) stop.before)) b)) there.0

  own_number : own.number ≡ f.number
  own_number = sym (at_place-number at own) ∙ ap (λ (x : Fault). x.number) (sym placed)

  inside : InRecord view (drop at file) (record_in (drop at file)) own
  unfolding judge
  inside = in_record view (runs_of (stand_behind (Between []) stop.before)) (drop at file) (ap of_field own_number ∙ named)

  refused_place : f.place ≡ at + inside.wrong.field.offset
  unfolding refuse of_field
  refused_place =
      let n : own.number ≡ 0 → ⊥ = λ z. clash (of_field f.number) named (ap of_field (sym own_number ∙ z)) in
      ap (λ (x : Fault). x.place) (placed ∙ sym (at_place-refused at own n)) ∙ ap (λ (k : ℕ). at + k) inside.wrong.place

  pub points_at : PointsAt file f.number f.place
  points_at =
      let w = inside.wrong in
      record {
        before = stop.before;
        at = at;
        behind = stop.behind;
        records = stop.split ∙ ap (λ (p : Placed). stop.before ++ (p ∷ stop.behind)) (placed_by stop.refused (drop at file) there.0);
        earlier = w.earlier;
        field = w.field;
        later = w.later;
        fields = w.split;
        in_range = w.in_range;
        out_of_range = w.out_of_range;
        number_is = sym own_number ∙ w.number;
        place_is = refused_place;
        holds = ap (λ (i : ℕ). number_at file i w.field.width) refused_place ∙ sym (number_from at file w.field.offset w.field.width) ∙ each_at (Holds (drop at file)) _ w.earlier w.later w.field inside.held w.split;
        inside = omega (arith, refused_place, w.to);
        whole = omega (arith, inside.whole, length-drop at file, there.1);
      }

-- ---- what the account call answers
module _ (file rows : List ℕ) (a : Answer) (rows' conc flow conc' flow' : List ℕ) (p : Promise file rows conc flow a rows' conc' flow') where
  pub answer_points : of_field a.number ≡ true → PointsAt file a.number a.place
  unfolding of_field
  answer_points =
      answer_case file rows a rows' (λ (number place : ℕ). of_field number ≡ true → PointsAt file number place)
      (λ o. absurd (clash _ o refl)) (λ o. absurd (clash _ o refl)) (λ o. absurd (clash _ o refl)) (λ f o. points_at file f o) conc flow conc' flow' p

-- A line none of whose surveys lies in a missing hour: A2 moves nothing of it. Its days after step 1 are those of document 01 alone, and with them its hours,
-- its counts and its first missing hour. Assumes nothing.
use mathlib.Core.Path.{◌≡◌, refl, ◌∙◌, sym, ap}
use mathlib.Core.Bool.{Bool, true, false, not}
use mathlib.Core.List.{List, [], ◌∷◌, ◌++◌}
use Prim.Native.Nat.{ℕ, zero, suc, ◌-◌, ◌/◌, ◌%◌}
use native.Mathlib.Omega.{arith}
use lib.ListN.{length, get_or}
use lib.Seq.{get_or-append_seam}
use lib.Dec.{eqb}
use borrow.Author.Tests.{eqb-true, eqb-false, not-true}
use Rattle.law.specs.Numbers.{hours_of_day}
use Rattle.law.specs.Words.{pick}
use Rattle.law.proofs.Tests.{pick_case, both_true}
use Rattle.law.proofs.Each.{Each, each_none, each_more, each_append}
use Rattle.rules.specs.declared.Pair.{Pair}
use Rattle.rules.specs.declared.Survey.{Survey}
use Rattle.rules.specs.Records.{Day}
use Rattle.rules.specs.Hours.{bit, run_masks, measured_masks, runs_at, lacks_at}
use Rattle.rules.specs.Lines.{StackLine, has_survey, besides, surveyed, with_pair, measured_with, at_day, put_survey, put_surveys, days_after}
use Rattle.rules.specs.Alone.{replaced_only, replaced_alone, days_alone, none_missing}
use Rattle.rules.proofs.Days.{length-measured, measured_stay}
use Rattle.rules.proofs.Surveyed.{bit-most, with_same}

-- an hour that is measured already: only its pair is another
measured_day : (h : ℕ) (p : Pair) (d : Day) → bit h d.masks.measured ≡ 1 → measured_with h p d ≡ replaced_only h p d
unfolding measured_with replaced_only with_pair pick
measured_day h p d e = rw (with_same h d.masks.measured e, e)

-- the measured masks are not moved by document 01 alone
alone_mask : (h : ℕ) (p : Pair) (d : Day) → (replaced_only h p d).masks.measured ≡ d.masks.measured
unfolding replaced_only with_pair
alone_mask h p d = pick_case (λ (e : Day). e.masks.measured ≡ d.masks.measured) (eqb (bit h d.masks.measured) 1) (with_pair h p d) d (λ _. refl) (λ _. refl)

alone_masks : (ss : List Survey) (ds : List Day) → measured_masks (replaced_alone ss ds) ≡ measured_masks ds
unfolding replaced_alone
alone_masks [] ds = refl
alone_masks (s ∷ ss) ds =
    measured_stay (s.hour / hours_of_day) (replaced_only (s.hour % hours_of_day) s.pair) (alone_mask (s.hour % hours_of_day) s.pair) (replaced_alone ss ds) ∙ alone_masks ss ds

-- one survey, in days where its hour is measured
both-same : {A : Type 0} (b : Bool) (x x' y y' : A) → (b ≡ true → x ≡ x') → (b ≡ false → y ≡ y') → pick b x y ≡ pick b x' y'
unfolding pick
both-same true x x' y y' p q = p refl
both-same false x x' y y' p q = q refl

not_last : (xs : List ℕ) (x k : ℕ) → (k ≡ length xs → ⊥) → get_or (xs ++ (x ∷ [])) k 0 ≡ get_or xs k 0
not_last [] x zero n = absurd (n refl)
not_last [] x (suc k) n = refl
not_last (y ∷ xs) x zero n = refl
not_last (y ∷ xs) x (suc k) n = not_last xs x k (λ e. n (ap suc e))

alone_at : (h k : ℕ) (p : Pair) (ds : List Day) → bit h (get_or (measured_masks ds) k 0) ≡ 1 → at_day k (measured_with h p) ds ≡ at_day k (replaced_only h p) ds
unfolding at_day measured_masks
alone_at h k p [] e = refl
alone_at h k p (d ∷ ds) e =
    let m = d.masks.measured in
    both-same (eqb k (length ds)) _ _ _ _
    (λ t.
    let z : k ≡ length (measured_masks ds) = eqb-true k (length ds) t ∙ sym (length-measured ds) in
    ap (λ (c : Day). c ∷ ds) (measured_day h p d (ap (bit h) (sym (ap (λ (i : ℕ). get_or (measured_masks ds ++ (m ∷ [])) i 0) z ∙ get_or-append_seam (measured_masks ds) m [] 0)) ∙ e)))
    (λ t.
    let n : k ≡ length (measured_masks ds) → ⊥ = λ z. eqb-false k (length ds) t (z ∙ length-measured ds) in
    ap (λ (cs : List Day). d ∷ cs) (alone_at h k p ds (ap (bit h) (sym (not_last (measured_masks ds) m k n)) ∙ e)))

-- an hour that runs, as 5 has it of a survey's; if it is not missing it is measured
abbrev pub InRunning : List ℕ → Survey → Type 0
InRunning runs s = runs_at runs s.hour ≡ true

measured_hour : (runs measured : List ℕ) (h : ℕ) → runs_at runs h ≡ true → not (lacks_at runs measured h) ≡ true → bit (h % hours_of_day) (get_or measured (h / hours_of_day) 0) ≡ 1
unfolding runs_at lacks_at
measured_hour runs measured h r n =
    let run : bit (h % hours_of_day) (get_or runs (h / hours_of_day) 0) ≡ 1 = eqb-true _ 1 r in
    let lacks = eqb-false (bit (h % hours_of_day) (get_or runs (h / hours_of_day) 0) - bit (h % hours_of_day) (get_or measured (h / hours_of_day) 0)) 1 (not-true _ n) in
    omega (arith, run, lacks, bit-most (h % hours_of_day) (get_or measured (h / hours_of_day) 0))

-- all of them
alone_all : (ss : List Survey) (ds : List Day) → Each (InRunning (run_masks ds)) ss → none_missing ds ss ≡ true → put_surveys ss ds ≡ replaced_alone ss ds
unfolding put_surveys put_survey replaced_alone none_missing
alone_all [] ds r e = refl
alone_all (s ∷ ss) ds (each_more r rs) e =
    let k = s.hour / hours_of_day in
    let h = s.hour % hours_of_day in
    let both = both_true (not (lacks_at (run_masks ds) (measured_masks ds) s.hour)) (none_missing ds ss) e in
    ap (at_day k (measured_with h s.pair)) (alone_all ss ds rs both.1)
    ∙ alone_at h k s.pair (replaced_alone ss ds) (ap (λ (ms : List ℕ). bit h (get_or ms k 0)) (alone_masks ss ds) ∙ measured_hour (run_masks ds) (measured_masks ds) s.hour r both.0)

besides-each : (P : Survey → Type 0) (others ss : List Survey) → Each P ss → Each P (besides others ss)
unfolding besides
besides-each P others [] q = each_none
besides-each P others (s ∷ ss) (each_more p q) =
    pick_case (Each P) (has_survey s.hour others) (besides others ss) (s ∷ besides others ss) (λ _. besides-each P others ss q) (λ _. each_more p (besides-each P others ss q))

-- a line whose surveys of either kind lie in running hours
pub record SurveysRun (x : StackLine) : Type 0 where
  pub enforcement : Each (InRunning (run_masks x.days)) x.enforcement
  pub plant : Each (InRunning (run_masks x.days)) x.plant

pub nothing-else : (x : StackLine) → SurveysRun x → none_missing x.days (surveyed x) ≡ true → days_after x ≡ days_alone x
unfolding days_after days_alone surveyed
nothing-else x r e = alone_all (surveyed x) x.days (each_append _ (besides-each _ x.enforcement x.plant r.plant) r.enforcement) e

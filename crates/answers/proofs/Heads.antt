-- The i-th line of an accepted file is opened by its i-th head. Assumes nothing.
use mathlib.Core.Path.{◌≡◌, refl, sym, ap, ◌∙◌}
use mathlib.Core.Bool.{Bool, true, false}
use mathlib.Core.List.{List, [], ◌∷◌, ◌++◌, append_assoc, append-nil}
use Prim.Native.Nat.{ℕ, ◌+◌, ◌-◌, ◌*◌, ◌<◌}
use native.Mathlib.Omega.{arith}
use lib.ListN.{length, drop, get_or}
use lib.Seq.{get_or-take, get_or-drop}
use lib.Dec.{eqb}
use borrow.Author.Tests.{eqb-true}
use Rattle.law.specs.Words.{need, need_all}
use Rattle.law.proofs.Tests.{pick_case, false_true}
use Rattle.law.proofs.Newest.{written, block_at}
use Rattle.rules.specs.declared.Head.{Head}
use Rattle.rules.specs.declared.Record.{Record}
use Rattle.rules.specs.declared.Record.TheVariants.{Bad, OfHead, OfDay, OfEnforcement, OfPlant, OfBatch, OfEnd, OfOutfallHead, OfOutfallDay, OfOutfallEnforcement, OfOutfallPlant}
use Rattle.rules.specs.Records.{Placed, record_in, records_of}
use Rattle.rules.specs.Outfalls.{Line, OfStack, OfOutfall, as_head, head_of_line}
use Rattle.rules.specs.Judge.{refuse, first, place_head, judge_record}
use Rattle.rules.specs.Walk.{Stand, Between, Inside, InWater, view_of, runs_of, begun, with_day, with_enforcement, with_plant, with_batch, taken, taken_between, taken_inside, taken_in_water, begun_outfall, with_water_day, with_day_enforcement, with_day_plant, Outcome, Refused, Accepted, ended, fault_of, walk, outcome}
use Rattle.answers.proofs.Walks.{passed_record}
use Rattle.answers.specs.Heads.{heads_with, heads_in, heads_of}

-- the head of a line, as a list of one
unfoldable opener : Line → List Head
opener x = head_of_line x ∷ []

standing : Stand → List Head
standing (Between done) = written opener done
standing (Inside x done) = written opener (OfStack x ∷ done)
standing (InWater x done) = written opener (OfOutfall x ∷ done)

lines_in : Outcome → List Line
lines_in (Refused f) = []
lines_in (Accepted lines) = lines

is_accepted : Outcome → Bool
is_accepted (Refused f) = false
is_accepted (Accepted lines) = true

-- a record that is not refused, taken in
head_on : (stand : Stand) (bytes : List ℕ) (r : Record) (more : List Head) → (judge_record (view_of stand) (runs_of stand) r).number ≡ 0
    → standing (taken stand bytes r) ++ more ≡ standing stand ++ heads_with r more
unfolding standing written opener head_of_line taken taken_between taken_inside taken_in_water begun_outfall with_water_day with_day_enforcement with_day_plant heads_with begun with_day with_enforcement with_plant with_batch view_of judge_record place_head first refuse need need_all
head_on (Between done) bytes Bad more z = refl
head_on (Between done) bytes (OfHead h) more z = append_assoc (written opener done) (h ∷ []) more
head_on (Between done) bytes (OfDay m) more z = refl
head_on (Between done) bytes (OfEnforcement s) more z = refl
head_on (Between done) bytes (OfPlant s) more z = refl
head_on (Between done) bytes (OfBatch b) more z = refl
head_on (Between done) bytes OfEnd more z = refl
head_on (Between done) bytes (OfOutfallHead o) more z = append_assoc (written opener done) (as_head o ∷ []) more
head_on (Between done) bytes (OfOutfallDay d) more z = refl
head_on (Between done) bytes (OfOutfallEnforcement s) more z = refl
head_on (Between done) bytes (OfOutfallPlant s) more z = refl
head_on (Inside x done) bytes Bad more z = refl
head_on (Inside x done) bytes (OfHead h) more z = absurd (omega arith)
head_on (Inside x done) bytes (OfDay m) more z = refl
head_on (Inside x done) bytes (OfEnforcement s) more z = refl
head_on (Inside x done) bytes (OfPlant s) more z = refl
head_on (Inside x done) bytes (OfBatch b) more z = refl
head_on (Inside x done) bytes OfEnd more z = refl
head_on (Inside x done) bytes (OfOutfallHead o) more z = absurd (omega arith)
head_on (Inside x done) bytes (OfOutfallDay d) more z = refl
head_on (Inside x done) bytes (OfOutfallEnforcement s) more z = refl
head_on (Inside x done) bytes (OfOutfallPlant s) more z = refl
head_on (InWater x done) bytes Bad more z = refl
head_on (InWater x done) bytes (OfHead h) more z = absurd (omega arith)
head_on (InWater x done) bytes (OfDay m) more z = refl
head_on (InWater x done) bytes (OfEnforcement s) more z = refl
head_on (InWater x done) bytes (OfPlant s) more z = refl
head_on (InWater x done) bytes (OfBatch b) more z = refl
head_on (InWater x done) bytes OfEnd more z = refl
head_on (InWater x done) bytes (OfOutfallHead o) more z = absurd (omega arith)
head_on (InWater x done) bytes (OfOutfallDay d) more z = refl
head_on (InWater x done) bytes (OfOutfallEnforcement s) more z = refl
head_on (InWater x done) bytes (OfOutfallPlant s) more z = refl

walk-heads : (file : List ℕ) (ps : List Placed) (stand : Stand) (lines : List Line) → walk file ps stand ≡ Accepted lines → written opener lines ≡ standing stand ++ heads_in ps
unfolding walk ended standing heads_in lines_in is_accepted
walk-heads file [] (Between done) lines = λ o. ap (λ (x : Outcome). written opener (lines_in x)) (sym o) ∙ sym (append-nil (written opener done))
walk-heads file [] (Inside x done) lines = λ o. absurd (false_true (ap is_accepted o))
walk-heads file [] (InWater x done) lines = λ o. absurd (false_true (ap is_accepted o))
walk-heads file (p ∷ more) stand lines =
    let r = record_in p.bytes in
    pick_case (λ (x : Outcome). x ≡ Accepted lines → written opener lines ≡ standing stand ++ heads_with r (heads_in more)) (eqb (fault_of stand p).number 0) (walk file more (taken stand p.bytes r)) (Refused (fault_of stand p))
    (λ e o. walk-heads file more (taken stand p.bytes r) lines o ∙ head_on stand p.bytes r (heads_in more) (passed_record stand p (eqb-true (fault_of stand p).number 0 e))) (λ e o. absurd (false_true (ap is_accepted o)))

file_heads : (file : List ℕ) (lines : List Line) → outcome file ≡ Accepted lines → written opener lines ≡ heads_of file
unfolding outcome standing written
file_heads file lines o = walk-heads file (records_of file) (Between []) lines o

pub head_at : (file : List ℕ) (lines : List Line) → outcome file ≡ Accepted lines → (d : Line) (other : Head) (i : ℕ) → i < length lines
    → get_or (heads_of file) i other ≡ head_of_line (get_or lines (length lines - 1 - i) d)
unfolding opener
head_at file lines o d other i l =
    let e = block_at opener 1 (λ x. refl) d lines [] i l in
    ap (λ (hs : List Head). get_or hs i other) (sym (file_heads file lines o) ∙ sym (append-nil (written opener lines)))
    ∙ ap (λ (j : ℕ). get_or (written opener lines ++ []) j other) (let k : i ≡ 1 * i + 0 = omega arith in k)
    ∙ sym (get_or-drop (1 * i) (written opener lines ++ []) 0 other)
    ∙ sym (get_or-take 1 (drop (1 * i) (written opener lines ++ [])) 0 other (omega arith))
    ∙ ap (λ (hs : List Head). get_or hs 0 other) e

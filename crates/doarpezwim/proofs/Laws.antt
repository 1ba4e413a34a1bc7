-- The promise of each face from what the call behind it promises. Assumes nothing.
use mathlib.Core.Bool.{Bool, true, false}
use mathlib.Core.Path.{◌≡◌, refl, ◌∙◌, sym, ap}
use mathlib.Core.List.{List, [], ◌∷◌}
use mathlib.Core.Logic.{⊎_elim}
use Prim.Native.Nat.{ℕ, ◌≤◌}
use native.Mathlib.Omega.{arith}
use lib.Dec.{leb}
use lib.ListN.{length, get_or}
use lib.Ieee.{Float}
use denote.Ref.{Bor}
use Rattle.std.specs.Prelude.{Option, Some, None, MatchOption, Result, Ok, Err}
use Rattle.law.specs.Words.{need}
use Rattle.law.proofs.Tests.{need_true, need_false, pick_eq, pick_not_eq}
use Rattle.reading.specs.declared.Hour.{Hour}
use Rattle.rules.specs.declared.Account.{Account}
use Rattle.rules.specs.declared.Refused.{Refused}
use Rattle.rules.specs.declared.Refusal.{Refusal}
use Rattle.rules.specs.Refusals.{number_of, Answer, fault_in, told, answered}
use Rattle.rules.specs.OnPaper.{OnPaper}
use Rattle.rules.specs.Account.{Promise}
use Rattle.panel.specs.declared.Panel.{Panel}
use Rattle.panel.specs.declared.Stepped.{Stepped as Answered}
use Rattle.panel.specs.Panel.{Stepped, number_in, stepped, unchanged, panel_step}
use Rattle.import.specs.Import.{Imported, imported, Promise as Imports}
use Rattle.filed.specs.Filed.{checked}
use Rattle.survey.specs.Governing.{Part, here, governing}
use Rattle.survey.proofs.Laws.{governing-shape}
use Rattle.doarpezwim.specs.Faces.{answer_cells, AccountFace, hour_of_kind, face_step, PanelFace, PartFace, import_cells, ImportFace, verdict_cells_by, verdict_cells, CheckFace}

-- ---- the account
account_told : (x : Result Account Refused) → (told x).number ≡ (answered x).number
unfolding told fault_in answered
account_told (Ok a) = refl
account_told (Err f) = refl

pub account_face : (file rows concentrations flows : List ℕ) (x : Result Account Refused) (r : ℕ) (answer' rows' concentrations' flows' : List ℕ) → Promise file rows concentrations flows (answered x) rows' concentrations' flows'
    → r ≡ (told x).number → answer' ≡ answer_cells (answered x) → AccountFace file rows concentrations flows r answer' rows' concentrations' flows'
account_face file rows concentrations flows x r answer' rows' concentrations' flows' p n e =
    record {
      returns = n ∙ account_told x ∙ ap (λ (a : Answer). a.number) p.answers;
      answers = e ∙ ap answer_cells p.answers;
      leaves = p.leaves;
      concentrations_hold = p.concentrations_hold;
      flows_hold = p.flows_hold;
    }

-- ---- the import
import_told : (x : Result ℕ Refused) → (told x).number ≡ (imported x).number
unfolding told fault_in imported
import_told (Ok n) = refl
import_told (Err f) = refl

pub import_face : (text records : List ℕ) (x : Result ℕ Refused) (r : ℕ) (answer' records' : List ℕ) → Imports text records (imported x) records' → r ≡ (told x).number → answer' ≡ import_cells (imported x)
    → ImportFace text records r answer' records'
import_face text records x r answer' records' p n e =
    record { near = p.near; nearest = p.nearest; returns = n ∙ import_told x ∙ ap (λ (a : Imported). a.number) p.answers; answers = e ∙ ap import_cells p.answers; leaves = p.holds }

-- ---- what is said of a filing
module _ (file rows totals : List ℕ) (said : OnPaper) (cells : List ℕ) (p : said ≡ checked file rows totals) (e : cells ≡ verdict_cells said) where
  said-by : (number : ℕ) (values : List ℕ) → get_or (verdict_cells_by number values) 0 0 ≤ 2
  unfolding verdict_cells_by
  said-by number [] = omega arith
  said-by number (place ∷ []) = omega arith
  said-by number (row ∷ field ∷ more) = omega arith

  -- the first cell is one of three
  pub said-most : get_or cells 0 0 ≤ 2
  unfolding verdict_cells
  said-most = rw e (said-by said.number said.values)

  pub check_face : CheckFace file rows totals (get_or cells 0 0) cells
  check_face = let q = e ∙ ap verdict_cells p in record { returns = ap (λ (xs : List ℕ). get_or xs 0 0) q; answers = q }

-- ---- the panel
module _ (p : Panel) (kind : ℕ) (concentration flow : Float) where
  face : (s : Stepped) → s ≡ face_step p kind concentration flow → PanelFace p kind concentration flow s.number s.next.total s.next.hours s.next.missing
  face s e =
      record { returns = ap (λ (x : Stepped). x.number) e; total_after = ap (λ (x : Stepped). x.next.total) e; hours_after = ap (λ (x : Stepped). x.next.hours) e; missing_after = ap (λ (x : Stepped). x.next.missing) e }

  -- by the test of the kind, as the hour is found or not
  no_kind : (fits : Bool) (h : Hour) → None ≡ need None fits (Some h) → fits ≡ false
  unfolding need
  no_kind true h e = absurd (let z : ◌≡◌ {A = ℕ} 0 1 = cc in omega arith)
  no_kind false h e = refl

  some_kind : (fits : Bool) (g h : Hour) → Some g ≡ need None fits (Some h) → (fits ≡ true) × (g ≡ h)
  unfolding need
  some_kind true g h e = (refl, let z : g ≡ h = cc in z)
  some_kind false g h e = absurd (let z : ◌≡◌ {A = ℕ} 0 1 = cc in omega arith)

  pub no_hour : (r : ℕ) → None ≡ need None (leb kind 2) (Some (hour_of_kind kind concentration flow)) → r ≡ 15 → PanelFace p kind concentration flow r p.total p.hours p.missing
  unfolding face_step unchanged
  no_hour r e n =
      let is = face (unchanged 15 p) (need_false _ (leb kind 2) _ (no_kind (leb kind 2) _ e)) in
      record { returns = n ∙ is.returns; total_after = is.total_after; hours_after = is.hours_after; missing_after = is.missing_after }

  -- the number of an hour's answer
  answer_number : (o : Option Refusal) (r : ℕ) → MatchOption o (r ≡ 0) (λ x. r ≡ number_of x) → r ≡ number_in o
  answer_number None r e = e
  answer_number (Some x) r e = e

  pub some_hour : (h : Hour) (s : Answered) (r : ℕ) → Some h ≡ need None (leb kind 2) (Some (hour_of_kind kind concentration flow)) → stepped s ≡ panel_step p h → MatchOption s.refused (r ≡ 0) (λ x. r ≡ number_of x)
      → PanelFace p kind concentration flow r s.next.total s.next.hours s.next.missing
  unfolding face_step
  some_hour h s r e f n =
      let k = some_kind (leb kind 2) h _ e in
      let is = face (stepped s) (need_true _ (leb kind 2) _ (stepped s) k.0 (f ∙ ap (panel_step p) k.1)) in
      record { returns = answer_number s.refused r n ∙ is.returns; total_after = is.total_after; hours_after = is.hours_after; missing_after = is.missing_after }

-- ---- the part
-- the block in hand is the governing part
module _ (enforcement plant block : Bor (List ℕ)) (hour : ℕ) (part : List ℕ) (e : here block ≡ governing enforcement plant hour) where
  abbrev bytes : List ℕ
  bytes = (governing enforcement plant hour).bytes

  held : block.now ≡ bytes
  unfolding here
  held = ap (λ (x : Part). x.bytes) e

  pub part_found : (part' : List ℕ) → length block.now ≡ 14 → part' ≡ block.now → PartFace bytes part 14 part'
  part_found part' l q =
      let h : length bytes ≡ 14 = sym (ap length held) ∙ l in
      record { returns = sym h; leaves = pick_eq _ _ _ (length bytes) 14 h (q ∙ held) }

  pub part_none : (length block.now ≡ 14 → ⊥) → PartFace bytes part 0 part
  part_none n =
      let none : bytes ≡ [] = ⊎_elim (λ h. absurd (n (ap length held ∙ h))) (λ h. h) (governing-shape enforcement plant hour) in
      let h : length bytes ≡ 0 = ap length none in
      record { returns = sym h; leaves = pick_not_eq _ _ _ (length bytes) 14 (λ f. omega (arith, sym h ∙ f)) refl }

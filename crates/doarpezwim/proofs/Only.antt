-- No second number, cells or state meet the promise of a face. Assumes nothing.
use mathlib.Core.Path.{◌≡◌, refl, ◌∙◌, sym}
use mathlib.Core.List.{List}
use Prim.Native.Nat.{ℕ}
use lib.Ieee.{Float}
use lib.ListN.{length}
use Rattle.panel.specs.declared.Panel.{Panel}
use Rattle.import.specs.Import.{answer_of, Promise}
use Rattle.import.proofs.Only.{import_only}
use Rattle.doarpezwim.specs.Faces.{AccountFace, PanelFace, PartFace, ImportFace, CheckFace}

pub doarpezwim_account : (file rows conc flow : List ℕ) (r₁ r₂ : ℕ) (answer₁ answer₂ rows₁ rows₂ conc₁ conc₂ flow₁ flow₂ : List ℕ)
    → AccountFace file rows conc flow r₁ answer₁ rows₁ conc₁ flow₁ → AccountFace file rows conc flow r₂ answer₂ rows₂ conc₂ flow₂
    → (r₁ ≡ r₂) × (answer₁ ≡ answer₂) × (rows₁ ≡ rows₂) × (conc₁ ≡ conc₂) × (flow₁ ≡ flow₂)
doarpezwim_account file rows conc flow r₁ r₂ answer₁ answer₂ rows₁ rows₂ conc₁ conc₂ flow₁ flow₂ p q =
    (p.returns ∙ sym q.returns, p.answers ∙ sym q.answers, p.leaves ∙ sym q.leaves, p.concentrations_hold ∙ sym q.concentrations_hold, p.flows_hold ∙ sym q.flows_hold)

pub doarpezwim_panel_hour : (state : Panel) (kind : ℕ) (concentration flow : Float) (r₁ r₂ : ℕ) (total₁ total₂ : Float) (hours₁ hours₂ missing₁ missing₂ : ℕ)
    → PanelFace state kind concentration flow r₁ total₁ hours₁ missing₁ → PanelFace state kind concentration flow r₂ total₂ hours₂ missing₂
    → (r₁ ≡ r₂) × (total₁ ≡ total₂) × (hours₁ ≡ hours₂) × (missing₁ ≡ missing₂)
doarpezwim_panel_hour state kind concentration flow r₁ r₂ total₁ total₂ hours₁ hours₂ missing₁ missing₂ p q =
    (p.returns ∙ sym q.returns, p.total_after ∙ sym q.total_after, p.hours_after ∙ sym q.hours_after, p.missing_after ∙ sym q.missing_after)

pub doarpezwim_governing_survey : (bytes part : List ℕ) (r₁ r₂ : ℕ) (part₁ part₂ : List ℕ)
    → PartFace bytes part r₁ part₁ → PartFace bytes part r₂ part₂
    → (r₁ ≡ r₂) × (part₁ ≡ part₂)
doarpezwim_governing_survey bytes part r₁ r₂ part₁ part₂ p q = (p.returns ∙ sym q.returns, p.leaves ∙ sym q.leaves)

pub doarpezwim_import : (text records : List ℕ) (r₁ r₂ : ℕ) (answer₁ answer₂ records₁ records₂ : List ℕ)
    → ImportFace text records r₁ answer₁ records₁ → ImportFace text records r₂ answer₂ records₂
    → (r₁ ≡ r₂) × (answer₁ ≡ answer₂) × (records₁ ≡ records₂)
doarpezwim_import text records r₁ r₂ answer₁ answer₂ records₁ records₂ p q =
    let a = answer_of (length records) text in
    let left : Promise text records a records₁ = record { near = p.near; nearest = p.nearest; answers = refl; holds = p.leaves } in
    let right : Promise text records a records₂ = record { near = q.near; nearest = q.nearest; answers = refl; holds = q.leaves } in
    (p.returns ∙ sym q.returns, p.answers ∙ sym q.answers, (import_only text records a a records₁ records₂ left right).1)

pub doarpezwim_check : (file rows totals : List ℕ) (r₁ r₂ : ℕ) (answer₁ answer₂ : List ℕ) → CheckFace file rows totals r₁ answer₁ → CheckFace file rows totals r₂ answer₂
    → (r₁ ≡ r₂) × (answer₁ ≡ answer₂)
doarpezwim_check file rows totals r₁ r₂ answer₁ answer₂ p q = (p.returns ∙ sym q.returns, p.answers ∙ sym q.answers)

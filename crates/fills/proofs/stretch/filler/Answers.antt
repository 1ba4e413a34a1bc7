-- `fills::stretch::filler` meets its contract. Assumes nothing.
use mathlib.Core.Path.{◌≡◌, refl, ◌∙◌, sym, ap, ap₂}
use mathlib.Core.List.{List}
use Prim.Native.Nat.{ℕ}
use native.Mathlib.Omega.{arith}
use lib.ListN.{length, get_or, set, length-set}
use borrow.Author.Rules.{rules}
use Rattle.law.specs.Words.{over}
use Rattle.law.proofs.Tests.{pick_eq, pick_not_eq}
use Rattle.law.proofs.Over.{over_none, over_more, over_skip}
use Rattle.fills.specs.Parts.{spot}
use Rattle.fills.proofs.stretch.filler.Goals as goal
use Rattle.fills.proofs.stretch.filler.Goals.{then-states-k-eq-MISSING, else-states-k-eq-MISSING}

pub loop-k-init : goal.loop-k-init
loop-k-init c = (search rules, search rules, over_none _ _)

pub loop-k-preserved : goal.loop-k-preserved
loop-k-preserved c =
    let l = c.loop-k in
    let a = c.args in
    let k = l.k in
    let v = a.v in
    let d = a.part.now in
    let s = a.states.now in
    let f = spot s v d in
    elim c.if-states-k-eq-MISSING.branch [
      | then-states-k-eq-MISSING w ↦
          let e : f k ≡ v = sym (pick_eq _ _ _ _ _ w.if-states-k-eq-MISSING.true refl) in
          (omega arith, ap length w.part-is ∙ length-set l.part k v ∙ l.invariant.1, w.part-is ∙ ap₂ (λ (t : List ℕ) (x : ℕ). set t k x) l.invariant.2 (sym e) ∙ over_more f k d (omega arith))
      | else-states-k-eq-MISSING w ↦
          let e : f k ≡ get_or d k 0 = sym (pick_not_eq _ _ _ _ _ w.if-states-k-eq-MISSING.false refl) in
          (omega arith, ap length w.part-is ∙ l.invariant.1, w.part-is ∙ l.invariant.2 ∙ over_skip f k d (omega arith) e)
    ]

pub returns : goal.returns
returns c =
    let l = c.loop-k in
    let a = c.args in
    let e : l.k ≡ length a.part.now = omega arith in
    l.invariant.2 ∙ ap (λ (k : ℕ). over (spot a.states.now a.v a.part.now) k a.part.now) e

-- `line::surveyed::put_at` meets its contract. Assumes nothing.
use mathlib.Core.Path.{refl, ap₂, ◌∙◌}
use Prim.Native.Nat.{◌*◌}
use Rattle.line.proofs.Products.{product-fits}
use Rattle.line.proofs.Surveys.{concentration-is, flow-is, cell_is, adds}
use Rattle.line.specs.Put.{survey_c, survey_l}
use borrow.Author.Rules.{rules}
use Rattle.line.proofs.surveyed.put_at.Goals as goal

pub overflow_mul-result : goal.overflow_mul-result
overflow_mul-result c = record { fits = product-fits (search rules) (search rules) }

pub returns : goal.returns
returns c =
    let a = c.args in
    let n = concentration-is a.t _ c.flagged_pair-f.ensures in
    let m = flow-is a.t _ c.flagged_pair-f.ensures in
    record {
      weighs = adds _ _ _ _ refl (ap₂ ◌*◌ (c.from.ensures ∙ n) (c.from-2.ensures ∙ m)) refl;
      states_now = c.put.ensures;
      conc_now = cell_is (survey_c a.t) c.flagged_pair-f.result.concentration a.conc.now _ a.t.hour c.put-2.ensures n;
      flow_now = cell_is (survey_l a.t) c.flagged_pair-f.result.flow a.flow.now _ a.t.hour c.put-3.ensures m;
    }

-- `calls::bytes::put_all` meets its contract: after i turns the first i cells stand behind what stood before. Assumes nothing.
use Rattle.std.proofs.Common.{◌++◌, ◌∷◌, [], take, sym, ap, ◌∙◌}
use Rattle.std.proofs.lemmas.List.{take_more}
use Rattle.calls.proofs.Puts.{put_more, width_more}
use Rattle.calls.proofs.bytes.put_all.Goals as goal

pub loop-cell-preserved : goal.loop-cell-preserved
loop-cell-preserved g c =
    let l = c.loop-cell in
    let cells = c.args.cells.now in
    let p = c.put-end.ensures in
    let e = take_more cells l.cell-index c.cell-item.result c.loop-cell-test.true ∙ ap (λ x. take l.cell-index cells ++ x ∷ []) (sym c.cell-item.is) in
    (put_more g.N.Little.bytes _ _ _ _ _ _ l.cell-index cells _ e l.invariant.0 p.wrote, width_more _ _ _ _ _ l.invariant.1 p.ends)

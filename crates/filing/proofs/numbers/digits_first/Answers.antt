-- `numbers::digits_first` meets its contract: the place that is found is the first that is no digit. Assumes nothing.
use Rattle.std.proofs.Common.{rules, tests}
use Rattle.std.proofs.lemmas.Iterator.{YieldsList-from_slice}
use Rattle.std.proofs.lemmas.Iterator.Search.{position_from_yields_List}
use Rattle.filing.proofs.Next.{stops, digits_are}
use Rattle.filing.proofs.numbers.digits_first.Goals as goal

pub returns : goal.returns
returns c =
    let s = c.args.text.now in
    let found = position_from_yields_List stops _ _ c.position.result c.position.ensures.ran (YieldsList-from_slice s cc) (λ x b q k. search (rules, tests)) in
    digits_are s _ _ _ _ found c.unwrap_or-end.ensures c.split_at.ensures.front c.split_at.ensures.back

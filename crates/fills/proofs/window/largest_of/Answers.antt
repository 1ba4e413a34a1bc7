-- `fills::window::largest_of` meets its contract. Assumes nothing.
use Rattle.std.proofs.Common.{sym, ap, ◌∙◌, unwrap_or}
use Rattle.std.proofs.lemmas.Iterator.{YieldsList-from_slice}
use Rattle.std.proofs.lemmas.Iterator.Adapters.{option_map_id}
use Rattle.std.proofs.lemmas.Iterator.Consumers.{YieldsList-from_copied, max_from_yields_List}
use Rattle.fills.proofs.Largest.{largest_is}
use Rattle.fills.proofs.window.largest_of.Goals as goal

pub returns : goal.returns
returns c =
    let most = sym (option_map_id _) ∙ max_from_yields_List _ _ c.max.ensures.ran (YieldsList-from_copied (YieldsList-from_slice c.args.values.now cc)) in
    c.unwrap_or.ensures ∙ ap (λ o. unwrap_or o 0) most ∙ largest_is c.args.values.now

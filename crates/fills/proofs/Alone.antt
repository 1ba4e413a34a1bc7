-- "Concentration and flow are filled each by itself": the concentrations of a line's entries are the entries of its concentrations alone, and so the
-- flows. Assumes nothing.
use mathlib.Core.Path.{◌≡◌, ◌∙◌, sym}
use mathlib.Core.List.{List, [], map}
use Rattle.rules.specs.Slots.{Slot, map_slot, entries}
use Rattle.rules.specs.Fill.{Values, zeroes, cs, ls, fill, fill_both, mean_up, same, filled}
use Rattle.rules.proofs.Slots.{entries_map, entries_of-map}

module _ (slots : List (Slot Values)) where
  pub cs-alone : cs (entries (λ v. v) filled zeroes [] slots) ≡ entries (λ v. v) (fill mean_up same) 0 [] (map (map_slot (λ (v : Values). v.c)) slots)
  unfolding cs filled fill_both zeroes
  cs-alone = entries_map (λ v. v) filled zeroes (λ (v : Values). v.c) [] slots ∙ sym (entries_of-map (λ (v : Values). v.c) (λ v. v) (fill mean_up same) 0 [] slots)

  pub ls-alone : ls (entries (λ v. v) filled zeroes [] slots) ≡ entries (λ v. v) (fill mean_up same) 0 [] (map (map_slot (λ (v : Values). v.l)) slots)
  unfolding ls filled fill_both zeroes
  ls-alone = entries_map (λ v. v) filled zeroes (λ (v : Values). v.l) [] slots ∙ sym (entries_of-map (λ (v : Values). v.l) (λ v. v) (fill mean_up same) 0 [] slots)

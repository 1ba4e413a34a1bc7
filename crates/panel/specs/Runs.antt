-- A panel over a list of hours: what is counted, the panel after them, and whether one is refused.
use Rattle.std.specs.Prelude.{◌≡◌, ℕ, ◌*◌, List, [], ◌∷◌, slice_index}
use Rattle.law.specs.Words.{sum_of}
use Rattle.reading.specs.declared.Hour.{Hour}
use Rattle.reading.specs.Reading.{Figures, stated_hour, figures_of}
use Rattle.panel.specs.declared.Panel.{Panel}
use Rattle.panel.specs.Panel.{panel_step}

-- "a measured hour adds c x l to the total"
unfoldable pub product : Figures → ℕ
product f = slice_index (stated_hour f).values 0 * slice_index (stated_hour f).values 1

-- "a missing hour 1 to both counts"
abbrev pub missing_hour : Figures → ℕ
missing_hour f = (stated_hour f).missing

-- the sum of c x l over a list of hours, and how many of them are missing
abbrev pub products : List Hour → ℕ
products hs = sum_of (λ (h : Hour). product (figures_of h)) hs

abbrev pub missing_hours : List Hour → ℕ
missing_hours hs = sum_of (λ (h : Hour). missing_hour (figures_of h)) hs

-- the panel after each hour of a list
unfoldable pub after : Panel → List Hour → Panel
after p [] = p
after p (h ∷ hs) = after (panel_step p h).next hs

-- no hour of a list is refused
unfoldable pub NoneRefused : Panel → List Hour → Type 0
NoneRefused p [] = Unit
NoneRefused p (h ∷ hs) = ((panel_step p h).number ≡ 0) × NoneRefused (panel_step p h).next hs

-- no reading of a list is bad
unfoldable pub NoneBad : List Hour → Type 0
NoneBad [] = Unit
NoneBad (h ∷ hs) = ((stated_hour (figures_of h)).number ≡ 0) × NoneBad hs

-- The view after a record is the view of where the walk then stands. Assumes nothing.
use mathlib.Core.Path.{◌≡◌, refl, ap}
use mathlib.Core.Bool.{false}
use mathlib.Core.List.{List, [], ◌∷◌}
use Prim.Native.Nat.{ℕ, ◌+◌, ◌-◌}
use native.Mathlib.Numerals.{add-one}
use lib.ListN.{length}
use Rattle.law.specs.Words.{sum_of}
use Rattle.rules.specs.declared.Head.{Head}
use Rattle.rules.specs.declared.Survey.{Survey}
use Rattle.rules.specs.declared.Batch.{Batch}
use Rattle.rules.specs.Records.{Day}
use Rattle.rules.specs.Hours.{running, lacking}
use Rattle.rules.specs.Lines.{StackLine, besides, surveyed, put_surveys, days_after, fuel}
use Rattle.rules.specs.Outfalls.{Line, OfStack, head_of_line}
use Rattle.rules.specs.Walk.{Between, Inside, no_head, view_of, floor_of, surveys_of, begun, with_day, with_enforcement, with_plant, with_batch}
use Rattle.walk.proofs.Hours.{after-day}
use Rattle.rules.specs.declared.World.TheVariants.{Air}
use Rattle.walk.specs.Views.{one_more, opened_view, after_head, after_day, after_enforcement, after_plant, after_batch, after_end}

pub survey-count : (ss : List Survey) → (surveys_of ss).count ≡ length ss
unfolding surveys_of
survey-count [] = refl
survey-count (s ∷ ss) = refl

more_surveys : (s : Survey) (ss : List Survey) → one_more (surveys_of ss) s.hour ≡ surveys_of (s ∷ ss)
unfolding surveys_of
more_surveys s [] = refl
more_surveys s (t ∷ ts) = ap (λ (n : ℕ). record { count = n; floor = s.hour + 1 }) (add-one (length (t ∷ ts)))

pub view_start : opened_view false false 0 0 no_head ≡ view_of (Between [])
unfolding view_of floor_of head_of_line surveys_of
view_start = refl

pub view_head : (done : List Line) (h : Head) → after_head (view_of (Between done)) h Air ≡ view_of (Inside (begun h) done)
unfolding view_of begun floor_of head_of_line surveys_of surveyed besides days_after put_surveys running lacking fuel sum_of
view_head done h = refl

pub view_day : (x : StackLine) (done : List Line) (d : Day) → x.enforcement ≡ [] → x.plant ≡ [] → after_day (view_of (Inside x done)) d.masks ≡ view_of (Inside (with_day x d) done)
unfolding view_of with_day floor_of head_of_line running lacking sum_of
view_day x done d e q = rw (add-one (length x.days), after-day x d e q)

module _ (x : StackLine) (done : List Line) (s : Survey) (found : ℕ) where
  pub view_enforcement : lacking (days_after (with_enforcement x s)) ≡ lacking (days_after x) - found → after_enforcement (view_of (Inside x done)) s.hour found ≡ view_of (Inside (with_enforcement x s) done)
  unfolding view_of with_enforcement floor_of head_of_line
  view_enforcement e = rw (more_surveys s x.enforcement, e)

  pub view_plant : lacking (days_after (with_plant x s)) ≡ lacking (days_after x) - found → after_plant (view_of (Inside x done)) s.hour found ≡ view_of (Inside (with_plant x s) done)
  unfolding view_of with_plant floor_of head_of_line
  view_plant e = rw (more_surveys s x.plant, e)

pub view_batch : (x : StackLine) (done : List Line) (b : Batch) → after_batch (view_of (Inside x done)) b.kg ≡ view_of (Inside (with_batch x b) done)
unfolding view_of with_batch floor_of head_of_line days_after surveyed fuel sum_of
view_batch x done b = rw (add-one (length x.batches))

pub view_end : (x : StackLine) (done : List Line) → after_end (view_of (Inside x done)) ≡ view_of (Between (OfStack x ∷ done))
unfolding view_of floor_of head_of_line surveys_of
view_end x done = rw (add-one (length done))

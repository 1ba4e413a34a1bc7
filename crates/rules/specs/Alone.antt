-- Step 1 by document 01 alone, before A2: "a survey in a missing hour changes nothing there". A law sets it beside `days_after`.
use Rattle.std.specs.Prelude.{ℕ, ◌/◌, ◌%◌, Bool, true, not, ◌&&◌, List, [], ◌∷◌, eqb}
use Rattle.law.specs.Numbers.{hours_of_day}
use Rattle.law.specs.Words.{pick}
use Rattle.rules.specs.declared.Pair.{Pair}
use Rattle.rules.specs.declared.Survey.{Survey}
use Rattle.rules.specs.Records.{Day}
use Rattle.rules.specs.Hours.{bit, run_masks, measured_masks, lacks_at}
use Rattle.rules.specs.Lines.{StackLine, surveyed, with_pair, at_day}

-- "a survey replaces both readings of a measured hour", and changes nothing in another
unfoldable pub replaced_only : ℕ → Pair → Day → Day
replaced_only h p d = pick (eqb (bit h d.masks.measured) 1) (with_pair h p d) d

-- the surveys of a list, each at its hour
unfoldable pub replaced_alone : List Survey → List Day → List Day
replaced_alone [] days = days
replaced_alone (s ∷ ss) days = at_day (s.hour / hours_of_day) (replaced_only (s.hour % hours_of_day) s.pair) (replaced_alone ss days)

-- the days of a line after step 1
unfoldable pub days_alone : StackLine → List Day
days_alone x = replaced_alone (surveyed x) x.days

-- no survey of a list lies in a missing hour of the days
unfoldable pub none_missing : List Day → List Survey → Bool
none_missing days [] = true
none_missing days (s ∷ ss) = not (lacks_at (run_masks days) (measured_masks days) s.hour) && none_missing days ss

-- What the methods that go by readings see of a line, in hours of a stack or in days of an outfall: formulas 2 and 3, and 6 and 7.
use Rattle.std.specs.Prelude.{ℕ, List}
use Rattle.law.specs.Numbers.{per_gram, per_gram_of_water}
use Rattle.rules.specs.declared.Pair.{Pair}
use Rattle.rules.specs.declared.Survey.{Survey}
use Rattle.rules.specs.Slots.{Slot, running_in}
use Rattle.rules.specs.Hours.{running}
use Rattle.rules.specs.Lines.{StackLine, hours, surveyed}
use Rattle.rules.specs.Outfalls.{OutfallLine, days_in_turn, surveyed_days, outfall_days}

-- how many units of c x l are a gram; the hours or days after step 1; the surveys that speak; how many hours or days ran
pub record Measured : Type 0 where
  pub units : ℕ
  pub after : List (Slot Pair)
  pub surveys : List Survey
  pub ran : ℕ

-- a stack, by the hour: "over 100,000"
abbrev pub of_stack : StackLine → Measured
of_stack x = record { units = per_gram; after = hours x; surveys = surveyed x; ran = running x.days }

-- an outfall, "by day": "grams are the sum over 100"
abbrev pub of_outfall : OutfallLine → Measured
of_outfall x = record { units = per_gram_of_water; after = outfall_days x; surveys = surveyed_days x; ran = running_in (days_in_turn x.days) }

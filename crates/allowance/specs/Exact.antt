-- "X is the exact figure in units of 0.01 mg", of water "10 mg": the same method without rounding, on the readings as stored, multiplied out to whole numbers.
use Rattle.std.specs.Prelude.{ℕ, ◌+◌, ◌*◌, List, [], map}
use Rattle.law.specs.Words.{sum_of}
use Rattle.reading.specs.Reading.{reading, exact}
use Rattle.rules.specs.declared.Pair.{Pair}
use Rattle.rules.specs.declared.Survey.{Survey}
use Rattle.rules.specs.Slots.{map_slot, entries}
use Rattle.rules.specs.Measured.{Measured}
use Rattle.rules.specs.Fill.{Values, zeroes, fill_both}
use Rattle.rules.specs.Grams.{amount}

-- "exact binary readings": c in hundredths of mg/m3 and l in m3/h, both in units of 2^-149, in which nothing of a reading is cut off (`readings` of the front
-- page, `demands`)
unfoldable pub exact_of : Pair → Values
exact_of p = record { c = 100 * exact (reading p.concentration); l = exact (reading p.flow) }

-- a value in half units of 2^-149, that is in units of 2^-150
unfoldable pub twice : ℕ → ℕ
twice v = 2 * v

-- "exact means", in half units
unfoldable pub twice_mean : ℕ → ℕ → ℕ
twice_mean b a = b + a

-- both values of a valid hour in half units
unfoldable pub twice_both : Values → Values
twice_both v = record { c = twice v.c; l = twice v.l }

-- "exact means and exact maxima": the same fill rule
unfoldable pub exact_fill : ℕ → List Values → List Values → Values
exact_fill gap before after = fill_both twice_mean twice gap before after

-- the hours or days after step 1, so that a replaced one has the survey's exact reading, missing ones by an exact rule
unfoldable pub exact_hourly : (ℕ → List Values → List Values → Values) → Measured → List Values
exact_hourly rule m = entries twice_both rule zeroes [] (map (map_slot exact_of) m.after)

-- method 1: X times 2^300
unfoldable pub exact_automatic : (ℕ → List Values → List Values → Values) → Measured → ℕ
exact_automatic rule m = sum_of amount (exact_hourly rule m)

-- c and l of a survey, exact
unfoldable pub exact_survey : Survey → Values
exact_survey s = exact_of s.pair

-- method 2: X times n times 2^298
unfoldable pub exact_manual : Measured → ℕ
exact_manual m = sum_of (λ s. amount (exact_survey s)) m.surveys * m.ran

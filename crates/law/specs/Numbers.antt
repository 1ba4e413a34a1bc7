-- The document's numbers, each said once: hours, cells, lines, surveys, batches, scales, limits, and the bounds that follow from them.
use Rattle.std.specs.Prelude.{ℕ}

-- "24 x day + hour"; "a period is 1 to 92 whole days"; 24 x 92, the hours of the longest period and "the first 2,208 cells" of a work slice
abbrev pub hours_of_day : ℕ
hours_of_day = 24

abbrev pub most_days : ℕ
most_days = 92

abbrev pub most_hours : ℕ
most_hours = 2_208

-- "48 lines"; "a row is seven u64"; the cells of 48 rows
abbrev pub most_lines : ℕ
most_lines = 48

abbrev pub row_cells : ℕ
row_cells = 7

abbrev pub most_cells : ℕ
most_cells = 336

-- "the answer and the total line always have five totals"
abbrev pub total_cells : ℕ
total_cells = 5

-- "at most 120 surveys of both kinds together, 92 batches"
abbrev pub most_surveys : ℕ
most_surveys = 120

abbrev pub most_batches : ℕ
most_batches = 92

-- "sulphur at most 2,000, ash at most 10,000", "a line's fuel at most 10,000,000,000 kg"
abbrev pub most_sulphur : ℕ
most_sulphur = 2_000

abbrev pub most_ash : ℕ
most_ash = 10_000

abbrev pub most_fuel : ℕ
most_fuel = 10_000_000_000

-- "a concentration becomes whole hundredths of mg/m3, a flow whole m3/h"
abbrev pub per_mg : ℕ
per_mg = 100

abbrev pub per_cubic_metre : ℕ
per_cubic_metre = 1

-- "concentration at most 1,000,000 after rounding, flow at most 5,000,000"; c x l of both
abbrev pub most_concentration : ℕ
most_concentration = 1_000_000

abbrev pub most_flow : ℕ
most_flow = 5_000_000

abbrev pub most_amount : ℕ
most_amount = 5_000_000_000_000

-- a gram is 100,000 units of c x l, of 0.01 mg each
abbrev pub per_gram : ℕ
per_gram = 100_000

-- of water 100, of 10 mg each: c in 0.01 mg/L, l in m3 a day
abbrev pub per_gram_of_water : ℕ
per_gram_of_water = 100

-- no line states more grams than this, so that the totals of 48 lines fit
abbrev pub most_grams : ℕ
most_grams = 600_000_000_000_000

-- "input over 65,536 bytes": no program takes a longer file or text
abbrev pub most_bytes : ℕ
most_bytes = 65_536

-- "gap of 24 or fewer"; "the last 720 valid hours"
abbrev pub short_gap : ℕ
short_gap = 24

abbrev pub long_window : ℕ
long_window = 720

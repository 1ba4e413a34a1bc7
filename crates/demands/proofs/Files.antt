-- Six small files, computed from the definitions alone: document 01's example of 223 bytes; the same of another stack, with 30 mg/m3 in the first hour;
-- and the two behind each other; an outfall of one day; the same with 30 mg/L; and the outfall behind the example. Each is lent cells for two rows. Assumes nothing.
use mathlib.Core.Bool.{Bool, true, ◌&&◌}
use mathlib.Core.List.{List, [], ◌∷◌, ◌++◌}
use mathlib.Core.Path.{◌≡◌, refl}
use Prim.Native.Nat.{ℕ, zero, suc, ◌*◌, ◌^◌, ◌<◌}
use native.Mathlib.Omega.{arith}
use lib.ListN.{length, get_or, set, replicate}
use lib.Dec.{T, ltb, ltb→lt}
use lib.Ieee.Fits.{and_l, and_r}
use Rattle.law.specs.Numbers.{most_hours}
use Rattle.rules.specs.Refusals.{Answer}
use Rattle.rules.specs.Row.{concentration_cells, flow_cells}
use Rattle.rules.specs.Account.{answer_of, rows_after, work_after}
use Rattle.rules.specs.Opened.{rules}
use Rattle.demands.specs.Example.{example}
use Rattle.demands.specs.Demands.{Call, Slice, Lent}

-- ---- the files
unfoldable pub second : List ℕ
unfolding example
second = set (set example 4 2) 29 240

unfoldable pub two : List ℕ
two = example ++ second

-- an outfall of one day: 20 mg/L and 1,000 m3
unfoldable pub outfall : List ℕ
outfall =
    (6 ∷ 0 ∷ 9 ∷ 0 ∷ 1 ∷ 0 ∷ 4 ∷ 1 ∷ []) ++ (12 ∷ 0 ∷ 10 ∷ 0 ∷ 0 ∷ 2 ∷ 0 ∷ 0 ∷ 160 ∷ 65 ∷ 0 ∷ 0 ∷ 122 ∷ 68 ∷ []) ++ (2 ∷ 0 ∷ 6 ∷ 0 ∷ [])

unfoldable pub dirtier : List ℕ
dirtier = set outfall 16 240

unfoldable pub mixed : List ℕ
mixed = example ++ outfall

-- a call with cells for two rows, and the least work slices
abbrev pub call_of : List ℕ → Call
call_of file = record { file = file; rows = replicate 14 0; concentrations = replicate most_hours 0; flows = replicate most_hours 0 }

-- ---- they can be lent: each element is tested
every : ℕ → List ℕ → Bool
every n [] = true
every n (x ∷ xs) = ltb x n && every n xs

every_below : (n : ℕ) (s : List ℕ) → 0 < n → T (every n s) → (i : ℕ) → get_or s i 0 < n
unfolding every
every_below n [] p t i = p
every_below n (x ∷ xs) p t zero = ltb→lt x n (and_l (ltb x n) (every n xs) t)
every_below n (x ∷ xs) p t (suc i) = every_below n xs p (and_r (ltb x n) (every n xs) t) i

slice : (bytes : ℕ) (s : List ℕ) → 0 < 256 ^ bytes → T (every (256 ^ bytes) s) → T (ltb (length s * bytes) (2 ^ 63)) → Slice bytes s
slice bytes s p t u = (every_below (256 ^ bytes) s p t, ltb→lt (length s * bytes) (2 ^ 63) u)

lent_of : (file : List ℕ) → Slice 1 file → Lent (call_of file)
unfolding every
lent_of file f =
    let work = slice 4 (replicate most_hours 0) (omega arith) tt tt in
    (f, slice 8 (replicate 14 0) (omega arith) tt tt, work, work)

pub record LentAll : Type 0 where
  pub of_example_here : Lent (call_of example)
  pub of_second : Lent (call_of second)
  pub of_two : Lent (call_of two)
  pub of_outfall : Lent (call_of outfall)
  pub of_dirtier : Lent (call_of dirtier)
  pub of_mixed : Lent (call_of mixed)

pub lent_all : LentAll
unfolding every example second two outfall dirtier mixed
lent_all =
    record {
      of_example_here = lent_of example (slice 1 example (omega arith) tt tt);
      of_second = lent_of second (slice 1 second (omega arith) tt tt);
      of_two = lent_of two (slice 1 two (omega arith) tt tt);
      of_outfall = lent_of outfall (slice 1 outfall (omega arith) tt tt);
      of_dirtier = lent_of dirtier (slice 1 dirtier (omega arith) tt tt);
      of_mixed = lent_of mixed (slice 1 mixed (omega arith) tt tt);
    }

-- ---- what they give
abbrev answer_to : List ℕ → Answer
answer_to file = answer_of file 14 most_hours most_hours

abbrev pub rows_to : List ℕ → List ℕ
rows_to file = rows_after file (replicate 14 0) most_hours most_hours

pub record Given (file : List ℕ) (count : ℕ) : Type 0 where
  pub number : (answer_to file).number ≡ 0
  pub rows : (answer_to file).rows ≡ count

pub record GivenAll : Type 0 where
  pub of_example_here : Given example 1
  pub of_second : Given second 1
  pub of_two : Given two 2
  pub row_example : rows_to example ≡ (1 ∷ 2 ∷ 1 ∷ 126_500 ∷ 4 ∷ 1 ∷ 3 ∷ []) ++ replicate 7 0
  pub row_second : rows_to second ≡ (2 ∷ 2 ∷ 1 ∷ 136_500 ∷ 4 ∷ 1 ∷ 3 ∷ []) ++ replicate 7 0
  pub rows_two : rows_to two ≡ (1 ∷ 2 ∷ 1 ∷ 126_500 ∷ 4 ∷ 1 ∷ 3 ∷ []) ++ (2 ∷ 2 ∷ 1 ∷ 136_500 ∷ 4 ∷ 1 ∷ 3 ∷ [])
  pub of_outfall : Given outfall 1
  pub of_dirtier : Given dirtier 1
  pub of_mixed : Given mixed 2
  pub row_outfall : rows_to outfall ≡ (1 ∷ 4 ∷ 1 ∷ 20_000 ∷ 1 ∷ 0 ∷ 0 ∷ []) ++ replicate 7 0
  pub row_dirtier : rows_to dirtier ≡ (1 ∷ 4 ∷ 1 ∷ 30_000 ∷ 1 ∷ 0 ∷ 0 ∷ []) ++ replicate 7 0
  pub rows_mixed : rows_to mixed ≡ (1 ∷ 2 ∷ 1 ∷ 126_500 ∷ 4 ∷ 1 ∷ 3 ∷ []) ++ (1 ∷ 4 ∷ 1 ∷ 20_000 ∷ 1 ∷ 0 ∷ 0 ∷ [])
  pub day_concentration : get_or (work_after concentration_cells outfall 14 most_hours most_hours (replicate most_hours 0)) 0 0 ≡ 2000
  pub day_flow : get_or (work_after flow_cells outfall 14 most_hours most_hours (replicate most_hours 0)) 0 0 ≡ 1000
  pub concentration : get_or (work_after concentration_cells example 14 most_hours most_hours (replicate most_hours 0)) 0 0 ≡ 2000
  pub flow : get_or (work_after flow_cells example 14 most_hours most_hours (replicate most_hours 0)) 0 0 ≡ 1000000

pub given_all : GivenAll
unfolding example second two outfall dirtier mixed rules
given_all =
    record {
      of_example_here = record { number = refl; rows = refl };
      of_second = record { number = refl; rows = refl };
      of_two = record { number = refl; rows = refl };
      row_example = refl;
      row_second = refl;
      rows_two = refl;
      of_outfall = record { number = refl; rows = refl };
      of_dirtier = record { number = refl; rows = refl };
      of_mixed = record { number = refl; rows = refl };
      row_outfall = refl;
      row_dirtier = refl;
      rows_mixed = refl;
      day_concentration = refl;
      day_flow = refl;
      concentration = refl;
      flow = refl;
    }

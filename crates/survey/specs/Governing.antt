-- "The governing-survey call gets two lent byte slices and an hour."
use Rattle.std.specs.Prelude.{ℕ, ◌+◌, ◌*◌, ◌/◌, Bool, ◌&&◌, List, length, take, drop, eqb}
use Rattle.std.specs.Borrow.{Bor}
use Rattle.law.specs.Words.{seek}
use Rattle.field.specs.Field.{u16}

-- "passes over any block that doesn't start with the length and kind of 3 in the first slice, of 4 in the second": a block of that kind and hour
unfoldable pub is_survey : List ℕ → ℕ → ℕ → ℕ → Bool
is_survey s kind hour at = eqb (u16 s at) 12 && eqb (u16 s (at + 2)) kind && eqb (u16 s (at + 4)) hour

-- a part of memory: where it lies and its bytes
pub record Part : Type 0 where
  pub block : ℕ
  pub offset : ℕ
  pub bytes : List ℕ

-- the part of n bytes of a slice that starts at a
unfoldable pub part : Bor (List ℕ) → ℕ → ℕ → Part
part r a n = record { block = r.ref_ptr.0; offset = r.ref_ptr.1 + a; bytes = take n (drop a r.now) }

-- a slice, as a part of memory
unfoldable pub here : Bor (List ℕ) → Part
here r = record { block = r.ref_ptr.0; offset = r.ref_ptr.1; bytes = r.now }

-- "it goes by 14-byte blocks (a tail is ignored)": "the first block of that hour", or another part
unfoldable pub survey_or : Bor (List ℕ) → ℕ → ℕ → Part → Part
survey_or r kind hour other = seek (λ i. is_survey r.now kind hour (14 * i)) (λ i. part r (14 * i) 14) other 0 (length r.now / 14)

-- "as a part of the enforcement slice, else of the plant slice, else the empty part at the start of the second"
unfoldable pub governing : Bor (List ℕ) → Bor (List ℕ) → ℕ → Part
governing enforcement plant hour = survey_or enforcement 3 hour (survey_or plant 4 hour (part plant 0 0))

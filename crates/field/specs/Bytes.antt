-- Numbers as bytes: "all numbers little-endian".
use Rattle.std.specs.Prelude.{ℕ, ◌/◌, ◌%◌, List, [], ◌∷◌, ◌++◌}

-- a u32, the low byte first
unfoldable pub u32_bytes : ℕ → List ℕ
u32_bytes x = x % 256 ∷ x / 256 % 256 ∷ x / 256 / 256 % 256 ∷ x / 256 / 256 / 256 % 256 ∷ []

-- a u64, the low half first
unfoldable pub u64_bytes : ℕ → List ℕ
u64_bytes x = u32_bytes (x % 4_294_967_296) ++ u32_bytes (x / 4_294_967_296)

-- cells one behind the other
unfoldable pub cells_bytes : (ℕ → List ℕ) → List ℕ → List ℕ
cells_bytes bytes [] = []
cells_bytes bytes (x ∷ cells) = bytes x ++ cells_bytes bytes cells

-- A product of two u32 is a u64. Assumes nothing.
use Prim.Native.Nat.{ℕ, ◌*◌, ◌^◌, ◌<◌}
use native.Mathlib.Nat.{le_of_lt, lt_of_le_of_lt, mul-le-mul_left}
use native.Mathlib.Omega.{arith}

pub product-fits : {a b : ℕ} → a < 2 ^ 32 → b < 2 ^ 32 → a * b < 2 ^ 64
product-fits {a} {b} l m = lt_of_le_of_lt (mul-le-mul_left a (le_of_lt m)) (omega arith)

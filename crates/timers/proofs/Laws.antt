-- A law of numbers that the times in ticks rest on.
-- Assumes nothing.
use Prim.Native.Nat.{ℕ, ◌*◌, ◌+◌, ◌<◌, ◌^◌}
use lib.Pow.{shl_lt}
use native.Mathlib.Nat.{le_of_lt, lt_of_le_of_lt, mul-le-mul_left}

-- a number of s bits times one of t bits has at most s + t
pub product : {a b : ℕ} (s t : ℕ) → a < 2 ^ s → b < 2 ^ t → a * b < 2 ^ (s + t)
product {a} s t ha hb = lt_of_le_of_lt (mul-le-mul_left a (le_of_lt hb)) (shl_lt s t ha)

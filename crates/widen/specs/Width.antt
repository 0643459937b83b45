-- Document 01, "Widths": a measured value filled out from the top to a number of bits.
-- Assumes nothing.
use Rattle.std.specs.Prelude.{ℕ, zero, suc, ◌+◌, ◌-◌, ◌*◌, ◌/◌, ◌%◌, ◌^◌, min, max}

-- bit j, counted from the top, of the n bits of x
abbrev pub top_bit : ℕ → ℕ → ℕ → ℕ
top_bit n x j = x / 2 ^ (n - suc j) % 2

-- w bits, of which bit j, counted from the top, is bit (j mod resolution) of the value
unfoldable pub widened : (value resolution w : ℕ) → ℕ
widened value resolution zero = 0
widened value resolution (suc w) = widened value resolution w * 2 + top_bit resolution value (w % resolution)

-- the least whole number of bytes that hold the resolution; from one to four, so that it says something of every number
abbrev pub input_bytes : (resolution : ℕ) → ℕ
input_bytes resolution = max 1 (min 4 ((resolution + 7) / 8))

-- the value as queries show it
abbrev pub input_value : (value resolution : ℕ) → ℕ
input_value value resolution = widened value resolution (8 * input_bytes resolution)

-- the value as a light event carries it: ten bits
abbrev pub information : (value resolution : ℕ) → ℕ
information value resolution = widened value resolution 10

-- MASK: all ones
abbrev pub mask : (resolution : ℕ) → ℕ
mask resolution = 2 ^ (8 * input_bytes resolution) - 1

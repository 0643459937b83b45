-- M-104, after IEC 62386-305, 9.3.2, 9.4.3 and 9.4.5: what the 24 bits of a colour's input_value say.
-- Assumes nothing.
use Rattle.std.specs.Prelude.{ℕ, ◌%◌, ◌*◌, ◌+◌, ◌-◌, ◌/◌, ltb, Bool, cond}

-- ---- Table 1: bits 7 to 0 are red, 15 to 8 green, 23 to 16 blue
abbrev pub r_value : (value : ℕ) → ℕ
r_value value = value % 256

abbrev pub g_value : (value : ℕ) → ℕ
g_value value = value / 256 % 256

abbrev pub b_value : (value : ℕ) → ℕ
b_value value = value / 65536 % 256

-- the number of a colour, by its levels
abbrev pub levels : (r g b : ℕ) → ℕ
levels r g b = r + g * 256 + b * 65536

-- an observed level: 0 to 254
abbrev pub level : (n : ℕ) → Bool
level n = ltb n 255

-- ---- 9.4.5: absolute_change = |rValue - rLast| + |gValue - gLast| + |bValue - bLast|
unfoldable pub apart : (a b : ℕ) → ℕ
apart a b = cond (ltb a b) (b - a) (a - b)

unfoldable pub absolute_change : (value last : ℕ) → ℕ
absolute_change value last = apart (r_value value) (r_value last) + apart (g_value value) (g_value last) + apart (b_value value) (b_value last)

-- r_value + g_value + b_value
unfoldable pub total : (value : ℕ) → ℕ
total value = r_value value + g_value value + b_value value

-- ---- Table 3: bits 2 to 0 are the three most significant bits of red, 5 to 3 those of green, 8 to 6 those of blue, bit 9 is 0
unfoldable pub information : (value : ℕ) → ℕ
information value = r_value value / 32 + g_value value / 32 * 8 + b_value value / 32 * 64

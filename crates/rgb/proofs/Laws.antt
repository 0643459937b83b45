-- M-104: the standard's table of answers, and what the numbers of a colour come to.
-- Assumes nothing.
use Prim.Native.Nat.{ℕ, ◌%◌, ◌/◌, ◌<◌, ◌^◌}
use Rattle.rgb.specs.Annex.{parameters, wavelength}
use Rattle.rgb.specs.Colour.{absolute_change, apart, b_value, g_value, information, levels, r_value, total}
use borrow.Author.Tests.{le-ltb}
use mathlib.Core.List.{[], ◌∷◌}
use mathlib.Core.Path.{refl, ◌≡◌}
use native.Mathlib.Nat.{mod-eq_of_lt}
use native.Mathlib.Omega.{arith}

-- Table A.1, but for three that it rounds up: 188, 138 and 88 (docs/DECISIONS.md)
pub table : parameters ≡ 187 ∷ 175 ∷ 162 ∷ 137 ∷ 125 ∷ 100 ∷ 112 ∷ 87 ∷ 75 ∷ 1 ∷ 84 ∷ 1 ∷ 104 ∷ 0 ∷ 200 ∷ []
unfolding wavelength
table = refl

-- ---- Table 1: the levels of a colour, from its number
pub table_1 : (r g b : ℕ) → r < 256 → g < 256 → b < 256
    → (r_value (levels r g b) ≡ r) × (g_value (levels r g b) ≡ g) × (b_value (levels r g b) ≡ b)
table_1 r g b h k l = (omega arith, omega arith, omega arith)

-- ---- a colour has not changed from itself
apart_none : (n : ℕ) → apart n n ≡ 0
unfolding apart
apart_none n = rw (le-ltb n n (omega arith)) (omega arith)

pub change_none : (value : ℕ) → absolute_change value value ≡ 0
unfolding absolute_change
change_none value = rw (apart_none (r_value value), apart_none (g_value value), apart_none (b_value value))

-- from black it has changed by its three levels, and by nothing where it is black itself
apart_black : (n : ℕ) → apart n 0 ≡ n
unfolding apart
apart_black n = rw (le-ltb n 0 (omega arith)) (omega arith)

pub change_black : (value : ℕ) → absolute_change value 0 ≡ total value
unfolding absolute_change total
change_black value = rw (apart_black (r_value value), apart_black (g_value value), apart_black (b_value value))

pub some_level : (value : ℕ) → 0 < value → value < 2 ^ 24 → 0 < total value
unfolding total
some_level value some fits =
    let top : value / 65536 < 256 = omega arith in
    let whole : value / 65536 % 256 ≡ value / 65536 = mod-eq_of_lt top in
    let halves : value / 65536 ≡ value / 256 / 256 = omega arith in
    omega (arith, whole, halves)

-- ---- Table 3: bit 9 is unused
pub nine_bits : (value : ℕ) → information value < 512
unfolding information
nine_bits value = omega arith

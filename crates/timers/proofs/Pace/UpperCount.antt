-- THE UPPER COUNT: events at least `lo` ticks apart are at most one for each `lo` ticks.
-- Assumes nothing.
use Prim.Native.Nat.{ℕ, ◌*◌, ◌+◌, ◌/◌, ◌<◌, ◌≤◌}
use Rattle.timers.proofs.Pace.Apart.{Spaced}
use lib.ListN.{length}
use mathlib.Core.List.{List, [], ◌∷◌}
use native.Mathlib.Nat.{le-div_iff_mul-le, suc-mul, zero-mul}
use native.Mathlib.Omega.{arith}

most : (lo hi last : ℕ) (es : List ℕ) (now : ℕ) → Spaced lo hi last es now → length es * lo + last ≤ now
most lo hi last [] now s = simp zero-mul (omega arith)
most lo hi last (e ∷ es) now s = let h = most lo hi e es now s.2 in simp suc-mul (omega arith)

pub upper_count : (lo hi last n : ℕ) (es : List ℕ) → 0 < lo → Spaced lo hi last es (last + n) → length es ≤ n / lo
upper_count lo hi last n es some s = (le-div_iff_mul-le some).1 (omega (arith, most lo hi last es (last + n) s))

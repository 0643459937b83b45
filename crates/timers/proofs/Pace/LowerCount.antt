-- THE LOWER COUNT: events at most `hi` ticks apart are at least one for each `hi` ticks.
-- Assumes nothing.
use Prim.Native.Nat.{ℕ, suc, ◌*◌, ◌+◌, ◌/◌, ◌<◌, ◌≤◌}
use Rattle.timers.proofs.Pace.Apart.{Spaced}
use lib.ListN.{length}
use mathlib.Core.List.{List, [], ◌∷◌}
use native.Mathlib.Nat.{div-lt_iff_lt-mul, one-mul, suc-mul}
use native.Mathlib.Omega.{arith}

least : (lo hi last : ℕ) (es : List ℕ) (now : ℕ) → Spaced lo hi last es now → now < suc (length es) * hi + last
least lo hi last [] now s = simp one-mul (omega arith)
least lo hi last (e ∷ es) now s = let h = least lo hi e es now s.2 in rw suc-mul (omega arith)

pub lower_count : (lo hi last n : ℕ) (es : List ℕ) → 0 < hi → Spaced lo hi last es (last + n) → n / hi ≤ length es
lower_count lo hi last n es some s =
    let below : n / hi < suc (length es) = (div-lt_iff_lt-mul some).1 (omega (arith, least lo hi last es (last + n) s)) in
    omega arith

-- A list of bytes: each of them is below 256, and what is left of it is a list of bytes.
-- Assumes nothing.
use Prim.Native.Nat.{ℕ, zero, suc, ◌<◌}
use Rattle.record.specs.Log.{AllBytes}
use lib.ListN.{drop, get_or}
use mathlib.Core.List.{List, [], ◌∷◌}
use native.Mathlib.Omega.{arith}

pub all_below : (xs : List ℕ) (k : ℕ) → AllBytes xs → get_or xs k 0 < 256
all_below [] k a = omega arith
all_below (x ∷ xs) zero a = a.0
all_below (x ∷ xs) (suc k) a = all_below xs k a.1

pub all_dropped : (n : ℕ) (xs : List ℕ) → AllBytes xs → AllBytes (drop n xs)
all_dropped zero xs a = a
all_dropped (suc n) [] a = a
all_dropped (suc n) (x ∷ xs) a = all_dropped n xs a.1

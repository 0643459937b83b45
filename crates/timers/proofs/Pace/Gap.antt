-- THE GAP: events at most `hi` ticks apart leave no gap above `hi`.
-- Assumes nothing.
use Prim.Native.Nat.{ℕ, ◌+◌, ◌<◌, ◌≤◌}
use Rattle.timers.proofs.Pace.Apart.{Spaced}
use mathlib.Core.List.{List, Memᴰ, [], ◌∷◌}
use mathlib.Core.Path.{refl}
use native.Mathlib.Decide.{dec_le}
use native.Mathlib.Omega.{arith}

-- every `hi` ticks in a row, those above a up to a + hi, hold an event
pub no_gap : (lo hi last : ℕ) (es : List ℕ) (now a : ℕ) → Spaced lo hi last es now → last ≤ a → a + hi ≤ now
    → (e : ℕ) × Memᴰ e es × (a < e) × (e ≤ a + hi)
no_gap lo hi last [] now a s h w = absurd (omega arith)
no_gap lo hi last (e ∷ es) now a s h w = go (dec_le e a) (λ p. no_gap lo hi e es now a s.2 p w)
  where
    go : Dec (e ≤ a) → (e ≤ a → (f : ℕ) × Memᴰ f es × (a < f) × (f ≤ a + hi))
        → (f : ℕ) × Memᴰ f (e ∷ es) × (a < f) × (f ≤ a + hi)
    go (yes p) later = let (f, m, l, u) = later p in (f, Memᴰ.tail m, l, u)
    go (no p) later = (e, Memᴰ.head refl, omega arith, omega arith)

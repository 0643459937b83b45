-- Events at least `lo` and at most `hi` ticks apart. Numbers alone: nothing of the timers.
-- Assumes nothing.
use Prim.Native.Nat.{ℕ, ◌+◌, ◌<◌, ◌≤◌}
use mathlib.Core.List.{List, [], ◌∷◌}

-- from an event at `last` on; the time is `now`, and the next event is not overdue
abbrev pub Spaced : (lo hi last : ℕ) → List ℕ → (now : ℕ) → Type 0
Spaced lo hi last [] now = (last ≤ now) × (now < last + hi)
Spaced lo hi last (e ∷ es) now = (last + lo ≤ e) × (e ≤ last + hi) × Spaced lo hi e es now

-- Demand 3, of the timers alone: which of the ticks after an event hold another, whatever the causes.
-- Assumes nothing.
use Rattle.std.specs.Prelude.{ℕ, suc, ◌+◌, ◌/◌, ◌<◌, ◌≤◌, max, length, Bool, cond, true, ◌≡◌}
use Rattle.timers.specs.Decision.{after, decided, sends}
use Rattle.timers.specs.Timers.{fallen}
use Rattle.timers.specs.declared.Decision.{Decision}
use Rattle.timers.specs.declared.Rules.{Rules}
use Rattle.timers.specs.declared.Timers.{Timers}
use mathlib.Core.List.{List, Memᴰ, [], ◌++◌, ◌∷◌}

-- a tick with a valid sample, and a cause or none
abbrev pub decision_at : Rules → Timers → (cause : Bool) → Decision
decision_at r t cause = decided r true (fallen t) cause

-- the number of a tick, where it sent
abbrev pub noted : Bool → (tick : ℕ) → List ℕ
noted sent tick = cond sent (tick ∷ []) []

-- the numbers of the ticks that send, over any list of causes, from a tick `now` with the timers t
unfoldable pub sendings : Rules → Timers → (now : ℕ) → (causes : List Bool) → List ℕ
sendings r t now [] = []
sendings r t now (c ∷ cs) = noted (sends (decision_at r t c)) (suc now) ++ sendings r (after (decision_at r t c) r (fallen t)) (suc now) cs

-- what demand 3 asks of an instance: enabled, its report multiplier above 0, its filter letting the report out
pub record Reporting (r : Rules) : Type 0 where
  pub on : r.enabled ≡ true
  pub lets : r.repeat ≡ true
  pub set : 0 < r.report
  pub unit : 0 < r.units.report

-- DEMAND 3's conclusion, of the ticks `events` at which an instance sent in the n ticks after its event at tick `last`
pub record Paced (D R last n : ℕ) (events : List ℕ) : Type 0 where
  pub at_least : n / R ≤ length events
  pub at_most : length events ≤ n / max D 1
  -- every R ticks in a row, those above a up to a + R, hold an event
  pub gapless : (a : ℕ) → last ≤ a → a + R ≤ last + n → (e : ℕ) × Memᴰ e events × (a < e) × (e ≤ a + R)

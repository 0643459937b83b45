-- For how many ticks no event is sure to go out, and the timers after them.
-- Assumes nothing.
use Rattle.std.specs.Prelude.{ℕ, ◌-◌, max, None, Option, Some, Bool, cond, ◌&&◌}
use Rattle.timers.specs.declared.Rules.{Rules}
use Rattle.timers.specs.declared.Timers.{Timers}

-- ---- the timers after n ticks with no event
unfoldable pub rested_report : Option ℕ → (n : ℕ) → Option ℕ
rested_report None n = None
rested_report (Some m) n = Some (m - n)

unfoldable pub rested : Timers → (n : ℕ) → Timers
rested t n = record { dead = t.dead - n; report = rested_report t.report n }

-- ---- for how many ticks no event goes out, if nothing but the timers changes
-- more ticks than a session can count
abbrev pub forever : ℕ
forever = 4294967295

-- for how many ticks the report timer and dead time hold a report back
unfoldable pub held_for : Option ℕ → (dead : ℕ) → ℕ
held_for None dead = forever
held_for (Some m) dead = max m dead - 1

-- dead time alone holds a cause of the sensor's own back
unfoldable pub silent_for : Rules → (valid : Bool) → Timers → (cause : Bool) → ℕ
silent_for r valid t cause = cond (r.enabled && valid) (cond cause (t.dead - 1) (cond r.repeat (held_for t.report t.dead) forever)) forever

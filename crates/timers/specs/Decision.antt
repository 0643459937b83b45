-- Document 01, "One tick": an instance sends at most one event, never while dead time is above 0, while disabled, or with status 1 or 2.
-- Assumes nothing.
use Rattle.timers.specs.Timers.{due, started}
use Rattle.timers.specs.declared.Decision.TheVariants.{Reported, Silent, Triggered}
use Rattle.timers.specs.declared.Decision.{Decision}
use Rattle.timers.specs.declared.Rules.{Rules}
use Rattle.timers.specs.declared.Timers.{Timers}
use Rattle.std.specs.Prelude.{eqb, Bool, cond, false, true, ◌&&◌}

-- the decision of a tick, once the timers have fallen; `cause` is a trigger of the sensor's own that may be sent
unfoldable pub decided : Rules → (valid : Bool) → Timers → (cause : Bool) → Decision
decided r valid t cause =
    cond ((r.enabled && valid) && eqb t.dead 0)
    (cond cause Triggered (cond (due t.report && r.repeat) Reported Silent))
    Silent

-- an event goes out
unfoldable pub sends : Decision → Bool
sends Silent = false
sends Triggered = true
sends Reported = true

-- the timers at the end of the tick
unfoldable pub after : Decision → Rules → Timers → Timers
after Silent r fell = fell
after Triggered r fell = started r
after Reported r fell = started r

-- Where nothing holds it back, an instance sends what it has: the converse of what `Laws` says of every event.
-- Assumes nothing.
use Prim.Native.Nat.{◌%◌, ◌-◌, ◌<◌}
use Rattle.sensor.proofs.Laws.{decision_made}
use Rattle.sensor.specs.Kind.{cause, repeat, rules, taken}
use Rattle.sensor.specs.Movement.{letting, movement_cause, movement_taken, shown}
use Rattle.sensor.specs.Occupancy.{occupancy_cause, occupancy_taken, triggers, waits}
use Rattle.sensor.specs.Tick.{decision_at, taken_kind, valid}
use Rattle.sensor.specs.declared.instance.Instance.{Instance}
use Rattle.sensor.specs.declared.kind.Kind.TheVariants.{Movement, Occupancy}
use Rattle.sensor.specs.declared.movement.Movement.{Movement as MovementState}
use Rattle.sensor.specs.declared.occupancy.Occupancy.{Occupancy as OccupancyState}
use Rattle.sensor.specs.declared.settings.Sample.{Sample}
use Rattle.sensor.specs.declared.settings.Settings.{Settings}
use Rattle.timers.specs.Decision.{decided}
use Rattle.timers.specs.Timers.{due, fallen, fallen_report}
use Rattle.timers.specs.declared.Decision.TheVariants.{Reported, Triggered}
use borrow.Author.Tests.{lt-ltb}
use lib.Bits.{and_le_r, bit_and, bit_or, or_add_and}
use lib.Dec.{eqb}
use mathlib.Core.Bool.{false, true}
use mathlib.Core.Path.{◌≡◌, refl, ◌∙◌}
use native.Mathlib.Omega.{arith}

-- enabled, with a valid sample, and with dead time over
module _ (x : Instance) (on : x.settings.enabled ≡ true) (ready : valid x ≡ true) (over : x.timers.dead ≡ 0) where
  -- a cause of the sensor's own
  pub cause_sends : cause (taken_kind x) x.settings ≡ true → decision_at x ≡ Triggered
  unfolding decided fallen rules
  cause_sends c = decision_made x ∙ rw (c, on, ready, over) refl

  -- a report that is due once the timers have fallen, if the filter lets it out
  pub due_sends : cause (taken_kind x) x.settings ≡ false → due (fallen_report x.timers.report) ≡ true → repeat x.kind x.settings ≡ true → decision_at x ≡ Reported
  unfolding decided fallen rules
  due_sends none d lets = decision_made x ∙ rw (none, d, lets, on, ready, over) refl

-- a trigger of occupancy that waits is a cause, whatever valid sample is taken
pub waiting_cause : (o : OccupancyState) (s : Settings) (held : Sample) → s.enabled ≡ true → eqb held.status 0 ≡ true → 0 < o.waiting → cause (taken (Occupancy o) s held) s ≡ true
unfolding cause taken occupancy_cause occupancy_taken waits
waiting_cause o s held on ready h =
    let came = bit_and (triggers o.value (held.value % 4)) s.filter in
    rw (ready, on, lt-ltb 0 (bit_or o.waiting came) (omega (arith, h, or_add_and o.waiting came, and_le_r o.waiting came)))

-- and so is one of movement, which waits in the presence-based sensor (M-100)
pub waiting_cause_movement : (m : MovementState) (s : Settings) (held : Sample) → s.enabled ≡ true → eqb held.status 0 ≡ true → 0 < m.seen.waiting → cause (taken (Movement m) s held) s ≡ true
unfolding cause taken letting movement_cause movement_taken shown
waiting_cause_movement m s held on ready h = waiting_cause m.seen (letting m s) (shown m held (eqb (m.hold - 1) 0)) on ready h

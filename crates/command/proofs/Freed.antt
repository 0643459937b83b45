-- M-103: what a running dead time held back goes out at the next tick once deadtime is set to 0.
-- Assumes nothing.
use Prim.Native.Nat.{◌<◌}
use Rattle.command.proofs.Laws.{dead_time_ends, retimed_to}
use Rattle.command.specs.Setting.{obeyed}
use Rattle.opcode.specs.declared.Command.TheVariants.{SetDeadtime}
use Rattle.sensor.proofs.Open.{cause_sends, due_sends, waiting_cause, waiting_cause_movement}
use Rattle.sensor.specs.Kind.{cause, repeat}
use Rattle.sensor.specs.Settings.{with_deadtime}
use Rattle.sensor.specs.Tick.{decision_at, taken_kind, valid}
use Rattle.sensor.specs.declared.instance.Instance.{Instance}
use Rattle.sensor.specs.declared.kind.Kind.TheVariants.{Movement, Occupancy}
use Rattle.sensor.specs.declared.movement.Movement.{Movement as MovementState}
use Rattle.sensor.specs.declared.occupancy.Occupancy.{Occupancy as OccupancyState}
use Rattle.timers.specs.Timers.{due, fallen_report}
use Rattle.timers.specs.declared.Decision.TheVariants.{Reported, Triggered}
use mathlib.Core.Bool.{false, true}
use mathlib.Core.Path.{◌≡◌, refl}

-- an instance that is enabled and has a valid sample
module _ (x : Instance) (on : x.settings.enabled ≡ true) (ready : valid x ≡ true) where
  -- once deadtime is 0 and dead time over
  abbrev freed : Instance
  freed = retimed_to x 0 0

  -- a cause of the sensor's own
  pub cause_goes_out : cause (taken_kind freed) freed.settings ≡ true → decision_at (obeyed x SetDeadtime 0) ≡ Triggered
  cause_goes_out c = rw (dead_time_ends x) (cause_sends freed on ready refl c)

  -- so a trigger that waits
  pub trigger_goes_out : (o : OccupancyState) → x.kind ≡ Occupancy o → 0 < o.waiting → decision_at (obeyed x SetDeadtime 0) ≡ Triggered
  trigger_goes_out o e h = cause_goes_out (rw e (waiting_cause o (with_deadtime 0 x.settings) x.held on ready h))

  pub movement_trigger_goes_out : (m : MovementState) → x.kind ≡ Movement m → 0 < m.seen.waiting → decision_at (obeyed x SetDeadtime 0) ≡ Triggered
  movement_trigger_goes_out m e h = cause_goes_out (rw e (waiting_cause_movement m (with_deadtime 0 x.settings) x.held on ready h))

  -- else a report that is due at that tick, if the filter lets it out
  pub due_goes_out : cause (taken_kind freed) freed.settings ≡ false → due (fallen_report x.timers.report) ≡ true → repeat x.kind freed.settings ≡ true → decision_at (obeyed x SetDeadtime 0) ≡ Reported
  due_goes_out none d lets = rw (dead_time_ends x) (due_sends freed on ready refl none d lets)

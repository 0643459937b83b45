-- The first event of an instance comes by its first due report at the latest; so does that of an instance just declared.
-- Assumes nothing.
use Prim.Native.Nat.{ℕ, max, ◌+◌, ◌<◌, ◌≤◌}
use Rattle.demands.proofs.Demand3.SeenFromTimers.{seen}
use Rattle.demands.proofs.Demand3.WindowEvents.{window_events}
use Rattle.demands.proofs.Shared.OneInstance.{run_length}
use Rattle.demands.specs.Alone.{Present}
use Rattle.demands.specs.Happenings.{Call, Happening, log_after, ticks_in}
use Rattle.demands.specs.Window.{R, Start, Undisturbed, device_after, device_before, events, events_of, last, n, rules_of}
use Rattle.device.proofs.Laws.{declared_next, declared_here, declared_length}
use Rattle.device.specs.Device.{instance_at}
use Rattle.device.specs.declared.model.Model.{Model}
use Rattle.sensor.proofs.Fresh.{Fresh, fresh}
use Rattle.sensor.proofs.Reporting.{report_positive}
use Rattle.sensor.specs.Fresh as sensors
use Rattle.sensor.specs.Kind.{repeat, rules}
use Rattle.sensor.specs.declared.sensors.Sensor.{Sensor}
use Rattle.std.specs.Prelude.{Some}
use Rattle.timers.proofs.FirstEvent.{Soon, first_sent}
use Rattle.timers.specs.Pace.{sendings}
use Rattle.timers.specs.Timers.{started_report}
use borrow.Author.Tests.{ne_eqb}
use lib.ListN.{length}
use mathlib.Core.Bool.{true}
use mathlib.Core.List.{List, Memᴰ}
use mathlib.Core.Path.{ap, subst, sym, ◌∙◌, ◌≡◌}
use native.Mathlib.Omega.{arith}

-- of an instance whose report is due in k ticks, and whose dead time is over by then
pub first_run : (i : ℕ) (m : Model) (k : ℕ) → Present i m → (instance_at m i).settings.enabled ≡ true
    → repeat (instance_at m i).kind (instance_at m i).settings ≡ true
    → (instance_at m i).timers.report ≡ Some k → (instance_at m i).timers.dead ≤ k
    → (hs : List Happening) → Undisturbed i m hs → max k 1 ≤ ticks_in hs → Soon m.tick k (events_of i (log_after m hs))
unfolding rules
first_run i m k p on lets e d hs u h =
    let s = seen i m p hs u in
    rw s.events
    (subst (λ t. Soon m.tick k (sendings (rules_of (instance_at m i)) t m.tick s.causes)) (sym timers)
    (first_sent (rules_of (instance_at m i)) on lets (instance_at m i).timers.dead k m.tick s.causes d (omega (arith, s.each_tick))))
  where
    timers : (instance_at m i).timers ≡ record { dead = (instance_at m i).timers.dead; report = Some k }
    timers = λ j. record { dead = (instance_at m i).timers.dead; report = e j }

-- ---- of an instance just declared
module _ {m₀ : Model} {calls : List Call} {i : ℕ} {sensor : Sensor} (s : Start m₀ calls i sensor) where
  room : (device_before s.at).declared < 16
  room = omega (arith, s.next, s.there)

  sixteen : length (device_before s.at).instances ≡ 16
  sixteen = run_length m₀ s.at.before ∙ s.sixteen

  present : Present i (device_after s.at)
  present =
      record {
        declared = omega (arith, s.next, declared_next (device_before s.at) sensor room);
        listed = omega (arith, s.there, sixteen, declared_length (device_before s.at) sensor);
      }

  here : instance_at (device_after s.at) i ≡ sensors.declared sensor
  here = ap (instance_at (device_after s.at)) s.next ∙ declared_here (device_before s.at) sensor sixteen room

  new : Fresh (instance_at (device_after s.at) i)
  new = rw here (fresh sensor)

  timed : (instance_at (device_after s.at) i).timers.report ≡ Some (R (instance_at (device_after s.at) i))
  unfolding started_report rules
  timed = new.report ∙ rw (ne_eqb (instance_at (device_after s.at) i).settings.report 0 (λ e. omega (arith, s.reports.set)))

  positive : 0 < R (instance_at (device_after s.at) i)
  positive = report_positive (instance_at (device_after s.at) i).kind (instance_at (device_after s.at) i).settings s.reports.set

  pub declared_soon : R (instance_at (device_after s.at) i) ≤ n s.at
      → (e : ℕ) × Memᴰ e (events s.at i) × (last s.at < e) × (e ≤ last s.at + R (instance_at (device_after s.at) i))
  declared_soon h =
      let (e, mem, low, high) =
      first_run i (device_after s.at) (R (instance_at (device_after s.at) i)) present new.on s.reports.lets timed (omega (arith, new.dead))
      s.at.during s.undisturbed (omega (arith, positive)) in
      rw (window_events s.at i) (e, mem, low, omega (arith, positive))

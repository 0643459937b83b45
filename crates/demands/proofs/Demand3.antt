-- DEMAND 3: "Take an enabled instance just after one of its events, its report multiplier above 0, its light or Repeat filter bit set, its
-- held sample valid at every tick, no setting command reaching it. D is its dead time in ticks, R the larger of D and its report time.
-- Whatever is sampled and whatever other traffic passes, the next n ticks carried out hold at least n / R and at most n / max(D, 1) of its
-- events, both rounded down, and no n of such ticks leaves a gap above R."
-- (M-105: a pair is the setting command, at its second frame, and a first half ends no window: `pair_sets`, `half_in_window` in `Pairs`.)
-- Assumes nothing.
mod AfterEvent
mod FirstEvent
mod FullSessionWindow
mod HourTable
mod SeenFromTimers
mod WindowEvents
use Prim.Native.Nat.{ℕ, suc, max, ◌+◌, ◌/◌, ◌<◌, ◌≤◌}
use Rattle.demands.proofs.Demand3.AfterEvent.{enabled_after, paced_run, started_after}
use Rattle.demands.proofs.Demand3.FirstEvent.{declared_soon, first_run}
use Rattle.demands.proofs.Demand3.HourTable.{hour_at_least, hour_at_most, hour_gap}
use Rattle.demands.proofs.Demand3.WindowEvents.{window_events}
use Rattle.demands.specs.Alone.{Present}
use Rattle.demands.specs.Happenings.{Call, Happening, bytes_written, log_after, ticks_in}
use Rattle.demands.specs.Window.{D, R, Start, Undisturbed, Window, device_after, events, events_of, last, n, rules_of}
use Rattle.device.specs.Device.{instance_at}
use Rattle.device.specs.declared.model.Model.{Model}
use Rattle.hours.specs.Table.{before, events_in, gap_in}
use Rattle.record.specs.Log.{decoded}
use Rattle.sensor.specs.Kind.{repeat, rules, units}
use Rattle.sensor.specs.declared.instance.Instance.{Instance}
use Rattle.sensor.specs.declared.colour.Colour as colours
use Rattle.sensor.specs.declared.kind.Kind.TheVariants.{Colour, Light}
use Rattle.sensor.specs.declared.light.Light as lights
use Rattle.sensor.specs.declared.sensors.Sensor.{Sensor}
use Rattle.std.specs.Prelude.{Some}
use Rattle.timers.proofs.Pace.{hour_255_255, hour_30_600}
use Rattle.timers.specs.Pace.{Paced}
use Rattle.timers.specs.Timers.{dead_time, report_time, started}
use lib.ListN.{length}
use mathlib.Core.Bool.{true}
use mathlib.Core.List.{List, Memᴰ}
use mathlib.Core.Path.{subst, ◌≡◌}

-- From any model, over any calls: a tick of them logged an event of instance i, and what they carried out after it is the window. That the
-- instance is enabled then, and its timers started, follows. `Paced` says the two counts and the gaps, of the EV records of i that stand
-- in the bytes of the log with a tick number above `last` (that of the tick with the event) and up to `last` + n; n is the number of ticks
-- carried out in the window, also where the output ran out in the midst of a TK. D and R are those of the instance just after its event.
module _ {m₀ : Model} {calls : List Call} {i : ℕ} (w : Window m₀ calls i) where
  abbrev x : Instance
  x = instance_at (device_after w.at) i

  -- "an enabled instance just after one of its events"
  pub enabled : x.settings.enabled ≡ true
  enabled = enabled_after i _ w.event

  pub timers_started : x.timers ≡ started (rules_of x)
  timers_started = started_after i _ w.event

  pub demand_3 : Paced (D x) (R x) (last w.at) (n w.at) (events w.at i)
  demand_3 = rw (window_events w.at i) (paced_run i _ w.event w.reports w.at.during w.undisturbed)

  -- "the next n ticks carried out hold at least n / R"
  pub at_least : n w.at / R x ≤ length (events w.at i)
  at_least = demand_3.at_least

  -- "and at most n / max(D, 1) of its events, both rounded down"
  pub at_most : length (events w.at i) ≤ n w.at / max (D x) 1
  at_most = demand_3.at_most

  -- "and no n of such ticks leaves a gap above R": any R ticks in a row, those above a up to a + R, hold one of its events
  pub gapless : (a : ℕ) → last w.at ≤ a → a + R x ≤ last w.at + n w.at → (e : ℕ) × Memᴰ e (events w.at i) × (a < e) × (e ≤ a + R x)
  gapless = demand_3.gapless

  -- M-106: demand 3 read off the hour table, in an hour that lies whole in the window; it need not begin at an event, hence the one more
  module _ (k : ℕ) (starts : last w.at ≤ before k) (ends : before (suc k) ≤ last w.at + n w.at) where
    pub table_at_least : 72000 / R x ≤ events_in i k (decoded (bytes_written m₀ calls))
    table_at_least = hour_at_least w k starts ends

    pub table_at_most : events_in i k (decoded (bytes_written m₀ calls)) ≤ 71999 / max (D x) 1 + 1
    table_at_most = hour_at_most w k starts ends

    pub table_gap : gap_in i k (decoded (bytes_written m₀ calls)) ≤ R x
    table_gap = hour_gap w k starts ends

  -- "Over 72,000 ticks (an hour) demand 3 gives light defaults 120 to 2,400"
  pub hour_of_defaults : {l : lights.Light} → x.kind ≡ Light l → x.settings.deadtime ≡ 30 → x.settings.report ≡ 30 → n w.at ≡ 72000
      → (120 ≤ length (events w.at i)) × (length (events w.at i) ≤ 2400)
  unfolding dead_time report_time rules units
  hour_of_defaults k d r e =
      hour_30_600 (last w.at) (events w.at i)
      (subst (λ t. Paced 30 600 (last w.at) t (events w.at i)) e (rw (k, d, r) at demand_3))

  -- M-104: "Demand 3 covers type 5 where its filter lets the report go out". Over an hour its defaults give 24 to 2,400
  pub hour_of_colour : {c : colours.Colour} → x.kind ≡ Colour c → x.settings.deadtime ≡ 30 → x.settings.report ≡ 30 → n w.at ≡ 72000
      → (24 ≤ length (events w.at i)) × (length (events w.at i) ≤ 2400)
  unfolding dead_time report_time rules units
  hour_of_colour k d r e =
      let paced : Paced 30 3000 (last w.at) 72000 (events w.at i) =
      subst (λ t. Paced 30 3000 (last w.at) t (events w.at i)) e (rw (k, d, r) at demand_3) in
      (paced.at_least, paced.at_most)

  -- "report 1 with deadtime 255 exactly 282"
  pub hour_of_282 : {l : lights.Light} → x.kind ≡ Light l → x.settings.deadtime ≡ 255 → x.settings.report ≡ 1 → n w.at ≡ 72000
      → length (events w.at i) ≡ 282
  unfolding dead_time report_time rules units
  hour_of_282 k d r e =
      hour_255_255 (last w.at) (events w.at i)
      (subst (λ t. Paced 255 255 (last w.at) t (events w.at i)) e (rw (k, d, r) at demand_3))

-- What shuts out a log without events: an instance just declared, under the same premises, sends its first event by its first due report,
-- R ticks on, at the latest. (Light reports as it is declared; the Repeat filter bit of occupancy is 0 until a command sets it.)
module _ {m₀ : Model} {calls : List Call} {i : ℕ} {sensor : Sensor} (s : Start m₀ calls i sensor) where
  abbrev declared : Instance
  declared = instance_at (device_after s.at) i

  pub first_event : R declared ≤ n s.at → (e : ℕ) × Memᴰ e (events s.at i) × (last s.at < e) × (e ≤ last s.at + R declared)
  first_event h = declared_soon s h

-- The same from any model: an enabled instance whose report is due in k ticks, and whose dead time is over by then, sends within k ticks (one
-- at least), whatever happens but a setting command for it.
pub first_due : (i : ℕ) (m : Model) (k : ℕ) → Present i m → (instance_at m i).settings.enabled ≡ true
    → repeat (instance_at m i).kind (instance_at m i).settings ≡ true
    → (instance_at m i).timers.report ≡ Some k → (instance_at m i).timers.dead ≤ k → (hs : List Happening) → Undisturbed i m hs → max k 1 ≤ ticks_in hs
    → (e : ℕ) × Memᴰ e (events_of i (log_after m hs)) × (m.tick < e) × (e ≤ m.tick + max k 1)
first_due = first_run

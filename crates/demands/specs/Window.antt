-- Demand 3: the events of an instance in a log, and the window of ticks after one of them.
-- Assumes nothing.
unfoldable pub use Rattle.hours.specs.Events.{between, events_of}
use Rattle.std.specs.Prelude.{ℕ, ◌+◌, ◌<◌, eqb, length, Bool, false, true, ◌&&◌, List, [], ◌++◌, ◌∷◌, ◌≡◌}
use Rattle.demands.specs.Happenings.{Call, Happening, bytes_written, carried_out, declare, frame, happen, hold, model_after, tick, ticks_in}
use Rattle.device.specs.Device.{instance_at}
use Rattle.device.specs.Frame.{again, counts, sets}
use Rattle.device.specs.declared.model.Model.{Model}
use Rattle.record.specs.Log.{decoded}
use Rattle.sensor.specs.Kind.{repeat, rules}
use Rattle.sensor.specs.Tick.{valid}
use Rattle.sensor.specs.declared.instance.Instance.{Instance}
use Rattle.sensor.specs.declared.sensors.Sensor.{Sensor}
use Rattle.ticks.specs.Tick.{tick_log}
use Rattle.timers.specs.Timers.{dead_time, report_time}
use Rattle.timers.specs.declared.Rules.{Rules}

-- ticks that rise strictly, all above `last`
abbrev pub Climbs : (last : ℕ) → List ℕ → Type 0
Climbs last [] = Unit {0}
Climbs last (t ∷ ts) = (last < t) × Climbs t ts

-- ---- times of an instance, in ticks: D is its dead time, R the larger of D and its report time
abbrev pub rules_of : Instance → Rules
rules_of x = rules x.kind x.settings

abbrev pub D : Instance → ℕ
D x = dead_time (rules_of x)

abbrev pub R : Instance → ℕ
R x = report_time (rules_of x)

-- ---- "its held sample valid at every tick, no setting command reaching it"
-- a frame that counts for instance i, is the repeat, and means a setting command to it. M-105: "a pair counts as the setting command, at its second
-- frame, wherever the first one lies"; that is where the device remembers it from, and `Pairs` has it in words of what happened
abbrev pub sets_it : (i : ℕ) → Model → (first second third : ℕ) → Bool
sets_it i m first second third = (counts m first second && eqb second i) && (again m first second third && sets m i third)

abbrev pub Calm : (i : ℕ) → Model → Happening → Type 0
Calm i m (declare sensor) = Unit {0}
Calm i m (hold j sample) = Unit {0}
Calm i m (frame first second third) = sets_it i m first second third ≡ false
Calm i m tick = valid (instance_at m i) ≡ true

abbrev pub Undisturbed : (i : ℕ) → Model → List Happening → Type 0
Undisturbed i m [] = Unit {0}
Undisturbed i m (h ∷ hs) = Calm i m h × Undisturbed i (happen m h) hs

-- "its report multiplier above 0, its light or Repeat filter bit set"
pub record Reports (x : Instance) : Type 0 where
  pub set : 0 < x.settings.report
  pub lets : repeat x.kind x.settings ≡ true

-- ---- a window: what the calls carried out, cut after one happening and again some time later
pub record Cut (m₀ : Model) (calls : List Call) (h : Happening) : Type 0 where
  pub before : List Happening
  pub during : List Happening
  pub later : List Happening
  pub cut : carried_out m₀ calls ≡ before ++ (h ∷ (during ++ later))

module _ {m₀ : Model} {calls : List Call} {h : Happening} (c : Cut m₀ calls h) where
  -- the device before the happening and just after it, with its tick number, and the ticks of the window
  abbrev pub device_before : Model
  device_before = model_after m₀ c.before

  abbrev pub device_after : Model
  device_after = happen device_before h

  abbrev pub last : ℕ
  last = device_after.tick

  abbrev pub n : ℕ
  n = ticks_in c.during

  -- the ticks of the window that hold an EV record of instance i in the bytes of the log
  abbrev pub events : (i : ℕ) → List ℕ
  events i = between last (last + n) (events_of i (decoded (bytes_written m₀ calls)))

-- the window after a tick that logged an event of instance i
pub record Window (m₀ : Model) (calls : List Call) (i : ℕ) : Type 0 where
  pub at : Cut m₀ calls tick
  pub event : 0 < length (events_of i (tick_log (device_before at)))
  pub reports : Reports (instance_at (device_after at) i)
  pub undisturbed : Undisturbed i (device_after at) at.during

-- the window after a declaration of instance i
pub record Start (m₀ : Model) (calls : List Call) (i : ℕ) (sensor : Sensor) : Type 0 where
  pub at : Cut m₀ calls (declare sensor)
  pub next : i ≡ (device_before at).declared
  pub there : i < 16
  pub sixteen : length m₀.instances ≡ 16
  pub reports : Reports (instance_at (device_after at) i)
  pub undisturbed : Undisturbed i (device_after at) at.during

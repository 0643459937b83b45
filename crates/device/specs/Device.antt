-- Document 01, "The bench model" and "Session and log records", with M-105: the device, declarations and samples.
-- Assumes nothing.
use Rattle.std.specs.Prelude.{ℕ, ◌+◌, leb, ltb, get_or, length, replicate, set, take, Bool, cond, false, true, ◌&&◌, List, Option, None, Some, Result, Ok, Err, ◌≡◌}
use Rattle.device.specs.declared.model.Full.{Full}
use Rattle.device.specs.declared.model.Model.{Model}
use Rattle.device.specs.declared.pairs.First.{First}
use Rattle.record.specs.Log.{Logged, bytes_of}
use Rattle.record.specs.Put.{Appended}
use Rattle.sensor.specs.Fresh as sensors
use Rattle.sensor.specs.Kind.{allows}
use Rattle.sensor.specs.Tick.{holding}
use Rattle.sensor.specs.declared.instance.Instance.{Instance}
use Rattle.sensor.specs.declared.sensors.Sensor.TheVariants.{Light}
use Rattle.sensor.specs.declared.sensors.Sensor.{Sensor}
use Rattle.sensor.specs.declared.settings.Sample.{Sample}

-- ---- the model with one part changed: only these list every part, and other definitions compose them
abbrev pub with_tick : ℕ → Model → Model
with_tick tick m = record { tick = tick; last = m.last; dtr0 = m.dtr0; declared = m.declared; running = m.running; remembered = m.remembered; instances = m.instances }

-- M-106: the last tick that may be reached
abbrev pub with_last : ℕ → Model → Model
with_last last m = record { tick = m.tick; last = last; dtr0 = m.dtr0; declared = m.declared; running = m.running; remembered = m.remembered; instances = m.instances }

abbrev pub with_dtr0 : ℕ → Model → Model
with_dtr0 dtr0 m = record { tick = m.tick; last = m.last; dtr0 = dtr0; declared = m.declared; running = m.running; remembered = m.remembered; instances = m.instances }

abbrev pub with_declared : ℕ → Model → Model
with_declared n m = record { tick = m.tick; last = m.last; dtr0 = m.dtr0; declared = n; running = m.running; remembered = m.remembered; instances = m.instances }

abbrev pub with_instances : List Instance → Model → Model
with_instances xs m = record { tick = m.tick; last = m.last; dtr0 = m.dtr0; declared = m.declared; running = m.running; remembered = m.remembered; instances = xs }

-- a record that is no declaration was taken, and declarations are over
abbrev pub under_way : Model → Model
under_way m = record { tick = m.tick; last = m.last; dtr0 = m.dtr0; declared = m.declared; running = true; remembered = m.remembered; instances = m.instances }

-- M-105: the first frame of a pair that is remembered, or nothing
abbrev pub with_remembered : Option First → Model → Model
with_remembered first m = record { tick = m.tick; last = m.last; dtr0 = m.dtr0; declared = m.declared; running = m.running; remembered = first; instances = m.instances }

-- the model at the start: tick 0, any tick number may be reached, DTR0 0, no instance declared, no frame remembered
unfoldable pub fresh : Model
fresh = record { tick = 0; last = 4294967295; dtr0 = 0; declared = 0; running = false; remembered = None; instances = replicate 16 (sensors.declared (Light 1)) }

-- ---- who is declared
unfoldable pub known : Model → (i : ℕ) → Bool
known m i = ltb i m.declared && ltb i 16

-- instance i, and what stands where there is none
unfoldable pub instance_at : Model → (i : ℕ) → Instance
instance_at m i = get_or m.instances i sensors.blank

-- instance i where it is declared
unfoldable pub instance_of : Model → (i : ℕ) → Option Instance
instance_of m i = cond (known m i) (Some (instance_at m i)) None

-- the declared instances, by their numbers
unfoldable pub declared_instances : Model → List Instance
declared_instances m = take m.declared m.instances

-- instance i, as something leaves it
abbrev pub with_instance : (i : ℕ) → Instance → Model → Model
with_instance i x m = with_instances (set m.instances i x) m

-- a declaration: the next instance is that sensor; there is no seventeenth
unfoldable pub declared_model : Model → Sensor → Model
declared_model m sensor =
    cond (ltb m.declared 16)
    (with_declared (m.declared + 1) (with_instance m.declared (sensors.declared sensor) m))
    m

-- the sample is one that instance i's type takes; of an instance that there cannot be, none is
unfoldable pub allowed : Model → (i : ℕ) → Sample → Bool
allowed m i sample = cond (ltb i 16) (allows (instance_at m i).kind sample) false

-- SA: instance i holds the sample
unfoldable pub held_model : Model → (i : ℕ) → Sample → Model
held_model m i sample = under_way (with_instance i (holding (instance_at m i) sample) m)

-- what came of a change that logs: the device after it, the bytes written, and whether its records fit
pub record Offered : Type 0 where
  pub model : Model
  pub written : ℕ
  pub fits : Bool

-- a change that logs is taken where its records fit, whole, in the room that is left; else nothing changes
unfoldable pub offered : Model → (after : Model) → (log : List Logged) → (room : ℕ) → Offered
offered m after log room =
    cond (leb (length (bytes_of log)) room)
    (record { model = after; written = length (bytes_of log); fits = true })
    (record { model = m; written = 0; fits = false })

-- what came of it, by the device after it and what is handed back: the bytes written, or that they do not fit
abbrev pub came : Model → Result ℕ Full → Offered
came m (Ok written) = record { model = m; written = written; fits = true }
came m (Err full) = record { model = m; written = 0; fits = false }

-- the change was offered to the output's tail: the device is m' then, the tail tail', and r is handed back
pub record Comes (m after : Model) (log : List Logged) (m' : Model) (r : Result ℕ Full) (tail tail' : List ℕ) : Type 0 where
  pub taken : came m' r ≡ offered m after log (length tail)
  pub appended : Appended 0 (bytes_of log) tail tail' (came m' r).written

-- bytes alone, so
abbrev pub count : Result ℕ Full → ℕ
count (Ok written) = written
count (Err full) = 0

pub record Fits (bytes : List ℕ) (r : Result ℕ Full) (tail tail' : List ℕ) : Type 0 where
  pub whole : r ≡ cond (leb (length bytes) (length tail)) (Ok (length bytes)) (Err (record {}))
  pub appended : Appended 0 bytes tail tail' (count r)

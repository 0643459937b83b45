-- Document 01, "Session and log records" and "Numbers given when a record is not taken", with M-106, M-107 and M-110: the record at the front of what is left of a
-- session, and every refusal but 9. Order: mark present (2), mark known (1), record whole (2), then the record's own numbers rising.
-- Assumes nothing.
use Rattle.std.specs.Prelude.{ℕ, ◌+◌, ◌-◌, ◌<◌, ◌^◌, ◌≤◌, eqb, ltb, length, cond, not, ◌||◌, List, Err, None, Ok, Option, Result, Some}
use Rattle.device.specs.Device.{allowed, instance_at, known}
use Rattle.device.specs.declared.model.Model.{Model}
use Rattle.judging.specs.Declaring.{declared_by}
use Rattle.judging.specs.declared.asked.Asked.TheVariants.{Declare, Frame, Hold, Ticks}
use Rattle.judging.specs.declared.asked.Asked.{Asked}
use Rattle.judging.specs.declared.asked.Refusal.TheVariants.{BadSample, BeyondTable, Cut, LateOrSkipped, NoSuchSensor, NoTicks, NotReadyAgain, TimeOver, Undeclared, UnknownMark}
use Rattle.judging.specs.declared.asked.Refusal.{Refusal}
use Rattle.record.specs.Marks.{mark_of, mark_size}
use Rattle.record.specs.Numbers.{byte, triple, word}
use Rattle.record.specs.declared.marks.Mark.TheVariants.{Bus, Declaration, Measurement, Time}
use Rattle.record.specs.declared.marks.Mark.{Mark}
use Rattle.sensor.specs.Tick.{goes_back}
use Rattle.sensor.specs.declared.sensors.Sensor.{Sensor}
use Rattle.sensor.specs.declared.settings.Sample.{Sample}

-- a declaration: instance number, type, resolution; what it declares goes by its mark too
abbrev pub declared_in : List ℕ → Option Sensor
declared_in rest = declared_by (word rest 0) (byte rest 3) (byte rest 4)

abbrev pub sensor_asked : Option Sensor → Result Asked Refusal
sensor_asked None = Err NoSuchSensor
sensor_asked (Some sensor) = Ok (Declare sensor)

unfoldable pub declare_asked : List ℕ → Model → Result Asked Refusal
declare_asked rest m =
    cond (ltb (length rest) (mark_size Declaration)) (Err Cut)
    (cond (m.running || not (eqb (byte rest 2) m.declared)) (Err LateOrSkipped)
    (cond (ltb (byte rest 2) 16) (sensor_asked (declared_in rest)) (Err NoSuchSensor)))

-- SA: instance, status, value
abbrev pub sample_in : List ℕ → Sample
sample_in rest = record { status = byte rest 3; value = triple rest 4 }

unfoldable pub sample_asked : List ℕ → Model → Result Asked Refusal
sample_asked rest m =
    cond (ltb (length rest) (mark_size Measurement)) (Err Cut)
    (cond (known m (byte rest 2))
    (cond (allowed m (byte rest 2) (sample_in rest))
    (cond (goes_back (instance_at m (byte rest 2)) (sample_in rest)) (Err NotReadyAgain) (Ok (Hold (byte rest 2) (sample_in rest))))
    (Err BadSample))
    (Err Undeclared))

-- FR: the three frame bytes
unfoldable pub frame_asked : List ℕ → Result Asked Refusal
frame_asked rest = cond (ltb (length rest) (mark_size Bus)) (Err Cut) (Ok (Frame (byte rest 2) (byte rest 3) (byte rest 4)))

-- TK: tick count
unfoldable pub ticks_asked : List ℕ → Model → Result Asked Refusal
ticks_asked rest m =
    cond (ltb (length rest) (mark_size Time)) (Err Cut)
    (cond (eqb (word rest 2) 0) (Err NoTicks)
    (cond (ltb (4294967295 - m.tick) (word rest 2)) (Err TimeOver)
    (cond (ltb m.last (m.tick + word rest 2)) (Err BeyondTable) (Ok (Ticks (word rest 2))))))

unfoldable pub asked_by : Option Mark → List ℕ → Model → Result Asked Refusal
asked_by None rest m = Err UnknownMark
asked_by (Some Declaration) rest m = declare_asked rest m
asked_by (Some Measurement) rest m = sample_asked rest m
asked_by (Some Bus) rest m = frame_asked rest
asked_by (Some Time) rest m = ticks_asked rest m

unfoldable pub asked : List ℕ → Model → Result Asked Refusal
asked rest m = cond (ltb (length rest) 2) (Err Cut) (asked_by (mark_of (word rest 0)) rest m)

-- the size of a record that is taken
unfoldable pub size_of : Result Asked Refusal → ℕ
size_of (Err why) = 0
size_of (Ok (Declare sensor)) = mark_size Declaration
size_of (Ok (Hold i sample)) = mark_size Measurement
size_of (Ok (Frame first second third)) = mark_size Bus
size_of (Ok (Ticks n)) = mark_size Time

-- what is asked for is whole, there is the instance that it names, and its ticks can be counted
abbrev pub Sound : List ℕ → Model → Result Asked Refusal → Type 0
Sound rest m (Err why) = Unit {0}
Sound rest m (Ok (Declare sensor)) = mark_size Declaration ≤ length rest
Sound rest m (Ok (Hold i sample)) = (mark_size Measurement ≤ length rest) × (i < 16)
Sound rest m (Ok (Frame first second third)) = mark_size Bus ≤ length rest
Sound rest m (Ok (Ticks n)) = (mark_size Time ≤ length rest) × (m.tick + n < 2 ^ 32)

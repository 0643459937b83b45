-- Document 01, "Numbers given when a record is not taken", with M-104, M-106, M-107 and M-110: the table, each row as a condition on what is left of a session and on the model.
-- Order: mark present (2), mark known (1), record whole (2), then the record's own numbers in rising order. And "Session and log records": the
-- four kinds of a session's records.
-- Assumes nothing.
use Rattle.std.specs.Prelude.{ℕ, ◌+◌, ◌-◌, ◌<◌, ◌^◌, ◌≤◌, eqb, drop, length, replicate, take, Bool, false, true, ◌&&◌, ◌||◌, List, [], ◌++◌, ◌∷◌, ◌≢◌, ◌⊎◌, ◌≡◌}
use Rattle.demands.specs.Happenings.{Happening, declare, frame, hold, log_after, model_after, tick}
use Rattle.device.specs.Device.{instance_at}
use Rattle.device.specs.declared.model.Model.{Model}
use Rattle.judging.specs.Asked.{asked, sample_in}
use Rattle.judging.specs.Refusals.{number_of}
use Rattle.judging.specs.declared.asked.Refusal.TheVariants.{BadSample, BeyondTable, Cut, Full, LateOrSkipped, NoSuchSensor, NoTicks, NotReadyAgain, TimeOver, Undeclared, UnknownMark}
use Rattle.judging.specs.declared.asked.Refusal.{Refusal}
use Rattle.record.specs.Log.{Logged, bytes_of}
use Rattle.record.specs.Marks as marks
use Rattle.record.specs.Marks.{mark_size}
use Rattle.record.specs.Numbers.{byte, word}
use Rattle.record.specs.declared.marks.Mark.TheVariants.{Bus, Declaration, Measurement, Time}
use Rattle.rgb.specs.Colour.{b_value, g_value, r_value}
use Rattle.sensor.specs.declared.instance.Instance.{Instance}
use Rattle.sensor.specs.declared.kind.Kind.TheVariants.{Colour, Light, Movement, Occupancy}
use Rattle.sensor.specs.declared.kind.Kind.{Kind}
use Rattle.sensor.specs.declared.sensors.Sensor.TheVariants as sensors
use Rattle.sensor.specs.declared.sensors.Sensor.{Sensor}
use Rattle.sensor.specs.declared.settings.Sample.{Sample}
use Rattle.session.specs.Session.{End, refused, session, step}
use Rattle.ticks.specs.Tick.{tick_log}

-- ---- marks: the two letters at the front
abbrev pub Marked : (letters : ℕ) → List ℕ → Type 0
Marked letters rest = (2 ≤ length rest) × (word rest 0 ≡ letters)

abbrev pub IN : List ℕ → Type 0
IN rest = Marked marks.IN rest

abbrev pub LO : List ℕ → Type 0
LO rest = Marked marks.LO rest

abbrev pub IM : List ℕ → Type 0
IM rest = Marked marks.IM rest

-- M-107, M-100: IN, LO and IM are one kind of record
abbrev pub Declaring : List ℕ → Type 0
Declaring rest = IN rest ⊎ LO rest ⊎ IM rest

abbrev pub SA : List ℕ → Type 0
SA rest = Marked marks.SA rest

abbrev pub FR : List ℕ → Type 0
FR rest = Marked marks.FR rest

abbrev pub TK : List ℕ → Type 0
TK rest = Marked marks.TK rest

-- what a declaration names, by its mark, its type and its resolution
abbrev pub Names : List ℕ → Sensor → Type 0
Names rest sensors.Occupancy = IN rest × (byte rest 3 ≡ 3) × (byte rest 4 ≡ 2)
Names rest (sensors.Light resolution) = IN rest × (byte rest 3 ≡ 4) × (byte rest 4 ≡ resolution) × (1 ≤ resolution) × (resolution ≤ 24)
Names rest (sensors.LightOf2017 resolution) = LO rest × (byte rest 3 ≡ 4) × (byte rest 4 ≡ resolution) × (1 ≤ resolution) × (resolution ≤ 24)
Names rest sensors.Movement = IM rest × (byte rest 3 ≡ 3) × (byte rest 4 ≡ 2)
Names rest sensors.Colour = IN rest × (byte rest 3 ≡ 5) × (byte rest 4 ≡ 24)

-- ---- the four kinds: the record at the front of `rest` by its mark, its size, and what it tells of
pub data Front (rest : List ℕ) : (size : ℕ) → List Happening → Type 0 where
  -- IN, LO, IM: instance number, type, resolution
  declares : (sensor : Sensor) → Names rest sensor → Front rest (mark_size Declaration) (declare sensor ∷ [])
  -- SA: instance, status, value (3 bytes)
  holds : SA rest → Front rest (mark_size Measurement) (hold (byte rest 2) (sample_in rest) ∷ [])
  -- FR: the three frame bytes
  frames : FR rest → Front rest (mark_size Bus) (frame (byte rest 2) (byte rest 3) (byte rest 4) ∷ [])
  -- TK: tick count (2 bytes)
  passes : TK rest → Front rest (mark_size Time) (replicate (word rest 2) tick)

-- ---- the conditions of the rows
-- "IN after a record of another kind, or its number isn't the next"
abbrev pub Late : List ℕ → Model → Type 0
Late rest m = (m.running ≡ true) ⊎ (byte rest 2 ≢ m.declared)

-- "IN number 16 or above; type not 3 or 4; type 3 with resolution not 2; type 4 with resolution outside 1 to 24"; M-107: "LO obeys refusals 3
-- and 4 as IN, any type but 4 being 4"; M-100: "IM counts as IN in refusals 3 and 4, any type but 3 being 4"; M-104: "type 5 with another
-- resolution is 4", with IN, which has type 5 beside 3 and 4
abbrev pub NoSensor : List ℕ → Type 0
NoSensor rest =
    (16 ≤ byte rest 2)
    ⊎ (IN rest × (byte rest 3 ≢ 3) × (byte rest 3 ≢ 4) × (byte rest 3 ≢ 5)) ⊎ (LO rest × (byte rest 3 ≢ 4)) ⊎ (IM rest × (byte rest 3 ≢ 3))
    ⊎ ((byte rest 3 ≡ 3) × (byte rest 4 ≢ 2))
    ⊎ ((byte rest 3 ≡ 4) × ((byte rest 4 < 1) ⊎ (24 < byte rest 4)))
    ⊎ ((byte rest 3 ≡ 5) × (byte rest 4 ≢ 24))

-- an instance that is declared; there are at most sixteen
abbrev pub Declared : Model → (i : ℕ) → Type 0
Declared m i = (i < m.declared) × (i < 16)

-- "Sample status: 0 valid, 1 not ready (type 4 only), 2 physical failure. Light value with status 0: 0 to 2^resolution - 2. Occupancy: 0 to 3.
-- With status 1 or 2 the value must be 0." And M-100: "bit 1 of a movement sample is number 6"; M-104: "a channel of 255 is 6;
-- status 1 is allowed"
abbrev pub Allowed : Kind → Sample → Type 0
Allowed (Light l) sample =
    ((sample.status ≡ 0) × (sample.value + 2 ≤ 2 ^ l.resolution))
    ⊎ ((sample.status ≡ 1) × (sample.value ≡ 0)) ⊎ ((sample.status ≡ 2) × (sample.value ≡ 0))
Allowed (Occupancy o) sample = ((sample.status ≡ 0) × (sample.value ≤ 3)) ⊎ ((sample.status ≡ 2) × (sample.value ≡ 0))
Allowed (Movement m) sample = ((sample.status ≡ 0) × (sample.value ≤ 1)) ⊎ ((sample.status ≡ 2) × (sample.value ≡ 0))
Allowed (Colour c) sample =
    ((sample.status ≡ 0) × ((r_value sample.value ≤ 254) × (g_value sample.value ≤ 254) × (b_value sample.value ≤ 254)))
    ⊎ ((sample.status ≡ 1) × (sample.value ≡ 0)) ⊎ ((sample.status ≡ 2) × (sample.value ≡ 0))

-- M-110: "status 1 after a valid sample .. a failure between or not"
abbrev pub GoesBack : Instance → Sample → Type 0
GoesBack x sample = (x.measured ≡ true) × (sample.status ≡ 1)

-- what happened is a valid sample for instance i: an SA with status 0 that was taken
abbrev pub measures : (i : ℕ) → Happening → Bool
measures i (declare sensor) = false
measures i (hold j sample) = eqb j i && eqb sample.status 0
measures i (frame first second third) = false
measures i tick = false

-- one of what happened is
unfoldable pub measured_in : (i : ℕ) → List Happening → Bool
measured_in i [] = false
measured_in i (h ∷ hs) = measures i h || measured_in i hs

-- ---- the table: the record at the front of `rest` is refused so, in a device m
abbrev pub Given : Refusal → List ℕ → Model → Type 0
-- 1: mark unknown
Given UnknownMark rest m = (2 ≤ length rest) × (IN rest → ⊥) × (LO rest → ⊥) × (IM rest → ⊥) × (SA rest → ⊥) × (FR rest → ⊥) × (TK rest → ⊥)
-- 2: fewer bytes remain than the mark, or the record, needs
Given Cut rest m =
    (length rest < 2)
    ⊎ (Declaring rest × (length rest < mark_size Declaration)) ⊎ (SA rest × (length rest < mark_size Measurement))
    ⊎ (FR rest × (length rest < mark_size Bus)) ⊎ (TK rest × (length rest < mark_size Time))
-- 3: IN, LO or IM after a record of another kind, or its number isn't the next, from 0
Given LateOrSkipped rest m = Declaring rest × (mark_size Declaration ≤ length rest) × Late rest m
-- 4: no such sensor
Given NoSuchSensor rest m = Declaring rest × (mark_size Declaration ≤ length rest) × (Late rest m → ⊥) × NoSensor rest
-- 5: SA for an undeclared instance
Given Undeclared rest m = SA rest × (mark_size Measurement ≤ length rest) × (Declared m (byte rest 2) → ⊥)
-- 6: SA status or value not allowed
Given BadSample rest m =
    SA rest × (mark_size Measurement ≤ length rest) × Declared m (byte rest 2) × (Allowed (instance_at m (byte rest 2)).kind (sample_in rest) → ⊥)
-- 7: TK count 0
Given NoTicks rest m = TK rest × (mark_size Time ≤ length rest) × (word rest 2 ≡ 0)
-- 8: tick number would pass 4,294,967,295
Given TimeOver rest m = TK rest × (mark_size Time ≤ length rest) × (word rest 2 ≢ 0) × (4294967295 < m.tick + word rest 2)
-- 9 is a matter of the output that is left, and not of the record alone
Given Full rest m = ⊥
-- 10, for TK only, after 7 and 8: a tick beyond the last that may be reached
Given BeyondTable rest m =
    TK rest × (mark_size Time ≤ length rest) × (word rest 2 ≢ 0) × (m.tick + word rest 2 ≤ 4294967295) × (m.last < m.tick + word rest 2)
-- 13, for SA only, after 5 and 6: status 1 for an instance that has had a valid sample
Given NotReadyAgain rest m =
    SA rest × (mark_size Measurement ≤ length rest) × Declared m (byte rest 2) × Allowed (instance_at m (byte rest 2)).kind (sample_in rest)
    × GoesBack (instance_at m (byte rest 2)) (sample_in rest)

-- no row of the table refuses it
abbrev pub NoneGiven : List ℕ → Model → Type 0
NoneGiven rest m = (why : Refusal) → Given why rest m → ⊥

-- ---- 9: "the records of one tick, or one answer, don't fit in the output that is left"
abbrev pub NoRoom : (room : ℕ) → (log more : List Logged) → Type 0
NoRoom room log more = room - length (bytes_of log) < length (bytes_of more)

-- after t ticks from m with `log` written: the model, the log, and that the records of the next tick do not fit
abbrev pub ticked_model : (t : ℕ) → Model → Model
ticked_model t m = model_after m (replicate t tick)

abbrev pub ticked_log : (t : ℕ) → Model → List Logged → List Logged
ticked_log t m log = log ++ log_after m (replicate t tick)

abbrev pub NoRoomAfter : (t room : ℕ) → Model → List Logged → Type 0
NoRoomAfter t room m log = NoRoom room (ticked_log t m log) (tick_log (ticked_model t m))

-- and that those of each of the t ticks did
abbrev pub Fitted : (t room : ℕ) → Model → List Logged → Type 0
Fitted t room m log = (s : ℕ) → s < t → NoRoomAfter s room m log → ⊥

-- ---- where a reading leaves off: the bytes before the refused record are taken whole and leave a model and a log; from there the record at
-- the offset is refused
pub record LeftOff (m : Model) (xs : List ℕ) (room : ℕ) (r : End) : Type 0 where
  pub why : Refusal
  pub model : Model
  pub log : List Logged
  pub before : session m (take r.offset xs) room ≡ record { model = model; number = 0; offset = r.offset; ticks = 0; log = log }
  pub refuses : step (asked (drop r.offset xs) model) room model log ≡ refused why r.ticks r.model r.log
  pub numbered : r.number ≡ number_of why

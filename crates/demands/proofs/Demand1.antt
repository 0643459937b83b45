-- DEMAND 1: "Any bytes may be given as a session. The reading ends, and a refused record changes nothing in the model and no output byte.
-- Refusal 9 alone comes per tick: earlier ticks of that record stand, the tick that found no room does nothing."
-- Assumes nothing.
mod Bounds
mod LastTick
mod NumberNine
mod PrefixLaw
mod RefusedRecord
mod Remembered
mod TableInSessions
mod TableOfNumbers
mod Tells
use Prim.Native.Nat.{ℕ, ◌<◌, ◌≤◌}
use Rattle.demands.proofs.Demand1.Bounds.{bounded}
use Rattle.demands.proofs.Demand1.LastTick.{log_within, never_10, session_last, session_reaches}
use Rattle.demands.proofs.Demand1.NumberNine.{answer_full, full_tick, tick_full}
use Rattle.demands.proofs.Demand1.PrefixLaw.{prefix}
use Rattle.demands.proofs.Demand1.RefusedRecord.{left_off}
use Rattle.demands.proofs.Demand1.Remembered.{declared_measured, session_measured}
use Rattle.demands.proofs.Demand1.TableInSessions.{by_table, refused_there}
use Rattle.demands.proofs.Demand1.TableOfNumbers.{given, holds_given}
use Rattle.demands.proofs.Shared.NoRoom.{full_answer}
use Rattle.demands.specs.Alone.{Present}
use Rattle.demands.specs.Happenings.{carried}
use Rattle.demands.specs.Numbers.{Fitted, Given, LeftOff, NoRoom, NoRoomAfter, measured_in, ticked_log, ticked_model}
use Rattle.demands.specs.Stands.{output, stands, taken_whole, written}
use Rattle.device.specs.Device.{declared_model, instance_at}
use Rattle.device.specs.Frame.{frame_log}
use Rattle.device.specs.declared.model.Model.{Model}
use Rattle.judging.proofs.Asking.{number_refused}
use Rattle.judging.specs.Asked.{asked}
use Rattle.judging.specs.Refusals.{every_number, number_of, refusal_numbers}
use Rattle.judging.specs.declared.asked.Asked.TheVariants.{Frame, Ticks}
use Rattle.judging.specs.declared.asked.Refusal.TheVariants.{Full}
use Rattle.judging.specs.declared.asked.Refusal.{Refusal}
use Rattle.record.specs.Log.{AllBytes, Logged, UpTo, bytes_of}
use Rattle.sensor.specs.declared.sensors.Sensor.{Sensor}
use Rattle.session.proofs.Bounds.{reading_within, session_within}
use Rattle.session.specs.Session.{End, reading, refused, session, step}
use Rattle.std.specs.Prelude.{Err, Ok}
use lib.ListN.{drop, length}
use mathlib.Core.Bool.{false, ◌||◌}
use mathlib.Core.List.{List, ◌++◌}
use mathlib.Core.Logic.{◌≢◌}
use mathlib.Core.Path.{ap, ◌≡◌}
use types.Run.{OneOf}

-- ---- any bytes: `session` is a function of any model, any bytes and any room, so the reading ends. r is what it gives back.
module _ (m : Model) (xs : List ℕ) (room : ℕ) where
  abbrev r : End
  r = session m xs room

  -- "A refused record changes nothing in the model and no output byte; earlier ticks of a record refused by 9 stand": what stands of the
  -- session (its bytes before the refused record, and a TK of that record's ticks carried out), read from the same model with the same
  -- room, is taken whole and leaves the same model and the same log
  pub demand_1 : session m (stands r xs) room ≡ taken_whole (length (stands r xs)) r
  demand_1 = prefix m xs room

  pub same_model : (session m (stands r xs) room).model ≡ r.model
  same_model = ap (λ e. e.model) demand_1

  -- and so the same bytes in any output
  pub same_output : (out : List ℕ) → output (session m (stands r xs) room) out ≡ output r out
  same_output out = ap (λ e. output e out) demand_1

  -- "Refusal 9 alone comes per tick"
  pub ticks_by_9 : 0 < r.ticks → r.number ≡ 9
  ticks_by_9 = (bounded m xs room).ticked

  -- a TK counts in two bytes, and so it can count the ticks carried out
  pub ticks_counted : AllBytes xs → r.ticks ≤ 65535
  ticks_counted = (bounded m xs room).counted

  -- the number is one of those that there are: 0 when all records are taken, else a refusal's
  pub numbers : OneOf every_number r.number
  numbers = (bounded m xs room).numbered

  -- "the offset of the refused record (for 0 the session length)"
  pub offset_whole : r.number ≡ 0 → r.offset ≡ length xs
  offset_whole = (bounded m xs room).whole

  pub offset_refused : 0 < r.number → r.offset < length xs
  offset_refused = (bounded m xs room).before

  -- "bytes written": never more than the output has room for
  pub written_within : written r ≤ room
  written_within = session_within m xs room

  -- the record at the offset is the one refused, from the model and the log that the bytes before it leave
  pub refused_at_lem : 0 < r.number → LeftOff m xs room r
  refused_at_lem = left_off m xs room

  -- a refusal's number but 9 is given as the table says, of the record at the offset and the model left
  pub number_by_table : AllBytes xs → 0 < r.number → r.number ≢ 9
      → (why : Refusal) × (r.number ≡ number_of why) × Given why (drop r.offset xs) r.model
  number_by_table = by_table m xs room

  -- M-106: the last tick that may be reached is kept, and not passed
  pub last_kept : r.model.last ≡ m.last
  last_kept = session_last m xs room

  pub last_reached : m.tick ≤ m.last → r.model.tick ≤ m.last
  last_reached = session_reaches m xs room

  pub logged_within : m.tick ≤ m.last → UpTo m.last r.log
  logged_within = log_within m xs room

  -- and without the hour table no record is refused by 10
  pub none_by_10 : AllBytes xs → m.last ≡ 4294967295 → r.number ≢ 10
  none_by_10 = never_10 m xs room

-- from any log that the output holds already
pub written_from : (most : ℕ) (rest : List ℕ) (room at : ℕ) (m : Model) (log : List Logged) → length (bytes_of log) ≤ room
    → length (bytes_of (reading most rest room at m log).log) ≤ room
written_from = reading_within

-- each number of the list but 0 is a refusal's
pub number_of_refusal : (n : ℕ) → OneOf refusal_numbers n → (why : Refusal) × (n ≡ number_of why)
number_of_refusal = number_refused

-- ---- "Given exactly when": each number of the table, of the record at the front of `rest`
-- all but 9, in the table's order: `Given` is the row, with none of the earlier ones
pub number_exactly : (rest : List ℕ) (m : Model) → AllBytes rest → (why : Refusal)
    → (asked rest m ≡ Err why → Given why rest m) × (Given why rest m → asked rest m ≡ Err why)
number_exactly rest m bytes why = (holds_given rest m bytes why, given rest m bytes why)

-- and so where a session stands: the number is given there, and nothing changes
pub number_there : (m : Model) (ys zs : List ℕ) (room : ℕ) → (session m ys room).number ≡ 0 → 0 < length zs → AllBytes zs
    → (why : Refusal) → Given why zs (session m ys room).model
    → session m (ys ++ zs) room
    ≡ record { model = (session m ys room).model; number = number_of why; offset = length ys; ticks = 0; log = (session m ys room).log }
number_there = refused_there

-- 13: "after a valid sample" is what happened. As declared an instance has had none,
pub none_measured : (m : Model) (sensor : Sensor) → length m.instances ≡ 16 → m.declared < 16
    → (instance_at (declared_model m sensor) m.declared).measured ≡ false
none_measured = declared_measured

-- and after a session it has had one where it had one before, or where a valid sample was taken for it there
pub measured_by_samples : {i : ℕ} (m : Model) → Present i m → (xs : List ℕ) (room : ℕ)
    → (instance_at (session m xs room).model i).measured ≡ ((instance_at m i).measured || measured_in i (carried m xs room))
measured_by_samples = session_measured

-- 9 of one answer
pub nine_of_answer : (first second third room : ℕ) (m : Model) (log : List Logged)
    → (NoRoom room log (frame_log m first second third) → step (Ok (Frame first second third)) room m log ≡ refused Full 0 m log)
    × (step (Ok (Frame first second third)) room m log ≡ refused Full 0 m log → NoRoom room log (frame_log m first second third))
nine_of_answer first second third room m log = (answer_full first second third room m log, full_answer first second third room m log)

-- 9 of the records of one tick: t of the n ticks fit and stand, the next does not fit and does nothing
pub nine_of_tick : (n t room : ℕ) (m : Model) (log : List Logged) → t < n → Fitted t room m log → NoRoomAfter t room m log
    → step (Ok (Ticks n)) room m log ≡ refused Full t (ticked_model t m) (ticked_log t m log)
nine_of_tick = tick_full

pub tick_of_nine : (n room : ℕ) (m : Model) (log : List Logged) {why : Refusal} {t : ℕ} {m' : Model} {log' : List Logged}
    → step (Ok (Ticks n)) room m log ≡ refused why t m' log'
    → (t < n) × Fitted t room m log × NoRoomAfter t room m log × (why ≡ Full) × (m' ≡ ticked_model t m) × (log' ≡ ticked_log t m log)
tick_of_nine = full_tick

-- A session as what happened in it, one thing after another: the declarations, samples, frames and ticks that were carried out.
-- Assumes nothing.
use Rattle.judging.specs.declared.asked.Refusal.{Refusal}
use Rattle.std.specs.Prelude.{ℕ, zero, suc, ◌-◌, drop, length, replicate, List, [], ◌++◌, ◌∷◌, Err, Ok, Result}
use Rattle.device.specs.Device.{declared_model, held_model}
use Rattle.device.specs.Frame.{frame_log, frame_model}
use Rattle.device.specs.declared.model.Model.{Model}
use Rattle.judging.specs.Asked.{asked, size_of}
use Rattle.judging.specs.declared.asked.Asked.TheVariants.{Declare, Frame, Hold, Ticks}
use Rattle.judging.specs.declared.asked.Asked.{Asked}
use Rattle.record.specs.Log.{Logged, bytes_of}
use Rattle.sensor.specs.declared.sensors.Sensor.{Sensor}
use Rattle.sensor.specs.declared.settings.Sample.{Sample}
use Rattle.session.specs.Session.{refused, session, step, taken}
use Rattle.ticks.specs.Tick.{tick_log, tick_model}

pub data Happening : Type 0 where
  declare : Sensor → Happening
  hold : (i : ℕ) → Sample → Happening
  frame : (first second third : ℕ) → Happening
  tick : Happening

-- ---- what a happening does to the device, and what it logs
abbrev pub happen : Model → Happening → Model
happen m (declare sensor) = declared_model m sensor
happen m (hold i sample) = held_model m i sample
happen m (frame first second third) = frame_model m first second third
happen m tick = tick_model m

abbrev pub logs : Model → Happening → List Logged
logs m (declare sensor) = []
logs m (hold i sample) = []
logs m (frame first second third) = frame_log m first second third
logs m tick = tick_log m

-- ---- a run of happenings: the device after it, its log, and its ticks
unfoldable pub model_after : Model → List Happening → Model
model_after m [] = m
model_after m (h ∷ hs) = model_after (happen m h) hs

unfoldable pub log_after : Model → List Happening → List Logged
log_after m [] = []
log_after m (h ∷ hs) = logs m h ++ log_after (happen m h) hs

unfoldable pub ticks_in : List Happening → ℕ
ticks_in [] = 0
ticks_in (declare sensor ∷ hs) = ticks_in hs
ticks_in (hold i sample ∷ hs) = ticks_in hs
ticks_in (frame first second third ∷ hs) = ticks_in hs
ticks_in (tick ∷ hs) = suc (ticks_in hs)

-- ---- what a session carried out
-- what a record that is taken asks for
abbrev pub asks_for : Result Asked Refusal → List Happening
asks_for (Err why) = []
asks_for (Ok (Declare sensor)) = declare sensor ∷ []
asks_for (Ok (Hold i sample)) = hold i sample ∷ []
asks_for (Ok (Frame first second third)) = frame first second third ∷ []
asks_for (Ok (Ticks n)) = replicate n tick

-- of at most so many records: of each that is taken what it asks for, and of a refused one its ticks that were carried out
unfoldable pub carried_in : (most : ℕ) → (rest : List ℕ) → (room : ℕ) → Model → List Happening
carried_in zero rest room m = []
carried_in (suc most) [] room m = []
carried_in (suc most) (b ∷ rest) room m =
    elim (step (asked (b ∷ rest) m) room m []) [
      | taken m' log ↦ asks_for (asked (b ∷ rest) m) ++ carried_in most (drop (size_of (asked (b ∷ rest) m)) (b ∷ rest)) (room - length (bytes_of log)) m'
      | refused why ticks m' log ↦ replicate ticks tick
    ]

unfoldable pub carried : Model → (input : List ℕ) → (room : ℕ) → List Happening
carried m input room = carried_in (length input) input room m

-- ---- several calls, each from the model that the one before left
pub record Call : Type 0 where
  pub input : List ℕ
  pub room : ℕ

unfoldable pub model_left : Model → List Call → Model
model_left m [] = m
model_left m (c ∷ cs) = model_left (session m c.input c.room).model cs

-- the bytes that they wrote, one call's behind another's
unfoldable pub bytes_written : Model → List Call → List ℕ
bytes_written m [] = []
bytes_written m (c ∷ cs) = bytes_of (session m c.input c.room).log ++ bytes_written (session m c.input c.room).model cs

unfoldable pub carried_out : Model → List Call → List Happening
carried_out m [] = []
carried_out m (c ∷ cs) = carried m c.input c.room ++ carried_out (session m c.input c.room).model cs

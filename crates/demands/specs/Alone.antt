-- Demand 2: the words in which is said what a happening leaves alone.
-- Assumes nothing.
use Rattle.std.specs.Prelude.{ℕ, ◌<◌, eqb, length, Bool, false, ◌&&◌}
use Rattle.demands.specs.Happenings.{Happening, declare, frame, hold, tick}
use Rattle.device.specs.Device.{instance_at}
use Rattle.device.specs.Frame.{counts, loads}
use Rattle.device.specs.declared.model.Model.{Model}
use Rattle.sensor.specs.Kind.{sensor_type}

-- instance i is declared, and the device has a place for it
pub record Present (i : ℕ) (m : Model) : Type 0 where
  pub declared : i < m.declared
  pub listed : i < length m.instances

-- the ticks of a happening
abbrev pub rises : Happening → ℕ
rises (declare sensor) = 0
rises (hold i sample) = 0
rises (frame first second third) = 0
rises tick = 1

-- ---- what changes DTR0
-- a frame C1 30 d
abbrev pub loads_dtr0 : Happening → Bool
loads_dtr0 (declare sensor) = false
loads_dtr0 (hold i sample) = false
loads_dtr0 (frame first second third) = loads first second
loads_dtr0 tick = false

-- M-104: a colour query, a frame that counts for an instance of type 5 with 4B
abbrev pub asks_colour : Model → Happening → Bool
asks_colour m (declare sensor) = false
asks_colour m (hold i sample) = false
asks_colour m (frame first second third) = counts m first second && (eqb (sensor_type (instance_at m second).kind) 5 && eqb third 0x4B)
asks_colour m tick = false

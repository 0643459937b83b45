-- What a variable that is asked for comes of: the sensor's type, resolution and catching, the failure and the settings.
-- Assumes nothing.
use Rattle.command.specs.Answering.{only_if, value_of}
use Rattle.opcode.specs.declared.Variable.TheVariants.{Catching, Deadtime, Enabled, Error, Filter, Hold, Hysteresis, HysteresisMin, Priority, Report, Resolution, SensorType, Status}
use Rattle.opcode.specs.declared.Variable.{Variable}
use Rattle.sensor.specs.Kind.{catching, resolution, sensor_type}
use Rattle.sensor.specs.declared.instance.Instance.{Instance}
use Rattle.std.specs.Prelude.{Some}
use mathlib.Core.Path.{ap, ◌≡◌}

pub value_alike : (x y : Instance) → sensor_type y.kind ≡ sensor_type x.kind → resolution y.kind ≡ resolution x.kind
    → catching y.kind ≡ catching x.kind → y.failed ≡ x.failed → y.settings ≡ x.settings → (v : Variable) → value_of y v ≡ value_of x v
unfolding value_of
value_alike x y t r h f s SensorType = ap Some t
value_alike x y t r h f s Resolution = ap Some r
value_alike x y t r h f s Error = ap (λ b. only_if b 1) f
value_alike x y t r h f s Status = rw (f, s)
value_alike x y t r h f s Priority = rw s
value_alike x y t r h f s Enabled = rw s
value_alike x y t r h f s Filter = rw s
value_alike x y t r h f s Report = rw s
value_alike x y t r h f s Deadtime = rw s
value_alike x y t r h f s Hysteresis = rw s
value_alike x y t r h f s HysteresisMin = rw s
value_alike x y t r h f s Hold = rw s
value_alike x y t r h f s Catching = ap (λ b. only_if b 0xFF) h

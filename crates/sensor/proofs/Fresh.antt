-- An instance as it is declared: enabled, its dead time over, its report timer started, nothing measured.
-- Assumes nothing.
use Rattle.sensor.specs.Fresh as sensors
use Rattle.sensor.specs.Kind.{rules}
use Rattle.sensor.specs.declared.instance.Instance.{Instance}
use Rattle.sensor.specs.declared.sensors.Sensor.TheVariants.{Colour, Light, LightOf2017, Movement, Occupancy}
use Rattle.sensor.specs.declared.sensors.Sensor.{Sensor}
use Rattle.timers.specs.Timers.{started_report}
use mathlib.Core.Bool.{false, true}
use mathlib.Core.Path.{refl, ◌≡◌}

pub record Fresh (x : Instance) : Type 0 where
  pub on : x.settings.enabled ≡ true
  pub dead : x.timers.dead ≡ 0
  pub report : x.timers.report ≡ started_report (rules x.kind x.settings)
  pub measured : x.measured ≡ false

pub fresh : (sensor : Sensor) → Fresh (sensors.declared sensor)
unfolding sensors.declared sensors.occupancy_fresh sensors.light_fresh sensors.movement_fresh sensors.colour_fresh sensors.fresh
fresh Occupancy = record { on = refl; dead = refl; report = refl; measured = refl }
fresh (Light resolution) = record { on = refl; dead = refl; report = refl; measured = refl }
fresh (LightOf2017 resolution) = record { on = refl; dead = refl; report = refl; measured = refl }
fresh Movement = record { on = refl; dead = refl; report = refl; measured = refl }
fresh Colour = record { on = refl; dead = refl; report = refl; measured = refl }

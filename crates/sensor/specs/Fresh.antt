-- Document 01, "Each type carries its own defaults": an instance as it is declared.
-- Assumes nothing.
use Rattle.std.specs.Prelude.{ℕ, None}
use Rattle.sensor.specs.Colour.{colour_settings, colour_start}
use Rattle.sensor.specs.Instance.{untouched}
use Rattle.sensor.specs.Kind.{rules}
use Rattle.sensor.specs.Light.{light_settings, light_start, unready, with_shown}
use Rattle.sensor.specs.Movement.{movement_settings, movement_start}
use Rattle.sensor.specs.Occupancy.{occupancy_settings, occupancy_start, still}
use Rattle.sensor.specs.Settings.{no_settings}
use Rattle.sensor.specs.declared.instance.Instance.{Instance}
use Rattle.sensor.specs.declared.kind.Kind.TheVariants.{Colour, Light, Movement, Occupancy}
use Rattle.sensor.specs.declared.kind.Kind.{Kind}
use Rattle.sensor.specs.declared.light.Basis.TheVariants.{Measured, Padded}
use Rattle.sensor.specs.declared.light.Basis.{Basis}
use Rattle.sensor.specs.declared.sensors.Sensor.TheVariants as sensors
use Rattle.sensor.specs.declared.sensors.Sensor.{Sensor}
use Rattle.sensor.specs.declared.settings.Sample.{Sample}
use Rattle.sensor.specs.declared.settings.Settings.{Settings}
use Rattle.timers.specs.Timers.{started_report}

-- dead time not running, report timer started, nothing latched
unfoldable pub fresh : Kind → Settings → (held : Sample) → Instance
fresh k s held = untouched k s (record { dead = 0; report = started_report (rules k s) }) held

unfoldable pub light_fresh : Basis → (resolution : ℕ) → Instance
light_fresh basis resolution = fresh (Light (light_start basis resolution)) (light_settings resolution) unready

unfoldable pub occupancy_fresh : Instance
occupancy_fresh = fresh (Occupancy occupancy_start) occupancy_settings still

unfoldable pub movement_fresh : Instance
movement_fresh = fresh (Movement movement_start) movement_settings still

unfoldable pub colour_fresh : Instance
colour_fresh = fresh (Colour colour_start) colour_settings unready

-- what each sensor that a declaration declares is
unfoldable pub declared : Sensor → Instance
declared sensors.Occupancy = occupancy_fresh
declared (sensors.Light resolution) = light_fresh Measured resolution
declared (sensors.LightOf2017 resolution) = light_fresh Padded resolution
declared sensors.Movement = movement_fresh
declared sensors.Colour = colour_fresh

-- what stands where nothing was declared: every number 0, every enum at its first variant
abbrev pub blank : Instance
blank =
    untouched
    (Light (with_shown (record { status = 0; value = 0 }) (light_start Measured 0)))
    no_settings
    (record { dead = 0; report = None })
    (record { status = 0; value = 0 })

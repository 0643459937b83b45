-- What each type of sensor gives to a tick, to commands and to queries (document 01, "Each type carries its own defaults, units and opcodes").
-- Assumes nothing.
use Rattle.std.specs.Prelude.{ℕ, Bool, false}
use Rattle.sensor.specs.Colour.{colour_allows, colour_cause, colour_information, colour_input, colour_sent, colour_taken, colour_units}
use Rattle.sensor.specs.Light.{light_allows, light_cause, light_information, light_input, light_repeat, light_sent, light_taken, light_units}
use Rattle.sensor.specs.Movement.{movement_allowing, movement_allows, movement_cancelled, movement_caught, movement_cause, movement_information, movement_input, movement_sent, movement_taken}
use Rattle.sensor.specs.Occupancy.{occupancy_allowing, occupancy_allows, occupancy_cause, occupancy_information, occupancy_input, occupancy_repeat, occupancy_sent, occupancy_taken, occupancy_units}
use Rattle.sensor.specs.declared.kind.Kind.TheVariants.{Colour, Light, Movement, Occupancy}
use Rattle.sensor.specs.declared.kind.Kind.{Kind}
use Rattle.sensor.specs.declared.settings.Sample.{Sample}
use Rattle.sensor.specs.declared.settings.Settings.{Settings}
use Rattle.timers.specs.declared.Rules.{Rules}
use Rattle.timers.specs.declared.Units.{Units}

-- ---- for a tick
unfoldable pub units : Kind → Units
units (Light l) = light_units
units (Occupancy o) = occupancy_units
units (Movement m) = occupancy_units
units (Colour c) = colour_units

unfoldable pub taken : Kind → Settings → (held : Sample) → Kind
taken (Light l) s held = Light (light_taken l held)
taken (Occupancy o) s held = Occupancy (occupancy_taken o s held)
taken (Movement m) s held = Movement (movement_taken m s held)
taken (Colour c) s held = Colour (colour_taken c held)

unfoldable pub cause : Kind → Settings → Bool
cause (Light l) s = light_cause l s
cause (Occupancy o) s = occupancy_cause o
cause (Movement m) s = movement_cause m
cause (Colour c) s = colour_cause c s

unfoldable pub repeat : Kind → Settings → Bool
repeat (Light l) s = light_repeat s
repeat (Occupancy o) s = occupancy_repeat s
repeat (Movement m) s = occupancy_repeat s
repeat (Colour c) s = light_repeat s

unfoldable pub sent : Kind → Settings → Kind
sent (Light l) s = Light (light_sent l s)
sent (Occupancy o) s = Occupancy (occupancy_sent o)
sent (Movement m) s = Movement (movement_sent m)
sent (Colour c) s = Colour (colour_sent c s)

unfoldable pub information : Kind → (repeats : Bool) → ℕ
information (Light l) repeats = light_information l
information (Occupancy o) repeats = occupancy_information o repeats
information (Movement m) repeats = movement_information m repeats
information (Colour c) repeats = colour_information c

-- what the decision goes by
unfoldable pub rules : Kind → Settings → Rules
rules k s = record { enabled = s.enabled; repeat = repeat k s; deadtime = s.deadtime; report = s.report; units = units k }

-- ---- for commands, queries and samples
unfoldable pub sensor_type : Kind → ℕ
sensor_type (Light l) = 4
sensor_type (Occupancy o) = 3
sensor_type (Movement m) = 3
sensor_type (Colour c) = 5

unfoldable pub resolution : Kind → ℕ
resolution (Light l) = l.resolution
resolution (Occupancy o) = 2
resolution (Movement m) = 2
resolution (Colour c) = 24

-- the filter bits kept: light 0, occupancy 0 to 4, colour 0
unfoldable pub kept : Kind → ℕ
kept (Light l) = 1
kept (Occupancy o) = 31
kept (Movement m) = 31
kept (Colour c) = 1

unfoldable pub input : Kind → ℕ
input (Light l) = light_input l
input (Occupancy o) = occupancy_input o
input (Movement m) = movement_input m
input (Colour c) = colour_input c

unfoldable pub allows : Kind → Sample → Bool
allows (Light l) sample = light_allows l sample
allows (Occupancy o) sample = occupancy_allows sample
allows (Movement m) sample = movement_allows sample
allows (Colour c) sample = colour_allows sample

-- light and colour have no waiting triggers
unfoldable pub allowing : Kind → (allowed : ℕ) → Kind
allowing (Light l) allowed = Light l
allowing (Occupancy o) allowed = Occupancy (occupancy_allowing o allowed)
allowing (Movement m) allowed = Movement (movement_allowing m allowed)
allowing (Colour c) allowed = Colour c

-- M-100: catch movement, cancel hold, and whether it catches; the other types have none of them
unfoldable pub caught : Kind → Settings → Kind
caught (Light l) s = Light l
caught (Occupancy o) s = Occupancy o
caught (Movement m) s = Movement (movement_caught m s)
caught (Colour c) s = Colour c

unfoldable pub cancelled : Kind → Kind
cancelled (Light l) = Light l
cancelled (Occupancy o) = Occupancy o
cancelled (Movement m) = Movement (movement_cancelled m)
cancelled (Colour c) = Colour c

unfoldable pub catching : Kind → Bool
catching (Light l) = false
catching (Occupancy o) = false
catching (Movement m) = m.catching
catching (Colour c) = false

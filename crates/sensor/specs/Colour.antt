-- M-104, after IEC 62386-305: the colour sensor (type 5). What the number of a colour says is in crate rgb.
-- Assumes nothing.
use Rattle.std.specs.Prelude.{ℕ, eqb, leb, ltb, Bool, cond, true, ◌&&◌}
use Rattle.rgb.specs.Colour as colours
use Rattle.sensor.specs.Light.{light_repeat, unready, width}
use Rattle.sensor.specs.Settings.{no_settings, with_deadtime, with_enabled, with_filter, with_hysteresis, with_minimum, with_priority, with_report}
use Rattle.sensor.specs.declared.colour.Colour.{Colour}
use Rattle.sensor.specs.declared.settings.Sample.{Sample}
use Rattle.sensor.specs.declared.settings.Settings.{Settings}
use Rattle.timers.specs.declared.Units.{Units}

-- ---- defaults and units: Tables 5, 9 and 10
abbrev pub colour_units : Units
colour_units = record { dead = 1; report = 100 }

abbrev pub colour_settings : Settings
colour_settings = with_report 30 (with_deadtime 30 (with_filter 1 (with_priority 4 (with_enabled true (with_hysteresis 10 (with_minimum 12 no_settings))))))

-- at power-on rLast, gLast, bLast and hysteresisBand are 0; before the first sample it counts as status 1
abbrev pub colour_start : Colour
colour_start = record { shown = unready; last = 0; band = 0 }

-- ---- samples (9.3.2): red, green and blue 0 to 254 each with status 0; with status 1 or 2 the value must be 0
unfoldable pub colour_allows : Sample → Bool
colour_allows sample =
    cond (eqb sample.status 0)
    ((colours.level (colours.r_value sample.value) && colours.level (colours.g_value sample.value)) && colours.level (colours.b_value sample.value))
    (leb sample.status 2 && eqb sample.value 0)

-- ---- what a tick asks of the type (9.4.5)
-- the held sample is taken; whatever its status, the last colour and the band stay
unfoldable pub colour_taken : Colour → (held : Sample) → Colour
colour_taken c held = record { shown = held; last = c.last; band = c.band }

-- absolute_change, from the levels rLast, gLast and bLast of the last colour
abbrev pub change_of : Colour → ℕ
change_of c = colours.absolute_change c.shown.value c.last

-- filter bit 0 is set, hysteresis is above 0, and absolute_change is greater than hysteresisBand
unfoldable pub colour_cause : Colour → Settings → Bool
colour_cause c s = (light_repeat s && ltb 0 s.hysteresis) && ltb c.band (change_of c)

-- rLast = r_value, gLast = g_value, bLast = b_value, and hysteresisBand is the larger of hysteresisMin and hysteresis percent of their sum
abbrev pub recalculated : Colour → Settings → Colour
recalculated c s = record { shown = c.shown; last = c.shown.value; band = width (colours.total c.shown.value) s.hysteresis s.minimum }

-- as an event leaves it: recalculated where the change is a cause of it
unfoldable pub colour_sent : Colour → Settings → Colour
colour_sent c s = cond (colour_cause c s) (recalculated c s) c

unfoldable pub colour_information : Colour → ℕ
colour_information c = colours.information c.shown.value

-- ---- input_value (9.3.1): three bytes, MASK for status 1 and 2
unfoldable pub colour_input : Colour → ℕ
colour_input c = cond (eqb c.shown.status 0) c.shown.value 0xFFFFFF

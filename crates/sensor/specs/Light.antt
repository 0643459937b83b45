-- Document 01, "Widths", "Each type carries its own defaults" and "One tick", of the light sensor (type 4; IEC 62386-304).
-- Assumes nothing.
use Rattle.std.specs.Prelude.{ℕ, ◌%◌, ◌*◌, ◌+◌, ◌-◌, ◌/◌, ◌^◌, max, min, None, Option, Some, eqb, leb, ltb, Bool, cond, true, ◌&&◌, ◌||◌}
use Rattle.sensor.specs.Settings.{no_settings, with_deadtime, with_enabled, with_filter, with_hysteresis, with_minimum, with_priority, with_report}
use Rattle.sensor.specs.declared.light.Band.{Band}
use Rattle.sensor.specs.declared.light.Basis.TheVariants.{Measured, Padded}
use Rattle.sensor.specs.declared.light.Basis.{Basis}
use Rattle.sensor.specs.declared.light.Light.{Light}
use Rattle.sensor.specs.declared.settings.Sample.{Sample}
use Rattle.sensor.specs.declared.settings.Settings.{Settings}
use Rattle.timers.specs.declared.Units.{Units}
use Rattle.widen.specs.Width as widths

-- ---- defaults and units
abbrev pub light_units : Units
light_units = record { dead = 1; report = 20 }

-- hysteresisMin at start: the smaller of 255 and 2^resolution / 100 rounded down
unfoldable pub minimum : (resolution : ℕ) → ℕ
minimum resolution = min 255 (2 ^ resolution / 100)

abbrev pub light_settings : (resolution : ℕ) → Settings
light_settings resolution =
    with_report 30 (with_deadtime 30 (with_filter 1 (with_priority 4 (with_enabled true (with_hysteresis 5 (with_minimum (minimum resolution) no_settings))))))

-- before the first sample light counts as status 1
abbrev pub unready : Sample
unready = record { status = 1; value = 0 }

abbrev pub light_start : Basis → (resolution : ℕ) → Light
light_start basis resolution = record { basis = basis; resolution = resolution; shown = unready; band = None }

-- the sensor with one part changed: only these and the one above list every part
abbrev pub with_basis : Basis → Light → Light
with_basis basis l = record { basis = basis; resolution = l.resolution; shown = l.shown; band = l.band }

abbrev pub with_shown : Sample → Light → Light
with_shown sample l = record { basis = l.basis; resolution = l.resolution; shown = sample; band = l.band }

abbrev pub with_band : Option Band → Light → Light
with_band band l = record { basis = l.basis; resolution = l.resolution; shown = l.shown; band = band }

-- ---- samples: 0 to 2^resolution - 2 with status 0; with status 1 or 2 the value must be 0
unfoldable pub light_allows : Light → Sample → Bool
light_allows l sample = cond (eqb sample.status 0) (ltb sample.value (2 ^ l.resolution - 1)) (leb sample.status 2 && eqb sample.value 0)

-- ---- the number that band, width and comparison are taken on, v: the measured value; and for LO input_value of it (M-107)
abbrev pub compared_by : Basis → (value resolution : ℕ) → ℕ
compared_by Measured value resolution = value
compared_by Padded value resolution = widths.input_value value resolution

abbrev pub compared : Light → ℕ
compared l = compared_by l.basis l.shown.value l.resolution

-- ---- the band
-- the larger of hysteresisMin and v x hysteresis / 100 rounded down
unfoldable pub width : (v hysteresis least : ℕ) → ℕ
width v hysteresis least = max least (v * hysteresis / 100)

-- v is above high, v is below low, or no band exists
unfoldable pub outside : Option Band → (v : ℕ) → Bool
outside None v = true
outside (Some band) v = ltb band.high v || ltb v band.low

-- at any event: if there is no band or v is above high, high = v and low = v - width, not below 0; if v is below low, low = v and
-- high = v + width; else the band stays
unfoldable pub moved : Option Band → (v wide : ℕ) → Band
moved None v wide = record { low = v - wide; high = v }
moved (Some band) v wide =
    cond (ltb band.high v) (record { low = v - wide; high = v }) (cond (ltb v band.low) (record { low = v; high = v + wide }) band)

-- ---- what a tick asks of the type
-- the held sample is taken; status 1 or 2 discards the band
unfoldable pub light_taken : Light → (held : Sample) → Light
light_taken l held = with_shown held (with_band (cond (eqb held.status 0) l.band None) l)

-- filter bit 0
unfoldable pub light_repeat : Settings → Bool
light_repeat s = eqb (s.filter % 2) 1

-- filter bit 0 is set, hysteresis is above 0, and v is outside the band
unfoldable pub light_cause : Light → Settings → Bool
light_cause l s = (light_repeat s && ltb 0 s.hysteresis) && outside l.band (compared l)

-- as an event leaves it: the width is taken at the event
unfoldable pub light_sent : Light → Settings → Light
light_sent l s = with_band (Some (moved l.band (compared l) (width (compared l) s.hysteresis s.minimum))) l

-- ten bits of the measured value
unfoldable pub light_information : Light → ℕ
light_information l = widths.information l.shown.value l.resolution

-- ---- inputValue: MASK for status 1 and 2
unfoldable pub light_input : Light → ℕ
light_input l = cond (eqb l.shown.status 0) (widths.input_value l.shown.value l.resolution) (widths.mask l.resolution)

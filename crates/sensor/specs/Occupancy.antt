-- Document 01, "Widths", "Each type carries its own defaults" and "One tick", of the presence-based occupancy sensor (type 3; IEC 62386-303).
-- Assumes nothing.
use Rattle.std.specs.Prelude.{ℕ, ◌%◌, ◌+◌, ◌/◌, eqb, ltb, Bool, cond, true, ◌&&◌}
use Rattle.sensor.specs.Settings.{no_settings, with_deadtime, with_enabled, with_filter, with_priority, with_report}
use Rattle.sensor.specs.declared.occupancy.Occupancy.{Occupancy}
use Rattle.sensor.specs.declared.settings.Sample.{Sample}
use Rattle.sensor.specs.declared.settings.Settings.{Settings}
use Rattle.timers.specs.declared.Units.{Units}
use Rattle.widen.specs.Width as widths
use Rattle.std.specs.Int.Bits.{bit_and, bit_or}

-- ---- defaults and units
abbrev pub occupancy_units : Units
occupancy_units = record { dead = 1; report = 20 }

abbrev pub occupancy_settings : Settings
occupancy_settings = with_report 20 (with_deadtime 2 (with_filter 3 (with_priority 4 (with_enabled true no_settings))))

-- before the first sample occupancy counts as status 0, value 0
abbrev pub still : Sample
still = record { status = 0; value = 0 }

abbrev pub occupancy_start : Occupancy
occupancy_start = record { value = 0; waiting = 0 }

-- ---- samples: 0 to 3 with status 0; status 2 with value 0
unfoldable pub occupancy_allows : Sample → Bool
occupancy_allows sample = cond (eqb sample.status 0) (ltb sample.value 4) (eqb sample.status 2 && eqb sample.value 0)

-- ---- triggers: bit 0 Occupied, 1 Vacant, 2 Repeat, 3 Movement, 4 No movement
-- of one bit of the value: `up` where it rose, `down` where it fell
unfoldable pub change : (old new up down : ℕ) → ℕ
change old new up down = cond (ltb old new) up (cond (ltb new old) down 0)

-- IEC 62386-303, Table 11: bit 1 of a value is occupied, bit 0 movement
unfoldable pub triggers : (old new : ℕ) → ℕ
triggers old new = bit_or (change (old / 2 % 2) (new / 2 % 2) 1 2) (change (old % 2) (new % 2) 8 16)

-- a trigger whose filter bit is 0, or that falls in a disabled time, is dropped; others wait
unfoldable pub waits : Settings → (waiting came : ℕ) → ℕ
waits s waiting came = cond s.enabled (bit_or waiting (bit_and came s.filter)) 0

-- ---- what a tick asks of the type
-- at a tick with status 0, old and new value are compared; failure clears what waits
unfoldable pub occupancy_taken : Occupancy → Settings → (held : Sample) → Occupancy
occupancy_taken o s held =
    cond (eqb held.status 0)
    (record { value = held.value % 4; waiting = waits s o.waiting (triggers o.value (held.value % 4)) })
    (record { value = o.value; waiting = 0 })

-- it sends if one waits
unfoldable pub occupancy_cause : Occupancy → Bool
occupancy_cause o = ltb 0 o.waiting

-- or the report is due with filter bit 2 set
unfoldable pub occupancy_repeat : Settings → Bool
occupancy_repeat s = eqb (s.filter / 4 % 2) 1

-- the event clears all waiting ones
unfoldable pub occupancy_sent : Occupancy → Occupancy
occupancy_sent o = record { value = o.value; waiting = 0 }

-- bit 0 movement, bit 1 occupied, bit 2 set if the due report is the only cause
unfoldable pub occupancy_information : Occupancy → (repeats : Bool) → ℕ
occupancy_information o repeats = cond repeats (o.value + 4) o.value

-- ---- inputValue: 0 to 3 gives 0x00, 0x55, 0xAA, 0xFF, and the last value is kept in a failure
unfoldable pub occupancy_input : Occupancy → ℕ
occupancy_input o = widths.input_value o.value 2

-- ---- of the triggers that wait, those that `allowed` has
unfoldable pub occupancy_allowing : Occupancy → (allowed : ℕ) → Occupancy
occupancy_allowing o allowed = record { value = o.value; waiting = bit_and o.waiting allowed }

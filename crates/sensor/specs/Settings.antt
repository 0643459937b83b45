-- The settings block with one setting changed: only this file lists every setting. Other definitions compose these, so that a further
-- setting is a `with` more, and a word in each of the others.
-- Assumes nothing.
use Rattle.std.specs.Prelude.{ℕ, Bool, false}
use Rattle.sensor.specs.declared.settings.Settings.{Settings}

-- the block of a type that has no setting
abbrev pub no_settings : Settings
no_settings = record { report = 0; deadtime = 0; filter = 0; priority = 0; enabled = false; hysteresis = 0; minimum = 0; hold = 0 }

abbrev pub with_report : ℕ → Settings → Settings
with_report d s = record { report = d; deadtime = s.deadtime; filter = s.filter; priority = s.priority; enabled = s.enabled; hysteresis = s.hysteresis; minimum = s.minimum; hold = s.hold }

abbrev pub with_deadtime : ℕ → Settings → Settings
with_deadtime d s = record { report = s.report; deadtime = d; filter = s.filter; priority = s.priority; enabled = s.enabled; hysteresis = s.hysteresis; minimum = s.minimum; hold = s.hold }

abbrev pub with_filter : ℕ → Settings → Settings
with_filter d s = record { report = s.report; deadtime = s.deadtime; filter = d; priority = s.priority; enabled = s.enabled; hysteresis = s.hysteresis; minimum = s.minimum; hold = s.hold }

abbrev pub with_priority : ℕ → Settings → Settings
with_priority d s = record { report = s.report; deadtime = s.deadtime; filter = s.filter; priority = d; enabled = s.enabled; hysteresis = s.hysteresis; minimum = s.minimum; hold = s.hold }

abbrev pub with_enabled : (on : Bool) → Settings → Settings
with_enabled on s = record { report = s.report; deadtime = s.deadtime; filter = s.filter; priority = s.priority; enabled = on; hysteresis = s.hysteresis; minimum = s.minimum; hold = s.hold }

abbrev pub with_hysteresis : ℕ → Settings → Settings
with_hysteresis d s = record { report = s.report; deadtime = s.deadtime; filter = s.filter; priority = s.priority; enabled = s.enabled; hysteresis = d; minimum = s.minimum; hold = s.hold }

abbrev pub with_minimum : ℕ → Settings → Settings
with_minimum d s = record { report = s.report; deadtime = s.deadtime; filter = s.filter; priority = s.priority; enabled = s.enabled; hysteresis = s.hysteresis; minimum = d; hold = s.hold }

abbrev pub with_hold : ℕ → Settings → Settings
with_hold d s = record { report = s.report; deadtime = s.deadtime; filter = s.filter; priority = s.priority; enabled = s.enabled; hysteresis = s.hysteresis; minimum = s.minimum; hold = d }

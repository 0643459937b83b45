-- Document 01, "Frames", with M-103, M-100 and M-104: what a setting command makes of the settings, of the timers and of the waiting triggers.
-- Assumes nothing.
use Rattle.std.specs.Prelude.{ℕ, None, Option, Some, eqb, ltb, cond, false, true}
use Rattle.opcode.specs.declared.Command.TheVariants.{Disable, Enable, SetDeadtime, SetFilter, SetHold, SetHysteresis, SetHysteresisMin, SetPriority, SetReport, SetValidFilter}
use Rattle.opcode.specs.declared.Command.{Command}
use Rattle.sensor.specs.Instance.{with_kind, with_settings, with_timers}
use Rattle.sensor.specs.Kind.{allowing, kept, rules}
use Rattle.sensor.specs.Settings.{with_deadtime, with_enabled, with_filter, with_hold, with_hysteresis, with_minimum, with_priority, with_report}
use Rattle.sensor.specs.declared.instance.Instance.{Instance}
use Rattle.sensor.specs.declared.kind.Kind.{Kind}
use Rattle.sensor.specs.declared.settings.Settings.{Settings}
use Rattle.timers.specs.Timers.{started_report}
use Rattle.timers.specs.declared.Rules.{Rules}
use Rattle.timers.specs.declared.Timers.{Timers}
use Rattle.std.specs.Int.Bits.{bit_and}

-- ---- the settings after a command
-- 2 to 5, else no change
unfoldable pub bounded_priority : Settings → (d : ℕ) → Settings
bounded_priority s d = cond (ltb d 2) s (cond (ltb 5 d) s (with_priority d s))

-- above 25: no change
unfoldable pub bounded_hysteresis : Settings → (d : ℕ) → Settings
bounded_hysteresis s d = cond (ltb 25 d) s (with_hysteresis d s)

-- M-100: 255: no change
unfoldable pub bounded_hold : Settings → (d : ℕ) → Settings
bounded_hold s d = cond (eqb d 255) s (with_hold d s)

-- M-104, after IEC 62386-305, 11.8.2: a filter out of range, above the bits that are kept, is discarded
unfoldable pub bounded_filter : Settings → (d kept : ℕ) → Settings
bounded_filter s d kept = cond (ltb kept d) s (with_filter d s)

-- of a new filter only the kept bits
unfoldable pub changed : Settings → Command → (dtr0 kept : ℕ) → Settings
changed s SetPriority d kept = bounded_priority s d
changed s Enable d kept = with_enabled true s
changed s Disable d kept = with_enabled false s
changed s SetFilter d kept = with_filter (bit_and d kept) s
changed s SetReport d kept = with_report d s
changed s SetDeadtime d kept = with_deadtime d s
changed s SetHysteresis d kept = bounded_hysteresis s d
changed s SetHysteresisMin d kept = with_minimum d s
changed s SetHold d kept = bounded_hold s d
changed s SetValidFilter d kept = bounded_filter s d kept

-- ---- the timers after a command: a new time serves from the next start of its timer, with three exceptions
-- report set to 0 stops the report timer at once; report set above 0 while stopped starts it at once
unfoldable pub retimed_report : Option ℕ → Rules → Option ℕ
retimed_report None r = cond (eqb r.report 0) None (started_report r)
retimed_report (Some n) r = cond (eqb r.report 0) None (Some n)

-- M-103, after IEC 62386-305, 9.5.3: deadtime set to 0 ends a running dead time at once, and leaves the report timer as it ran
unfoldable pub retimed_dead : (dead : ℕ) → Rules → ℕ
retimed_dead dead r = cond (eqb r.deadtime 0) 0 dead

unfoldable pub retimed : Timers → Command → Rules → Timers
retimed t SetReport r = record { dead = t.dead; report = retimed_report t.report r }
retimed t SetDeadtime r = record { dead = retimed_dead t.dead r; report = t.report }
retimed t SetPriority r = t
retimed t Enable r = t
retimed t Disable r = t
retimed t SetFilter r = t
retimed t SetHysteresis r = t
retimed t SetHysteresisMin r = t
retimed t SetHold r = t
retimed t SetValidFilter r = t

-- ---- the waiting triggers after a command: disabling clears them; a new filter keeps only those it allows
unfoldable pub filtered : Kind → Command → (filter : ℕ) → Kind
filtered k Disable filter = allowing k 0
filtered k SetFilter filter = allowing k filter
filtered k SetPriority filter = k
filtered k Enable filter = k
filtered k SetReport filter = k
filtered k SetDeadtime filter = k
filtered k SetHysteresis filter = k
filtered k SetHysteresisMin filter = k
filtered k SetHold filter = k
filtered k SetValidFilter filter = allowing k filter

-- ---- the instance after a command
-- its settings block changed, and nothing else
unfoldable pub block_changed : Instance → Command → (dtr0 kept : ℕ) → Instance
block_changed x command d kept = with_settings (changed x.settings command d kept) x

abbrev pub obeyed_by : Instance → Command → Instance
obeyed_by x command =
    with_kind (filtered x.kind command x.settings.filter) (with_timers (retimed x.timers command (rules x.kind x.settings)) x)

unfoldable pub obeyed : Instance → Command → (dtr0 : ℕ) → Instance
obeyed x command d = obeyed_by (block_changed x command d (kept x.kind)) command

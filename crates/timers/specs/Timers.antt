-- Document 01, "One tick" and "Frames": the two timers of an instance, how they fall and how they start.
-- Assumes nothing.
use Rattle.std.specs.Prelude.{ℕ, ◌*◌, ◌-◌, max, None, Option, Some, eqb, Bool, cond, false}
use Rattle.timers.specs.declared.Rules.{Rules}
use Rattle.timers.specs.declared.Timers.{Timers}

-- ---- times, in ticks
-- D of demand 3
unfoldable pub dead_time : Rules → ℕ
dead_time r = r.deadtime * r.units.dead

-- R of demand 3: the report time is never below dead time when started
unfoldable pub report_time : Rules → ℕ
report_time r = max (dead_time r) (r.report * r.units.report)

-- ---- every running timer falls by 1
-- a report timer at 0 is due and stays due
unfoldable pub fallen_report : Option ℕ → Option ℕ
fallen_report None = None
fallen_report (Some n) = Some (n - 1)

unfoldable pub due : Option ℕ → Bool
due None = false
due (Some n) = eqb n 0

unfoldable pub fallen : Timers → Timers
fallen t = record { dead = t.dead - 1; report = fallen_report t.report }

-- ---- each event starts dead time and, if its multiplier isn't 0, the report timer
unfoldable pub started_report : Rules → Option ℕ
started_report r = cond (eqb r.report 0) None (Some (report_time r))

unfoldable pub started : Rules → Timers
started r = record { dead = dead_time r; report = started_report r }

-- An enabled instance whose report multiplier is above 0: its decision reports, and its report time is above 0.
-- Assumes nothing.
use Prim.Native.Nat.{◌<◌}
use Rattle.sensor.specs.Kind.{repeat, rules, units}
use Rattle.sensor.specs.declared.kind.Kind.TheVariants.{Colour, Light, Movement, Occupancy}
use Rattle.sensor.specs.declared.kind.Kind.{Kind}
use Rattle.sensor.specs.declared.settings.Settings.{Settings}
use Rattle.timers.specs.Pace.{Reporting}
use Rattle.timers.specs.Timers.{report_time}
use mathlib.Core.Bool.{true}
use mathlib.Core.Path.{◌≡◌}
use native.Mathlib.Nat.{mul-pos}
use native.Mathlib.Omega.{arith}

-- every type counts its report time in ticks
unit_positive : (k : Kind) → 0 < (units k).report
unfolding units
unit_positive (Light l) = omega arith
unit_positive (Occupancy o) = omega arith
unit_positive (Movement m) = omega arith
unit_positive (Colour c) = omega arith

module _ (k : Kind) (s : Settings) where
  -- where its filter lets the report out, it is what demand 3 asks of a decision
  pub reporting : s.enabled ≡ true → repeat k s ≡ true → 0 < s.report → Reporting (rules k s)
  unfolding rules
  reporting on lets set = record { on = on; lets = lets; set = set; unit = unit_positive k }

  -- its report time is above 0
  pub report_positive : 0 < s.report → 0 < report_time (rules k s)
  unfolding report_time rules
  report_positive set = omega (arith, mul-pos set (unit_positive k))

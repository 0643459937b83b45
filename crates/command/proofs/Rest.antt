-- What the arm `_` of a `match` on a command knows: its command is none of those that an arm before it took. Each of the others has the same clause in the
-- definition.
-- Assumes nothing.
use Prim.Native.Nat.{ℕ}
use Rattle.command.specs.Setting.{filtered, retimed}
use Rattle.opcode.specs.declared.Command.TheVariants.{Disable, Enable, SetDeadtime, SetFilter, SetHold, SetHysteresis, SetHysteresisMin, SetPriority, SetReport, SetValidFilter}
use Rattle.opcode.specs.declared.Command.{Command}
use Rattle.sensor.specs.declared.kind.Kind.{Kind}
use Rattle.timers.specs.declared.Rules.{Rules}
use Rattle.timers.specs.declared.Timers.{Timers}
use mathlib.Core.Logic.{◌≢◌}
use mathlib.Core.Path.{◌≡◌, refl}

-- every command but SetReport and SetDeadtime keeps the timers
pub same_timers : (t : Timers) (x : Command) (r : Rules) → x ≢ SetReport → x ≢ SetDeadtime → t ≡ retimed t x r
unfolding retimed
same_timers t SetPriority r h k = refl
same_timers t Enable r h k = refl
same_timers t Disable r h k = refl
same_timers t SetFilter r h k = refl
same_timers t SetReport r h k = absurd (h refl)
same_timers t SetDeadtime r h k = absurd (k refl)
same_timers t SetHysteresis r h k = refl
same_timers t SetHysteresisMin r h k = refl
same_timers t SetHold r h k = refl
same_timers t SetValidFilter r h k = refl

-- every command but Disable, SetFilter and SetValidFilter keeps the waiting triggers
pub same_kind : (k : Kind) (x : Command) (filter : ℕ) → x ≢ Disable → x ≢ SetFilter → x ≢ SetValidFilter → k ≡ filtered k x filter
unfolding filtered
same_kind k SetPriority filter a b c = refl
same_kind k Enable filter a b c = refl
same_kind k Disable filter a b c = absurd (a refl)
same_kind k SetFilter filter a b c = absurd (b refl)
same_kind k SetReport filter a b c = refl
same_kind k SetDeadtime filter a b c = refl
same_kind k SetHysteresis filter a b c = refl
same_kind k SetHysteresisMin filter a b c = refl
same_kind k SetHold filter a b c = refl
same_kind k SetValidFilter filter a b c = absurd (c refl)

-- For how many ticks an instance is sure to send nothing, and what it is after them. A type may have a timer of its own (M-100: hold).
-- Assumes nothing.
use Rattle.std.specs.Prelude.{ℕ, min, ◌%◌, ◌-◌, eqb, is_none, Bool, cond, false, not, ◌&&◌, ◌||◌}
use Rattle.sensor.specs.Instance.{with_kind, with_timers}
use Rattle.sensor.specs.Kind.{cause, rules}
use Rattle.sensor.specs.Movement.{shown, with_hold_left}
use Rattle.sensor.specs.Tick.{valid}
use Rattle.sensor.specs.declared.colour.Colour.{Colour}
use Rattle.sensor.specs.declared.instance.Instance.{Instance}
use Rattle.sensor.specs.declared.kind.Kind.TheVariants as kinds
use Rattle.sensor.specs.declared.kind.Kind.{Kind}
use Rattle.sensor.specs.declared.light.Light.{Light}
use Rattle.sensor.specs.declared.movement.Movement.{Movement}
use Rattle.sensor.specs.declared.occupancy.Occupancy.{Occupancy}
use Rattle.sensor.specs.declared.settings.Sample.{Sample}
use Rattle.sensor.specs.declared.settings.Settings.{Settings}
use Rattle.timers.specs.Quiet as gates

-- ---- taking the held sample again does no more than let the type's own timer fall
unfoldable pub light_settled : Light → (held : Sample) → Bool
light_settled l held =
    (eqb l.shown.value held.value && eqb l.shown.status held.status) && (eqb held.status 0 || is_none l.band)

unfoldable pub occupancy_settled : Occupancy → Settings → (held : Sample) → Bool
occupancy_settled o s held =
    cond (eqb held.status 0) (eqb o.value (held.value % 4) && (s.enabled || eqb o.waiting 0)) (eqb o.waiting 0)

unfoldable pub movement_settled : Movement → Settings → (held : Sample) → Bool
movement_settled m s held = occupancy_settled m.seen s (shown m held false) && (eqb m.seen.value 2 || eqb m.hold 0)

unfoldable pub colour_settled : Colour → (held : Sample) → Bool
colour_settled c held = eqb c.shown.value held.value && eqb c.shown.status held.status

unfoldable pub settled : Kind → Settings → (held : Sample) → Bool
settled (kinds.Light l) s held = light_settled l held
settled (kinds.Occupancy o) s held = occupancy_settled o s held
settled (kinds.Movement m) s held = movement_settled m s held
settled (kinds.Colour c) s held = colour_settled c held

-- ---- for how many ticks the type's own timer only falls
-- the hold timer expires where the last of it falls; in a failure it has nothing to say
unfoldable pub movement_falls_for : Movement → (held : Sample) → ℕ
movement_falls_for m held = cond (eqb held.status 0 && eqb m.seen.value 2) (m.hold - 1) gates.forever

unfoldable pub falls_for : Kind → (held : Sample) → ℕ
falls_for (kinds.Light l) held = gates.forever
falls_for (kinds.Occupancy o) held = gates.forever
falls_for (kinds.Movement m) held = movement_falls_for m held
falls_for (kinds.Colour c) held = gates.forever

-- the type after n such ticks
unfoldable pub movement_rested : Movement → (n : ℕ) → Movement
movement_rested m n = with_hold_left (m.hold - n) m

unfoldable pub rested_kind : Kind → (n : ℕ) → Kind
rested_kind (kinds.Light l) n = kinds.Light l
rested_kind (kinds.Occupancy o) n = kinds.Occupancy o
rested_kind (kinds.Movement m) n = kinds.Movement (movement_rested m n)
rested_kind (kinds.Colour c) n = kinds.Colour c

-- ---- of an instance
-- the held sample has been taken, and `failed` is right
unfoldable pub steady : Instance → Bool
steady x = settled x.kind x.settings x.held && cond x.failed (eqb x.held.status 2) (not (eqb x.held.status 2))

-- for how many ticks from now it sends nothing; 0 where the next tick may do more than let timers fall
unfoldable pub quiet_for : Instance → ℕ
quiet_for x =
    cond (steady x)
    (min (falls_for x.kind x.held) (gates.silent_for (rules x.kind x.settings) (valid x) x.timers (cause x.kind x.settings)))
    0

-- the instance after n such ticks
unfoldable pub rested : Instance → (n : ℕ) → Instance
rested x n = with_kind (rested_kind x.kind n) (with_timers (gates.rested x.timers n) x)

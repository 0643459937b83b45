-- M-100: the words in which is said how long a hold time lasts, and how often a movement that is caught is sent.
-- Assumes nothing.
use Rattle.std.specs.Prelude.{ℕ, max, ◌%◌, ◌-◌, ◌/◌, eqb, Bool, cond, ◌≡◌}
use Rattle.sensor.specs.Movement.{area}
use Rattle.sensor.specs.Occupancy.{triggers}
use Rattle.sensor.specs.Tick.{is_event, taken_kind, ticked}
use Rattle.sensor.specs.declared.instance.Instance.{Instance}
use Rattle.sensor.specs.declared.kind.Kind.TheVariants as kinds
use Rattle.sensor.specs.declared.kind.Kind.{Kind}
use Rattle.sensor.specs.declared.movement.Movement.{Movement}
use Rattle.sensor.specs.declared.settings.Sample.{Sample}

-- ---- hold
-- a movement sensor with that value, and so many ticks left of its hold time
pub record Area (k : Kind) (value left : ℕ) : Type 0 where
  pub sensor : Movement
  pub is : k ≡ kinds.Movement sensor
  pub shows : sensor.seen.value ≡ value
  pub holds : sensor.hold ≡ left

-- a sample has movement: bit 0
abbrev pub moves : Sample → Bool
moves held = eqb (held.value % 2) 1

-- the value that a tick with a valid sample comes to, and the triggers that come with it
abbrev pub new_value : Movement → (held : Sample) → ℕ
new_value m held = area m.seen.value (moves held) (eqb (m.hold - 1) 0)

abbrev pub came : Movement → (held : Sample) → ℕ
came m held = triggers m.seen.value (new_value m held)

-- ---- catching
-- 1 where Movement waits, or is let through
abbrev pub movement_in : (bits : ℕ) → ℕ
movement_in bits = bits / 8 % 2

abbrev pub movement_waits : Kind → ℕ
movement_waits (kinds.Light l) = 0
movement_waits (kinds.Occupancy o) = 0
movement_waits (kinds.Movement m) = movement_in m.seen.waiting
movement_waits (kinds.Colour c) = 0

-- 1 where an event may yet be sent for a movement that is caught: the sensor catches, or Movement waits
abbrev pub owed : Kind → ℕ
owed (kinds.Light l) = 0
owed (kinds.Occupancy o) = 0
owed (kinds.Movement m) = max (cond m.catching 1 0) (movement_in m.seen.waiting)
owed (kinds.Colour c) = 0

-- 1 where the next tick sends an event that has Movement among its causes
abbrev pub movement_goes_out : Instance → ℕ
movement_goes_out x = cond (is_event (ticked x).sent) (movement_waits (taken_kind x)) 0

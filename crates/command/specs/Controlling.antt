-- M-100, after IEC 62386-303, 11.7: an instance control instruction changes the sensor and nothing else.
-- Assumes nothing.
use Rattle.std.specs.Prelude.{ℕ, Bool, ◌≡◌}
use Rattle.opcode.specs.declared.Control.TheVariants.{CancelHold, CatchMovement}
use Rattle.opcode.specs.declared.Control.{Control}
use Rattle.sensor.specs.Instance.{with_kind}
use Rattle.sensor.specs.Kind.{cancelled, caught}
use Rattle.sensor.specs.Movement.{with_catching, with_hold_left}
use Rattle.sensor.specs.declared.instance.Instance.{Instance}
use Rattle.sensor.specs.declared.kind.Kind.TheVariants.{Colour, Light, Movement, Occupancy}
use Rattle.sensor.specs.declared.kind.Kind.{Kind}
use Rattle.sensor.specs.declared.settings.Settings.{Settings}

unfoldable pub controlled_kind : Kind → Control → Settings → Kind
controlled_kind k CatchMovement s = caught k s
controlled_kind k CancelHold s = cancelled k

unfoldable pub controlled : Instance → Control → Instance
controlled x control = with_kind (controlled_kind x.kind control x.settings) x

-- the sensor is the same but for catching and the hold timer
abbrev pub ButHoldAndCatching : (k k' : Kind) → Type 0
ButHoldAndCatching (Light l) k' = k' ≡ Light l
ButHoldAndCatching (Occupancy o) k' = k' ≡ Occupancy o
ButHoldAndCatching (Movement m) k' = (left : ℕ) × (catching : Bool) × (k' ≡ Movement (with_hold_left left (with_catching catching m)))
ButHoldAndCatching (Colour c) k' = k' ≡ Colour c

-- and y is x but for these
abbrev pub ButControl : (x y : Instance) → Type 0
ButControl x y = ButHoldAndCatching x.kind y.kind × (y ≡ with_kind y.kind x)

-- Document 01, "Frames", with M-100 and M-104: what a query is answered, with the latch of input_value, and what byte 3 does in all.
-- Assumes nothing.
use Rattle.std.specs.Prelude.{ℕ, ◌%◌, ◌+◌, ◌-◌, ◌/◌, ◌^◌, eqb, ltb, length, Bool, cond, ◌≡◌, Option, Some, None}
use Rattle.command.specs.Controlling.{controlled}
use Rattle.command.specs.Setting.{obeyed}
use Rattle.command.specs.declared.answering.Acted.{Acted}
use Rattle.command.specs.declared.answering.Piece.{Piece}
use Rattle.opcode.specs.Meaning.{meant}
use Rattle.opcode.specs.declared.Meaning.TheVariants.{Act, Ask, Ignored, Set}
use Rattle.opcode.specs.declared.Meaning.{Meaning}
use Rattle.opcode.specs.declared.Query.TheVariants.{QueryColourSensor, QueryNext, QueryValue, QueryVariable}
use Rattle.opcode.specs.declared.Query.{Query}
use Rattle.opcode.specs.declared.Variable.TheVariants.{Catching, Deadtime, Enabled, Error, Filter, Hold, Hysteresis, HysteresisMin, Priority, Report, Resolution, SensorType, Status}
use Rattle.opcode.specs.declared.Variable.{Variable}
use Rattle.rgb.specs.Annex.{parameter, parameters}
use Rattle.sensor.specs.Instance.{with_latch}
use Rattle.sensor.specs.Kind.{catching, input, resolution, sensor_type}
use Rattle.sensor.specs.declared.instance.Instance.{Instance}
use Rattle.std.specs.Bool.{then_some}
use Rattle.widen.specs.Width.{input_bytes}

-- WHAT BYTE 3 LEAVES: the instance, DTR0, which all instances share, and what is answered. Only this lists every part
abbrev pub leaving : Instance → (dtr0 : ℕ) → Option ℕ → Acted
leaving x dtr0 answer = record { instance = x; dtr0 = dtr0; answer = answer }

-- byte k of a value, counted from the lowest
unfoldable pub byte_at : (v k : ℕ) → ℕ
byte_at v k = v / 256 ^ k % 256

-- ---- the variables
-- an answer only while something holds
unfoldable pub only_if : Bool → (byte : ℕ) → Option ℕ
only_if said byte = then_some said byte

-- 83: bit 0 error, bit 1 enabled
unfoldable pub status : (failed enabled : Bool) → ℕ
status failed enabled = cond failed (cond enabled 3 1) (cond enabled 2 0)

unfoldable pub value_of : Instance → Variable → Option ℕ
value_of x SensorType = Some (sensor_type x.kind)
value_of x Resolution = Some (resolution x.kind)
value_of x Error = only_if x.failed 1
value_of x Status = Some (status x.failed x.settings.enabled)
value_of x Priority = Some x.settings.priority
value_of x Enabled = only_if x.settings.enabled 0xFF
value_of x Filter = Some x.settings.filter
value_of x Report = Some x.settings.report
value_of x Deadtime = Some x.settings.deadtime
value_of x Hysteresis = Some x.settings.hysteresis
value_of x HysteresisMin = Some x.settings.minimum
value_of x Hold = Some x.settings.hold
value_of x Catching = only_if (catching x.kind) 0xFF

-- ---- input_value
-- the top of the `left` lowest bytes, and the rest latched; none when used up
unfoldable pub latched : (bytes left : ℕ) → Piece
latched bytes left =
    cond (eqb left 0)
    (record { answer = None; latch = record { left = 0; bytes = bytes } })
    (record { answer = Some (byte_at bytes (left - 1)); latch = record { left = left - 1; bytes = bytes } })

unfoldable pub answered : Instance → Piece → (dtr0 : ℕ) → Acted
answered x l dtr0 = leaving (with_latch l.latch x) dtr0 l.answer

-- ---- M-104, after IEC 62386-305, 11.9.2: the colour query
-- each counts DTR0 up by 1, from 255 to 0
unfoldable pub counted_up : (dtr0 : ℕ) → ℕ
counted_up dtr0 = (dtr0 + 1) % 256

-- a DTR0 behind the table has no answer
unfoldable pub colour_answer : (dtr0 : ℕ) → Option ℕ
colour_answer dtr0 = only_if (ltb dtr0 (length parameters)) (parameter dtr0)

-- ---- a query changes nothing but the latch: 8C latches input_value and answers its top byte, 8D answers the next; and but for DTR0, which 4B counts up
unfoldable pub queried : Instance → Query → (dtr0 : ℕ) → Acted
queried x (QueryVariable variable) dtr0 = leaving x dtr0 (value_of x variable)
queried x QueryValue dtr0 = answered x (latched (input x.kind) (input_bytes (resolution x.kind))) dtr0
queried x QueryNext dtr0 = answered x (latched x.latch.bytes x.latch.left) dtr0
queried x QueryColourSensor dtr0 = leaving x (counted_up dtr0) (colour_answer dtr0)

-- ---- what byte 3 does: a setting command and a control instruction answer nothing; anything else is ignored
unfoldable pub acted_by : Instance → Meaning → (dtr0 : ℕ) → Acted
acted_by x (Set command) dtr0 = leaving (obeyed x command dtr0) dtr0 None
acted_by x (Act control) dtr0 = leaving (controlled x control) dtr0 None
acted_by x (Ask query) dtr0 = queried x query dtr0
acted_by x Ignored dtr0 = leaving x dtr0 None

unfoldable pub acted : Instance → (opcode dtr0 : ℕ) → Acted
acted x opcode dtr0 = acted_by x (meant x.kind opcode) dtr0

-- y is x but for the latch
abbrev pub ButLatch : (x y : Instance) → Type 0
ButLatch x y = y ≡ with_latch y.latch x

-- Document 01, "Frames", with M-100 and M-104: the opcodes of each type, and the command or query that each means. Any other byte is ignored.
-- Assumes nothing.
use Rattle.std.specs.Prelude.{ℕ, eqb, Bool, cond, false, true, List, [], ◌∷◌}
use Rattle.opcode.specs.declared.Command.TheVariants.{Disable, Enable, SetDeadtime, SetFilter, SetHold, SetHysteresis, SetHysteresisMin, SetPriority, SetReport, SetValidFilter}
use Rattle.opcode.specs.declared.Command.{Command}
use Rattle.opcode.specs.declared.Control.TheVariants.{CancelHold, CatchMovement}
use Rattle.opcode.specs.declared.Control.{Control}
use Rattle.opcode.specs.declared.Meaning.TheVariants.{Act, Ask, Ignored, Set}
use Rattle.opcode.specs.declared.Meaning.{Meaning}
use Rattle.opcode.specs.declared.Query.TheVariants.{QueryColourSensor, QueryNext, QueryValue, QueryVariable}
use Rattle.opcode.specs.declared.Query.{Query}
use Rattle.opcode.specs.declared.Variable.TheVariants.{Catching, Deadtime, Enabled, Error, Filter, Hold, Hysteresis, HysteresisMin, Priority, Report, Resolution, SensorType, Status}
use Rattle.sensor.specs.declared.kind.Kind.TheVariants.{Colour, Light, Movement, Occupancy}
use Rattle.sensor.specs.declared.kind.Kind.{Kind}

-- a row of a table: an opcode, and what it means
pub record Case : Type 0 where
  pub opcode : ℕ
  pub means : Meaning

abbrev pub sets : (opcode : ℕ) → Command → Case
sets n command = record { opcode = n; means = Set command }

abbrev pub asks : (opcode : ℕ) → Query → Case
asks n query = record { opcode = n; means = Ask query }

abbrev pub acts : (opcode : ℕ) → Control → Case
acts n control = record { opcode = n; means = Act control }

-- ---- the tables
-- both types, and so movement, which is of type 3, and colour; with the command that 68 means to the type
abbrev pub both_cases : (filter : Command) → List Case
both_cases filter =
    sets 0x61 SetPriority
    ∷ sets 0x62 Enable
    ∷ sets 0x63 Disable
    ∷ sets 0x68 filter
    ∷ asks 0x80 (QueryVariable SensorType)
    ∷ asks 0x81 (QueryVariable Resolution)
    ∷ asks 0x82 (QueryVariable Error)
    ∷ asks 0x83 (QueryVariable Status)
    ∷ asks 0x84 (QueryVariable Priority)
    ∷ asks 0x86 (QueryVariable Enabled)
    ∷ asks 0x8C QueryValue
    ∷ asks 0x8D QueryNext
    ∷ asks 0x90 (QueryVariable Filter)
    ∷ []

-- light
abbrev pub light_cases : List Case
light_cases =
    sets 0x30 SetReport
    ∷ sets 0x31 SetHysteresis
    ∷ sets 0x32 SetDeadtime
    ∷ sets 0x33 SetHysteresisMin
    ∷ asks 0x3C (QueryVariable HysteresisMin)
    ∷ asks 0x3D (QueryVariable Deadtime)
    ∷ asks 0x3E (QueryVariable Report)
    ∷ asks 0x3F (QueryVariable Hysteresis)
    ∷ both_cases SetFilter

-- occupancy
abbrev pub occupancy_cases : List Case
occupancy_cases =
    sets 0x22 SetReport
    ∷ sets 0x23 SetDeadtime
    ∷ asks 0x2C (QueryVariable Deadtime)
    ∷ asks 0x2E (QueryVariable Report)
    ∷ both_cases SetFilter

-- movement (M-100; IEC 62386-303, Table 10)
abbrev pub movement_cases : List Case
movement_cases =
    acts 0x20 CatchMovement
    ∷ sets 0x21 SetHold
    ∷ sets 0x22 SetReport
    ∷ sets 0x23 SetDeadtime
    ∷ acts 0x24 CancelHold
    ∷ asks 0x2C (QueryVariable Deadtime)
    ∷ asks 0x2D (QueryVariable Hold)
    ∷ asks 0x2E (QueryVariable Report)
    ∷ asks 0x2F (QueryVariable Catching)
    ∷ both_cases SetFilter

-- colour (M-104; IEC 62386-305, Table 11; 11.8.2 has set filter anew)
abbrev pub colour_cases : List Case
colour_cases =
    sets 0x40 SetReport
    ∷ sets 0x41 SetHysteresis
    ∷ sets 0x42 SetDeadtime
    ∷ sets 0x43 SetHysteresisMin
    ∷ asks 0x4B QueryColourSensor
    ∷ asks 0x4C (QueryVariable HysteresisMin)
    ∷ asks 0x4D (QueryVariable Deadtime)
    ∷ asks 0x4E (QueryVariable Report)
    ∷ asks 0x4F (QueryVariable Hysteresis)
    ∷ both_cases SetValidFilter

-- ---- what byte 3 means
-- the row of a table whose opcode is n: the first; where there is none it is ignored
unfoldable pub meant_in : List Case → (n : ℕ) → Meaning
meant_in [] n = Ignored
meant_in (c ∷ cs) n = cond (eqb n c.opcode) c.means (meant_in cs n)

unfoldable pub light_meaning : (n : ℕ) → Meaning
light_meaning n = meant_in light_cases n

unfoldable pub occupancy_meaning : (n : ℕ) → Meaning
occupancy_meaning n = meant_in occupancy_cases n

unfoldable pub movement_meaning : (n : ℕ) → Meaning
movement_meaning n = meant_in movement_cases n

unfoldable pub colour_meaning : (n : ℕ) → Meaning
colour_meaning n = meant_in colour_cases n

unfoldable pub meant : Kind → (n : ℕ) → Meaning
meant (Light l) n = light_meaning n
meant (Occupancy o) n = occupancy_meaning n
meant (Movement m) n = movement_meaning n
meant (Colour c) n = colour_meaning n

-- a setting command: 61, 62, 63, 68 and the set opcodes 30 to 33 (light) and 22, 23 (occupancy), with 21 (movement) and 40 to 43 (colour)
unfoldable pub is_setting : Meaning → Bool
is_setting (Set command) = true
is_setting (Act control) = false
is_setting (Ask query) = false
is_setting Ignored = false

-- a control instruction: 20, 24 (movement)
unfoldable pub is_control : Meaning → Bool
is_control (Set command) = false
is_control (Act control) = true
is_control (Ask query) = false
is_control Ignored = false

-- M-104: the colour query, 4B, the one that counts DTR0 up
unfoldable pub counts_up : Meaning → Bool
counts_up (Set command) = false
counts_up (Act control) = false
counts_up (Ask (QueryVariable variable)) = false
counts_up (Ask QueryValue) = false
counts_up (Ask QueryNext) = false
counts_up (Ask QueryColourSensor) = true
counts_up Ignored = false

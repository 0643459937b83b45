-- Document 01, "Marked table": each row with its inputs and the number that is expected; and IEC 62386-304, Table 4.
-- Assumes nothing.
use Rattle.std.specs.Prelude.{ℕ, true, List, [], ◌∷◌}
use Rattle.sensor.specs.Light.{light_units, minimum, width as bandWidth}
use Rattle.timers.specs.Timers.{report_time}
use Rattle.timers.specs.declared.Rules.{Rules}
use Rattle.widen.specs.Width as widths

pub data Row : Type 0 where
  width : (resolution value expected : ℕ) → Row
  information : (resolution value expected : ℕ) → Row
  band : (hysteresis least value expected : ℕ) → Row
  report : (multiplier deadtime expected : ℕ) → Row
  -- Table 4
  least : (resolution expected : ℕ) → Row

abbrev light_rules : (multiplier deadtime : ℕ) → Rules
light_rules multiplier deadtime = record { enabled = true; repeat = true; deadtime = deadtime; report = multiplier; units = light_units }

-- what the definitions say of a row, and what the document expects
abbrev pub said : Row → ℕ
said (width r v x) = widths.input_value v r
said (information r v x) = widths.information v r
said (band h l v x) = bandWidth v h l
said (report m d x) = report_time (light_rules m d)
said (least r x) = minimum r

abbrev pub expected : Row → ℕ
expected (width r v x) = x
expected (information r v x) = x
expected (band h l v x) = x
expected (report m d x) = x
expected (least r x) = x

unfoldable pub marked : List Row
marked =
    width 4 0xE 0xEE
    ∷ width 9 0x1FE 0xFF7F
    ∷ width 18 0x3FFFE 0xFFFFBF
    ∷ width 2 1 0x55
    ∷ information 4 0xE 0x3BB
    ∷ information 9 0x1FE 0x3FD
    ∷ information 8 100 0x191
    ∷ band 5 2 100 5
    ∷ band 5 2 94 4
    ∷ band 5 2 10 2
    ∷ report 30 30 600
    ∷ report 1 255 255
    ∷ []

-- hysteresisMin at start, at every resolution
unfoldable pub table4 : List Row
table4 =
    least 1 0 ∷ least 2 0 ∷ least 3 0 ∷ least 4 0 ∷ least 5 0 ∷ least 6 0 ∷ least 7 1 ∷ least 8 2 ∷ least 9 5 ∷ least 10 10 ∷ least 11 20 ∷ least 12 40
    ∷ least 13 81 ∷ least 14 163 ∷ least 15 255 ∷ least 16 255 ∷ least 17 255 ∷ least 18 255 ∷ least 19 255 ∷ least 20 255 ∷ least 21 255 ∷ least 22 255
    ∷ least 23 255 ∷ least 24 255 ∷ []

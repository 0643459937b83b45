-- Every row of document 01's marked table, and of IEC 62386-304, Table 4, holds: one computation a table.
-- Assumes nothing.
use Rattle.sensor.proofs.Table.{each, every}
use Rattle.sensor.specs.Light.{minimum, width}
use Rattle.sensor.specs.Marked.{Row, expected, marked, said, table4}
use Rattle.timers.specs.Timers.{dead_time, report_time}
use Rattle.widen.specs.Width.{widened}
use lib.Dec.{T, eqb, eqb→eq}
use mathlib.Core.Bool.{Bool}
use mathlib.Core.List.{List, Memᴰ}
use mathlib.Core.Path.{◌≡◌}

-- the definitions give what the row expects
abbrev agrees : Row → Bool
agrees row = eqb (said row) (expected row)

as_expected : (rows : List Row) → T (every agrees rows) → (row : Row) → Memᴰ row rows → said row ≡ expected row
as_expected rows t row m = eqb→eq (said row) (expected row) (each agrees rows t row m)

pub all_marked : (row : Row) → Memᴰ row marked → said row ≡ expected row
unfolding marked widened width report_time dead_time
all_marked = as_expected marked tt

-- hysteresisMin's table equals its formula at every resolution
pub table_4 : (row : Row) → Memᴰ row table4 → said row ≡ expected row
unfolding table4 minimum
table_4 = as_expected table4 tt

-- Document 01, "Session and log records" and number 4, with M-107, M-100 and M-104: what a declaration declares, decided once from its mark, its type and its resolution.
-- Assumes nothing.
use Rattle.std.specs.Prelude.{ℕ, eqb, leb, Bool, cond, ◌&&◌, None, Option, Some}
use Rattle.record.specs.Marks.{IM, IN, LO}
use Rattle.sensor.specs.declared.sensors.Sensor.TheVariants.{Colour, Light, LightOf2017, Movement, Occupancy}
use Rattle.sensor.specs.declared.sensors.Sensor.{Sensor}

-- light has resolution 1 to 24
unfoldable pub light_has : (resolution : ℕ) → Bool
light_has resolution = leb 1 resolution && leb resolution 24

-- IN: type 3 with resolution 2, type 4, or type 5 with resolution 24 (M-104)
unfoldable pub in_declares : (type resolution : ℕ) → Option Sensor
in_declares type resolution =
    cond (eqb type 3 && eqb resolution 2) (Some Occupancy)
    (cond (eqb type 4 && light_has resolution) (Some (Light resolution)) (cond (eqb type 5 && eqb resolution 24) (Some Colour) None))

-- M-107, LO: type 4 alone
unfoldable pub lo_declares : (type resolution : ℕ) → Option Sensor
lo_declares type resolution = cond (eqb type 4 && light_has resolution) (Some (LightOf2017 resolution)) None

-- M-100, IM: type 3 alone
unfoldable pub im_declares : (type resolution : ℕ) → Option Sensor
im_declares type resolution = cond (eqb type 3 && eqb resolution 2) (Some Movement) None

unfoldable pub declared_by : (letters type resolution : ℕ) → Option Sensor
declared_by letters type resolution =
    cond (eqb letters IN) (in_declares type resolution)
    (cond (eqb letters LO) (lo_declares type resolution) (cond (eqb letters IM) (im_declares type resolution) None))

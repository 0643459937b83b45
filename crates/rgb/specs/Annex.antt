-- M-104, after IEC 62386-305, 11.9.2 and Annex A: what a colour query answers of the sensor that is modelled.
-- Assumes nothing.
use Rattle.std.specs.Prelude.{ℕ, ◌%◌, ◌-◌, ◌/◌, leb, get_or, cond, List, [], ◌++◌, ◌∷◌}

-- ---- THE ANNEX'S FIGURES: of each sensing element the longest wavelength at half of its peak sensitivity, that of the peak and the shortest, in nm,
-- and the irradiance of a full scale reading, in µW/cm²
pub record Channel : Type 0 where
  pub upper : ℕ
  pub peak : ℕ
  pub lower : ℕ
  pub irradiance : ℕ

abbrev pub red : Channel
red = record { upper = 675; peak = 650; lower = 625; irradiance = 340 }

abbrev pub green : Channel
green = record { upper = 575; peak = 550; lower = 500; irradiance = 360 }

abbrev pub blue : Channel
blue = record { upper = 525; peak = 475; lower = 450; irradiance = 200 }

-- ---- Table 12: what is answered for DTR0 0, 1, 2 ..
-- M-104: (nm - 300) / 2 rounded down, 0 at 300 or less, 255 at 810 or more
unfoldable pub wavelength : (nm : ℕ) → ℕ
wavelength nm = cond (leb nm 300) 0 (cond (leb 810 nm) 255 ((nm - 300) / 2))

abbrev wavelengths : Channel → List ℕ
wavelengths c = wavelength c.upper ∷ wavelength c.peak ∷ wavelength c.lower ∷ []

-- most significant byte first
abbrev full_scale : Channel → List ℕ
full_scale c = c.irradiance / 256 ∷ c.irradiance % 256 ∷ []

abbrev pub parameters : List ℕ
parameters = wavelengths red ++ (wavelengths green ++ (wavelengths blue ++ (full_scale red ++ (full_scale green ++ full_scale blue))))

unfoldable pub parameter : (dtr0 : ℕ) → ℕ
parameter dtr0 = get_or parameters dtr0 0

-- M-107: the words in which is said that at resolution 8, 16 and 24 LO declares what IN does.
-- Assumes nothing.
use Rattle.std.specs.Prelude.{ℕ, List, [], map, ◌++◌, ◌∷◌, ◌≡◌}
use Rattle.device.specs.Device.{with_instances}
use Rattle.device.specs.declared.model.Model.{Model}
use Rattle.record.specs.Numbers.{bytes2}
use Rattle.sensor.specs.Text.{InRange, as_in}
use Rattle.sensor.specs.declared.instance.Instance.{Instance}
use Rattle.session.specs.Session.{End}

-- the five bytes of a declaration
abbrev pub declaration : (letters instance type resolution : ℕ) → List ℕ
declaration letters instance type resolution = bytes2 letters ++ (instance ∷ type ∷ resolution ∷ [])

-- the device, its sensors of those resolutions as IN declares them
abbrev pub model_as_in : Model → Model
model_as_in m = with_instances (map as_in m.instances) m

-- every value that is held or shown is one of its sensor's resolution
abbrev pub AllInRange : List Instance → Type 0
AllInRange [] = Unit {0}
AllInRange (x ∷ xs) = InRange x × AllInRange xs

-- two devices that differ at most in the text to which sensors of those resolutions are built
pub record Alike (m m' : Model) : Type 0 where
  pub same : model_as_in m ≡ model_as_in m'
  pub range : AllInRange m.instances
  pub range' : AllInRange m'.instances

-- two readings that come to the same number, at the same offset, with the same ticks and the same log, and leave such devices
pub record Same (a b : End) : Type 0 where
  pub number : a.number ≡ b.number
  pub offset : a.offset ≡ b.offset
  pub ticks : a.ticks ≡ b.ticks
  pub log : a.log ≡ b.log
  pub models : Alike a.model b.model

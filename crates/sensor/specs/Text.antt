-- M-107: the words in which is said that at resolution 8, 16 and 24 a sensor built to the text of 2017 behaves as any other.
-- Assumes nothing.
use Rattle.std.specs.Prelude.{ℕ, ◌<◌, ◌^◌, eqb, Bool, cond, ◌||◌}
use Rattle.sensor.specs.Instance.{with_kind}
use Rattle.sensor.specs.Light.{with_basis}
use Rattle.sensor.specs.declared.instance.Instance.{Instance}
use Rattle.sensor.specs.declared.kind.Kind.TheVariants as kinds
use Rattle.sensor.specs.declared.kind.Kind.{Kind}
use Rattle.sensor.specs.declared.light.Basis.TheVariants.{Measured}
use Rattle.sensor.specs.declared.light.Light.{Light}
use Rattle.sensor.specs.declared.settings.Sample.{Sample}

-- the resolutions that fill whole bytes
abbrev pub whole_bytes : (resolution : ℕ) → Bool
whole_bytes resolution = eqb resolution 8 || (eqb resolution 16 || eqb resolution 24)

-- at such a resolution the sensor as IN declares it; else as it is
abbrev pub light_as_in : Light → Light
light_as_in l = with_basis (cond (whole_bytes l.resolution) Measured l.basis) l

abbrev pub kind_as_in : Kind → Kind
kind_as_in (kinds.Light l) = kinds.Light (light_as_in l)
kind_as_in (kinds.Occupancy o) = kinds.Occupancy o
kind_as_in (kinds.Movement m) = kinds.Movement m
kind_as_in (kinds.Colour c) = kinds.Colour c

abbrev pub as_in : Instance → Instance
as_in x = with_kind (kind_as_in x.kind) x

-- what it shows and what it holds are values of its resolution: so in every session, by number 6
abbrev pub Shows : Kind → Type 0
Shows (kinds.Light l) = l.shown.value < 2 ^ l.resolution
Shows (kinds.Occupancy o) = Unit {0}
Shows (kinds.Movement m) = Unit {0}
Shows (kinds.Colour c) = Unit {0}

abbrev pub Takes : Kind → Sample → Type 0
Takes (kinds.Light l) sample = sample.value < 2 ^ l.resolution
Takes (kinds.Occupancy o) sample = Unit {0}
Takes (kinds.Movement m) sample = Unit {0}
Takes (kinds.Colour c) sample = Unit {0}

pub record InRange (x : Instance) : Type 0 where
  pub shows : Shows x.kind
  pub holds : Takes x.kind x.held

-- M-110: that a valid sample was taken for an instance is remembered from SA alone, and a tick neither reads nor changes it.
-- Assumes nothing.
use Rattle.sensor.specs.Instance.{with_measured}
use Rattle.sensor.specs.Tick.{closed, holding, ticked}
use Rattle.sensor.specs.declared.instance.Instance.{Instance}
use Rattle.sensor.specs.declared.settings.Sample.{Sample}
use lib.Dec.{eqb}
use mathlib.Core.Bool.{Bool, ◌||◌}
use mathlib.Core.Path.{ap, refl, ◌≡◌}

pub sample_measured : (x : Instance) (sample : Sample) → (holding x sample).measured ≡ (x.measured || eqb sample.status 0)
unfolding holding
sample_measured x sample = refl

-- whatever is remembered, a tick sends the same, and leaves the same but for that
pub tick_unread : (x : Instance) (b : Bool) → ticked (with_measured b x) ≡ record { instance = with_measured b (ticked x).instance; sent = (ticked x).sent }
unfolding closed ticked
tick_unread x b = refl

pub tick_measured : (x : Instance) → (ticked x).instance.measured ≡ x.measured
tick_measured x = ap (λ t. t.instance.measured) (tick_unread x x.measured)

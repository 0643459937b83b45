-- `ticks::passing::rest` meets its contract.
-- Assumes nothing.
use Rattle.device.specs.Device.{declared_instances}
use Rattle.ticks.proofs.Quiet.{rested_model}
use mathlib.Core.Path.{ap}
use lib.ListN.{length}
use Rattle.ticks.proofs.passing.rest.Goals as goal

pub slice_bounds-rest_all-end : goal.slice_bounds-rest_all-end
slice_bounds-rest_all-end c = c.declared-declared.ensures.few

pub returns : goal.returns
unfolding declared_instances
returns c = rested_model c.args.model.now c.args.n _ (ap length c.declared-declared.ensures.value) c.rest_all.ensures

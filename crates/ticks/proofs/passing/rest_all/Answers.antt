-- `ticks::passing::rest_all` meets its contract.
-- Assumes nothing.
use Rattle.ticks.proofs.Quiet.{rest_turn, resting}
use Rattle.ticks.proofs.Sweep.{sweep_all}
use Rattle.ticks.specs.Tick.{sweep}
use mathlib.Core.Path.{refl, ◌∙◌}
use Rattle.ticks.proofs.passing.rest_all.Goals as goal

pub loop-x-init : goal.loop-x-init
unfolding sweep
loop-x-init c = refl

pub loop-x-preserved : goal.loop-x-preserved
loop-x-preserved c = rest_turn _ _ _ _ _ _ c.loop-x.invariant c.loop-x-test.true c.rested.ensures

pub returns : goal.returns
returns c = c.loop-x.invariant ∙ sweep_all (resting c.args.n) c.loop-x.x-index c.args.instances.now c.loop-x-test.false

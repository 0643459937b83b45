-- `ticks::passing::quiet` meets its contract.
-- Assumes nothing.
use Rattle.ticks.proofs.Quiet.{quiet_asked, quiet_stop, quiet_turn}
use Rattle.ticks.specs.Quiet.{quiet_all}
use mathlib.Core.Path.{refl}
use native.Mathlib.Omega.{arith}
use Rattle.ticks.proofs.passing.quiet.Goals as goal

pub loop-x-init : goal.loop-x-init
unfolding quiet_all
loop-x-init c = refl

pub returns-then-its-eq0 : goal.returns-then-its-eq0
returns-then-its-eq0 c =
    quiet_stop c.args.model.now c.args.most c.loop-x.x-index c.declared-x-items.ensures.value _ c.loop-x-test.true c.quiet_for-its.ensures c.if-its-eq0.true

pub loop-x-preserved : goal.loop-x-preserved
loop-x-preserved c =
    quiet_turn c.args.most _ c.declared-x-items.result.now _ c.loop-x-test.true c.loop-x.invariant c.quiet_for-its.ensures (omega (arith, c.min-ticks.ensures))

pub returns : goal.returns
returns c = quiet_asked c.args.model.now c.args.most c.loop-x.x-index c.declared-x-items.ensures.value c.loop-x-test.false c.loop-x.invariant

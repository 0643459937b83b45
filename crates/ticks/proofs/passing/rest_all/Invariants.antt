-- `ticks::passing::rest_all` meets its contract.
-- Assumes nothing.
use Rattle.ticks.proofs.Quiet.{resting}
use Rattle.ticks.specs.Tick.{sweep}
use mathlib.Core.Path.{◌≡◌}
use Rattle.ticks.proofs.passing.rest_all.Given as goal

abbrev pub invariant-loop-x : goal.invariant-loop-x
invariant-loop-x l = l.instances ≡ sweep l.x-index (resting l.n) l.initial.instances

-- `ticks::passing::quiet` meets its contract.
-- Assumes nothing.
use Rattle.ticks.specs.Quiet.{quiet_all}
use lib.ListN.{take}
use mathlib.Core.Path.{◌≡◌}
use Rattle.ticks.proofs.passing.quiet.Given as goal

abbrev pub invariant-loop-x : goal.invariant-loop-x
invariant-loop-x l = l.ticks ≡ quiet_all l.most (take l.x-index l.x-items)

-- `widen::widened` meets its contract. The loop's invariant: `out` is the filling to the width `have`, which is a number of whole copies.
-- Assumes nothing.
use Prim.Native.Nat.{◌-◌, ◌%◌, ◌<◌}
use Rattle.widen.specs.Width.{widened}
use mathlib.Core.Path.{◌≡◌}
use Rattle.widen.proofs.widened.Given as goal

abbrev pub invariant-loop-have : goal.invariant-loop-have
invariant-loop-have l = (l.out ≡ widened l.value l.size l.have) × (l.have % l.size ≡ 0) × (0 < l.have)

abbrev pub decreases-loop-have : goal.decreases-loop-have
decreases-loop-have l = l.n - l.have

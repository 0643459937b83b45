-- `widen::information` meets its contract: ten bits fit.
-- Assumes nothing.
use Rattle.widen.proofs.Laws.{under}
use native.Mathlib.Omega.{arith}
use Rattle.widen.proofs.information.Goals as goal

pub overflow_cast-result : goal.overflow_cast-result
overflow_cast-result c = record { fits = rw c.widened.ensures (under _ _ _ 16 (omega arith)) }

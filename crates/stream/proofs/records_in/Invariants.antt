-- `stream::records_in` meets its contract: what is left has the records that are not counted yet.
-- Assumes nothing.
use Rattle.std.proofs.Common.{length}
use Rattle.stream.proofs.Records.{Counting}
use Rattle.stream.proofs.records_in.Given as goal

abbrev pub invariant-loop-rest : goal.invariant-loop-rest
invariant-loop-rest l = Counting l.bytes l.rest l.n

abbrev pub decreases-loop-rest : goal.decreases-loop-rest
decreases-loop-rest l = length l.rest

-- `stream::records_in` meets its contract.
-- Assumes nothing.
use Rattle.std.proofs.Common.{◌<◌, length, arith}
use Rattle.std.proofs.lemmas.Bool.Decides.{nat_tests}
use Rattle.stream.proofs.Records.{counting_done, counting_more, counting_start, left_less}
use Rattle.stream.proofs.records_in.Goals as goal

pub loop-rest-init : goal.loop-rest-init
loop-rest-init c = counting_start _

pub loop-rest-smaller : goal.loop-rest-smaller
loop-rest-smaller c = let some : 0 < length c.loop-rest.rest.now = grind (arith, nat_tests) in left_less _ some c.size_at.ensures

pub loop-rest-preserved : goal.loop-rest-preserved
loop-rest-preserved c = let some : 0 < length c.loop-rest.rest.now = grind (arith, nat_tests) in counting_more c.loop-rest.invariant some c.size_at.ensures

pub returns : goal.returns
returns c = counting_done c.loop-rest.invariant (grind (arith, nat_tests))

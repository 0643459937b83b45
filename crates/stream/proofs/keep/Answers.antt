-- `stream::keep` meets its contract.
-- Assumes nothing.
use Rattle.stream.proofs.Moves.{kept}
use Rattle.stream.proofs.keep.Goals as goal

pub returns : goal.returns
returns c = kept c.args.at c.args.end c.args.done c.args.bytes.now c.requires c.to_front.ensures c.shorten.ensures

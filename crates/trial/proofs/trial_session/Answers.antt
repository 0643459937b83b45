-- `trial::trial_session` meets its contract.
-- Assumes nothing.
use Rattle.trial.proofs.Behind.{behind}
use Rattle.trial.specs.Later.{first, later}
use Rattle.trial.proofs.trial_session.Goals as goal

pub returns : goal.returns
unfolding first later
returns c =
    let started = c.fresh.ensures in
    let lent = c.args.log.now in
    behind _ _ _ lent _ _ _ _ (rw started at c.read-left.ensures) c.read_for_c.ensures

-- `device::judged::judge` meets its contract.
-- Assumes nothing.
use Rattle.device.proofs.Laws.{instance_some}
use Rattle.device.specs.Frame.{counts, judged}
use Rattle.device.proofs.judged.judge.Goals as goal

pub returns-in-Some : goal.returns-in-Some
unfolding judged counts
returns-in-Some c =
    let here = instance_some c.args.model.now c.args.frame.second c.in-Some.ensures in
    rw (← c.loads.ensures, c.if-loads.false, ← c.names_instance.ensures, c.if-not-names_instance.false, here.0, ← here.1, ← c.meant.ensures, ← c.is_setting.ensures, c.if-is_setting.true)

pub returns-in-Some-2 : goal.returns-in-Some-2
unfolding judged counts
returns-in-Some-2 c =
    let here = instance_some c.args.model.now c.args.frame.second c.in-Some.ensures in
    rw (← c.loads.ensures, c.if-loads.false, ← c.names_instance.ensures, c.if-not-names_instance.false, here.0, ← here.1, ← c.meant.ensures, ← c.is_setting.ensures, c.if-is_setting.false)

-- `device::model::Model::instance` meets its contract.
-- Assumes nothing.
use Rattle.device.proofs.Laws.{copied, instance_listed, long}
use borrow.Author.Rules.{rules}
use lib.ListN.{length}
use mathlib.Core.Path.{◌∙◌, ◌≡◌}
use Rattle.device.proofs.model.Model.instance.Goals as goal

pub returns : goal.returns
returns c =
    let m = c.args.self.now in
    let all : length m.instances ≡ 16 = search (rules, long) in
    copied _ _ _ c.get.ensures.lookup ∙ rw c.declared.ensures.value (instance_listed m c.args.number all)

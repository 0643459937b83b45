-- UNIQUENESS: any two results, with all that was lent, that satisfy an exported function's promise for the same arguments are equal. `Post` is
-- the promise itself, as the checker reads the function's `ensures`.
-- Assumes nothing.
use Prim.Native.Nat.{ℕ}
use Rattle.device.specs.declared.model.Model.{Model}
use Rattle.promise.specs.Unique.{UniqueLent}
use Rattle.ticks.proofs.Steps.{stepped_once}
use Rattle.ticks.proofs.pass.Kinds as pass-kinds
use Rattle.ticks.proofs.pass.Reads as pass
use mathlib.Core.List.{List}
use mathlib.Core.Path.{ap₂, sym, ◌∙◌}

pub pass_unique : UniqueLent 2 pass-kinds.ps pass-kinds.r pass.Post (Model × List ℕ) (λ κs s. (s.0.now, s.1.1.0.now))
pass_unique κs a x y s t p q =
    let same = stepped_once _ _ _ _ (p.taken ∙ sym q.taken) in
    (same.1, ap₂ (λ m l. (m, l)) same.0 (p.appended.output ∙ sym q.appended.output))

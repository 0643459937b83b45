-- UNIQUENESS: any two results, with all that was lent, that satisfy an exported function's promise for the same arguments are equal. `Post` is
-- the promise itself, as the checker reads the function's `ensures`.
-- Assumes nothing.
use Prim.Native.Nat.{ℕ}
use Rattle.device.proofs.fresh.Kinds as fresh-kinds
use Rattle.device.proofs.fresh.Reads as fresh
use Rattle.device.proofs.judged.Judged.as_repeat.Kinds as Judged-as-repeat-kinds
use Rattle.device.proofs.judged.Judged.as_repeat.Reads as Judged-as-repeat
use Rattle.device.proofs.model.Model.declare.Kinds as Model-declare-kinds
use Rattle.device.proofs.model.Model.declare.Reads as Model-declare
use Rattle.device.proofs.model.Model.declared.Kinds as Model-declared-kinds
use Rattle.device.proofs.model.Model.declared.Reads as Model-declared
use Rattle.device.proofs.model.Model.frame.Kinds as Model-frame-kinds
use Rattle.device.proofs.model.Model.frame.Reads as Model-frame
use Rattle.device.proofs.model.Model.instance.Kinds as Model-instance-kinds
use Rattle.device.proofs.model.Model.instance.Reads as Model-instance
use Rattle.device.proofs.repeats.Kinds as repeats-kinds
use Rattle.device.proofs.repeats.Reads as repeats
use Rattle.device.proofs.Laws.{came_once}
use Rattle.device.proofs.pairs.FramePartialEq.eq.Kinds as Frame-eq-kinds
use Rattle.device.proofs.pairs.FramePartialEq.eq.Reads as Frame-eq
use Rattle.device.specs.declared.model.Model.{Model}
use Rattle.promise.specs.Unique.{Unique, UniqueBehind, UniqueLent}
use Rattle.sensor.specs.declared.instance.Instance.{Instance}
use Rattle.std.specs.Prelude.{Option, option_copied}
use mathlib.Core.List.{List}
use mathlib.Core.Path.{ap₂, refl, sym, ◌∙◌}

pub fresh_unique : Unique 0 fresh-kinds.ps fresh-kinds.r fresh.Post
fresh_unique κs a x y s t p q = p ∙ sym q

pub repeats_unique : Unique 0 repeats-kinds.ps repeats-kinds.r repeats.Post
repeats_unique κs a x y s t p q = p ∙ sym q

pub Judged-as_repeat_unique : Unique 0 Judged-as-repeat-kinds.ps Judged-as-repeat-kinds.r Judged-as-repeat.Post
Judged-as_repeat_unique κs a x y s t p q = p ∙ sym q

pub Model-declared_unique : UniqueBehind 1 Model-declared-kinds.ps Model-declared-kinds.r Model-declared.Post (List Instance) (λ κs. (λ x. x.now))
Model-declared_unique κs a x y s t p q = p.0 ∙ sym q.0

pub Model-instance_unique : UniqueBehind 1 Model-instance-kinds.ps Model-instance-kinds.r Model-instance.Post (Option Instance) (λ κs. option_copied)
Model-instance_unique κs a x y s t p q = p ∙ sym q

pub Model-declare_unique : UniqueLent 1 Model-declare-kinds.ps Model-declare-kinds.r Model-declare.Post Model (λ κs s. s.0.now)
Model-declare_unique κs a x y s t p q = (refl, p ∙ sym q)

pub Model-frame_unique : UniqueLent 2 Model-frame-kinds.ps Model-frame-kinds.r Model-frame.Post (Model × List ℕ) (λ κs s. (s.0.now, s.1.1.0.now))
Model-frame_unique κs a x y s t p q =
    let same = came_once _ _ _ _ (p.taken ∙ sym q.taken) in
    (same.1, ap₂ (λ m l. (m, l)) same.0 (p.appended.output ∙ sym q.appended.output))

-- `==`, which is derived
pub Frame-eq_unique : Unique 2 Frame-eq-kinds.ps Frame-eq-kinds.r Frame-eq.Post
Frame-eq_unique κs a x y s t p q = p ∙ sym q

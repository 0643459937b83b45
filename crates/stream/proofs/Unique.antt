-- UNIQUENESS: any two results, with all that was lent, that satisfy an exported function's promise for the same arguments are equal. `Post` is
-- the promise itself, as the checker reads the function's `ensures`.
-- Assumes nothing.
use Rattle.std.proofs.Common.{ℕ, List, sym, ◌∙◌}
use Rattle.promise.specs.Unique.{Unique, UniqueLent}
use Rattle.stream.proofs.begin.Kinds as begin-kinds
use Rattle.stream.proofs.begin.Reads as begin
use Rattle.stream.proofs.goes_on.Kinds as goes-on-kinds
use Rattle.stream.proofs.goes_on.Reads as goes_on
use Rattle.stream.proofs.next_after.Kinds as next-after-kinds
use Rattle.stream.proofs.next_after.Reads as next-after
use Rattle.stream.proofs.step.Kinds as step-kinds
use Rattle.stream.proofs.step.Reads as step

pub begin_unique : Unique 0 begin-kinds.ps begin-kinds.r begin.Post
begin_unique κs a x y s t p q = p ∙ sym q

pub next_after_unique : Unique 0 next-after-kinds.ps next-after-kinds.r next-after.Post
next_after_unique κs a x y s t p q = p ∙ sym q

pub goes_on_unique : Unique 0 goes-on-kinds.ps goes-on-kinds.r goes_on.Post
goes_on_unique κs a x y s t p q = p ∙ sym q

pub step_unique : UniqueLent 2 step-kinds.ps step-kinds.r step.Post (List ℕ × List ℕ) (λ κs s. (s.1.1.0.now, s.1.1.1.0.now))
step_unique κs a x y s t p q = (p.0 ∙ sym q.0, λ i. ((p.1 ∙ sym q.1) i, (p.2 ∙ sym q.2) i))

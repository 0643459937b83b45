-- `record::buffers::to_front` meets its contract.
-- Assumes nothing.
use Prim.Native.Nat.{ℕ}
use Rattle.record.proofs.Moves.{copied, slice_none, slice_within}
use Rattle.record.specs.Put.{put}
use mathlib.Core.List.{List}
use mathlib.Core.Path.{ap, ◌∙◌}
use native.Mathlib.Omega.{arith}
use Rattle.record.proofs.buffers.to_front.Goals as goal

pub returns-then-start-stop : goal.returns-then-start-stop
returns-then-start-stop c =
    let a = c.args in
    c.copy_within.ensures.after
    ∙ copied a.start c.min-stop.result a.bytes.now (omega arith) (omega arith)
    ∙ ap (λ (l : List ℕ). put 0 l a.bytes.now) (slice_within a.start a.end a.bytes.now c.min-stop.ensures)

pub returns-else-start-stop : goal.returns-else-start-stop
returns-else-start-stop c = slice_none c.args.start c.args.end c.args.bytes.now c.min-stop.ensures (omega arith)

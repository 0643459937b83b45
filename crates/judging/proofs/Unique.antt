-- UNIQUENESS: any two results, with all that was lent, that satisfy an exported function's promise for the same arguments are equal. `Post` is
-- the promise itself, as the checker reads the function's `ensures`.
-- Assumes nothing.
use Rattle.judging.proofs.asked.Refusal.number.Kinds as Refusal-number-kinds
use Rattle.judging.proofs.asked.Refusal.number.Reads as Refusal-number
use Rattle.judging.proofs.record_asked.Kinds as record-asked-kinds
use Rattle.judging.proofs.record_asked.Reads as record-asked
use Rattle.promise.specs.Unique.{Unique}
use mathlib.Core.Path.{sym, ◌∙◌}

pub Refusal-number_unique : Unique 0 Refusal-number-kinds.ps Refusal-number-kinds.r Refusal-number.Post
Refusal-number_unique κs a x y s t p q = p ∙ sym q

pub record_asked_unique : Unique 2 record-asked-kinds.ps record-asked-kinds.r record-asked.Post
record_asked_unique κs a x y s t p q = p.0 ∙ sym q.0

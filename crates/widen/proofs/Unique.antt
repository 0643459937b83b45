-- UNIQUENESS: any two results, with all that was lent, that satisfy an exported function's promise for the same arguments are equal. `Post` is
-- the promise itself, as the checker reads the function's `ensures`.
-- Assumes nothing.
use Rattle.promise.specs.Unique.{Unique}
use Rattle.widen.proofs.information.Kinds as information-kinds
use Rattle.widen.proofs.information.Reads as information
use Rattle.widen.proofs.input_bytes.Kinds as input-bytes-kinds
use Rattle.widen.proofs.input_bytes.Reads as input-bytes
use Rattle.widen.proofs.input_value.Kinds as input-value-kinds
use Rattle.widen.proofs.input_value.Reads as input-value
use Rattle.widen.proofs.mask.Kinds as mask-kinds
use Rattle.widen.proofs.mask.Reads as mask
use Rattle.widen.proofs.widened.Kinds as widened-kinds
use Rattle.widen.proofs.widened.Reads as widened
use mathlib.Core.Path.{sym, ◌∙◌}

pub widened_unique : Unique 0 widened-kinds.ps widened-kinds.r widened.Post
widened_unique κs a x y s t p q = p ∙ sym q

pub input_bytes_unique : Unique 0 input-bytes-kinds.ps input-bytes-kinds.r input-bytes.Post
input_bytes_unique κs a x y s t p q = p ∙ sym q

pub input_value_unique : Unique 0 input-value-kinds.ps input-value-kinds.r input-value.Post
input_value_unique κs a x y s t p q = p ∙ sym q

pub information_unique : Unique 0 information-kinds.ps information-kinds.r information.Post
information_unique κs a x y s t p q = p ∙ sym q

pub mask_unique : Unique 0 mask-kinds.ps mask-kinds.r mask.Post
mask_unique κs a x y s t p q = p ∙ sym q

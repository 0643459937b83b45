-- UNIQUENESS: any two results, with all that was lent, that satisfy an exported function's promise for the same arguments are equal. `Post` is
-- the promise itself, as the checker reads the function's `ensures`.
-- Assumes nothing.
use Rattle.promise.specs.Unique.{Unique}
use Rattle.rgb.proofs.absolute_change.Kinds as absolute-change-kinds
use Rattle.rgb.proofs.absolute_change.Reads as absolute-change
use Rattle.rgb.proofs.information.Kinds as information-kinds
use Rattle.rgb.proofs.information.Reads as information
use Rattle.rgb.proofs.measurable.Kinds as measurable-kinds
use Rattle.rgb.proofs.measurable.Reads as measurable
use Rattle.rgb.proofs.parameter.Kinds as parameter-kinds
use Rattle.rgb.proofs.parameter.Reads as parameter
use Rattle.rgb.proofs.total.Kinds as total-kinds
use Rattle.rgb.proofs.total.Reads as total
use mathlib.Core.Path.{sym, ◌∙◌}

pub measurable_unique : Unique 0 measurable-kinds.ps measurable-kinds.r measurable.Post
measurable_unique κs a x y s t p q = p ∙ sym q

pub absolute_change_unique : Unique 0 absolute-change-kinds.ps absolute-change-kinds.r absolute-change.Post
absolute_change_unique κs a x y s t p q = p ∙ sym q

pub total_unique : Unique 0 total-kinds.ps total-kinds.r total.Post
total_unique κs a x y s t p q = p ∙ sym q

pub information_unique : Unique 0 information-kinds.ps information-kinds.r information.Post
information_unique κs a x y s t p q = p ∙ sym q

pub parameter_unique : Unique 0 parameter-kinds.ps parameter-kinds.r parameter.Post
parameter_unique κs a x y s t p q = p ∙ sym q

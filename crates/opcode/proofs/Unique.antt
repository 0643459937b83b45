-- UNIQUENESS: any two results, with all that was lent, that satisfy an exported function's promise for the same arguments are equal. `Post` is
-- the promise itself, as the checker reads the function's `ensures`.
-- Assumes nothing.
use Rattle.opcode.proofs.colour_meaning.Kinds as colour-meaning-kinds
use Rattle.opcode.proofs.colour_meaning.Reads as colour-meaning
use Rattle.opcode.proofs.is_setting.Kinds as is-setting-kinds
use Rattle.opcode.proofs.is_setting.Reads as is-setting
use Rattle.opcode.proofs.light_meaning.Kinds as light-meaning-kinds
use Rattle.opcode.proofs.light_meaning.Reads as light-meaning
use Rattle.opcode.proofs.meant.Kinds as meant-kinds
use Rattle.opcode.proofs.meant.Reads as meant
use Rattle.opcode.proofs.movement_meaning.Kinds as movement-meaning-kinds
use Rattle.opcode.proofs.movement_meaning.Reads as movement-meaning
use Rattle.opcode.proofs.occupancy_meaning.Kinds as occupancy-meaning-kinds
use Rattle.opcode.proofs.occupancy_meaning.Reads as occupancy-meaning
use Rattle.promise.specs.Unique.{Unique}
use mathlib.Core.Path.{sym, ◌∙◌}

pub light_meaning_unique : Unique 0 light-meaning-kinds.ps light-meaning-kinds.r light-meaning.Post
light_meaning_unique κs a x y s t p q = p ∙ sym q

pub occupancy_meaning_unique : Unique 0 occupancy-meaning-kinds.ps occupancy-meaning-kinds.r occupancy-meaning.Post
occupancy_meaning_unique κs a x y s t p q = p ∙ sym q

pub movement_meaning_unique : Unique 0 movement-meaning-kinds.ps movement-meaning-kinds.r movement-meaning.Post
movement_meaning_unique κs a x y s t p q = p ∙ sym q

pub colour_meaning_unique : Unique 0 colour-meaning-kinds.ps colour-meaning-kinds.r colour-meaning.Post
colour_meaning_unique κs a x y s t p q = p ∙ sym q

pub meant_unique : Unique 0 meant-kinds.ps meant-kinds.r meant.Post
meant_unique κs a x y s t p q = p ∙ sym q

pub is_setting_unique : Unique 0 is-setting-kinds.ps is-setting-kinds.r is-setting.Post
is_setting_unique κs a x y s t p q = p ∙ sym q

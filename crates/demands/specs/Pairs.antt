-- M-105: the words in which is said how the two frames of a pair come.
-- Assumes nothing.
use Rattle.std.specs.Prelude.{ℕ, false, true, List, [], ◌∷◌, ◌≡◌}
use Rattle.demands.specs.Happenings.{Happening, declare, frame, hold, tick}
use Rattle.device.specs.Frame.{again, counts, sets}
use Rattle.device.specs.declared.model.Model.{Model}

-- "with no frame between": declarations, samples and ticks alone
abbrev pub NoFrame : List Happening → Type 0
NoFrame [] = Unit {0}
NoFrame (declare sensor ∷ hs) = NoFrame hs
NoFrame (hold i sample ∷ hs) = NoFrame hs
NoFrame (frame first second third ∷ hs) = ⊥
NoFrame (tick ∷ hs) = NoFrame hs

-- "the first of a pair": a frame that counts, is a setting command to its instance, and is not the repeat of another
pub record FirstHalf (m : Model) (first second third : ℕ) : Type 0 where
  pub counted : counts m first second ≡ true
  pub setting : sets m second third ≡ true
  pub new : again m first second third ≡ false

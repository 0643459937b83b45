-- M-100: the words in which is said of a device how long a hold time lasts, and how often a movement that is caught is sent.
-- Assumes nothing.
use Rattle.std.specs.Prelude.{ℕ, ◌+◌, false, true, List, [], ◌∷◌, ◌≢◌, ◌≡◌}
use Rattle.demands.specs.Happenings.{Happening, declare, frame, happen, hold, tick}
use Rattle.device.specs.Device.{instance_at}
use Rattle.device.specs.Frame.{counts}
use Rattle.device.specs.declared.model.Model.{Model}
use Rattle.opcode.specs.Meaning.{meant}
use Rattle.opcode.specs.declared.Control.TheVariants.{CancelHold, CatchMovement}
use Rattle.opcode.specs.declared.Control.{Control}
use Rattle.opcode.specs.declared.Meaning.TheVariants.{Act}
use Rattle.sensor.specs.Moving.{movement_goes_out, movement_in, moves}
use Rattle.sensor.specs.Tick.{valid}

-- a frame that counts for instance i does not mean that control instruction to it
abbrev pub Without : Control → (i : ℕ) → Model → (first second third : ℕ) → Type 0
Without c i m first second third = counts m first second ≡ true → i ≡ second → meant (instance_at m i).kind third ≢ Act c

-- ---- "no movement, cancel, or failure comes": at no tick, and in no frame
abbrev pub Still : (i : ℕ) → Model → Happening → Type 0
Still i m (declare sensor) = Unit {0}
Still i m (hold j sample) = Unit {0}
Still i m (frame first second third) = Without CancelHold i m first second third
Still i m tick = (valid (instance_at m i) ≡ true) × (moves (instance_at m i).held ≡ false)

abbrev pub StillAll : (i : ℕ) → Model → List Happening → Type 0
StillAll i m [] = Unit {0}
StillAll i m (h ∷ hs) = Still i m h × StillAll i (happen m h) hs

-- ---- Movement is out of the filter of instance i, and no catch comes
abbrev pub Uncaught : (i : ℕ) → Model → Happening → Type 0
Uncaught i m (declare sensor) = Unit {0}
Uncaught i m (hold j sample) = Unit {0}
Uncaught i m (frame first second third) = Without CatchMovement i m first second third
Uncaught i m tick = movement_in (instance_at m i).settings.filter ≡ 0

abbrev pub UncaughtAll : (i : ℕ) → Model → List Happening → Type 0
UncaughtAll i m [] = Unit {0}
UncaughtAll i m (h ∷ hs) = Uncaught i m h × UncaughtAll i (happen m h) hs

-- the events of instance i that have Movement among their causes
unfoldable pub movements_sent : (i : ℕ) → Model → List Happening → ℕ
movements_sent i m [] = 0
movements_sent i m (declare sensor ∷ hs) = movements_sent i (happen m (declare sensor)) hs
movements_sent i m (hold j sample ∷ hs) = movements_sent i (happen m (hold j sample)) hs
movements_sent i m (frame first second third ∷ hs) = movements_sent i (happen m (frame first second third)) hs
movements_sent i m (tick ∷ hs) = movement_goes_out (instance_at m i) + movements_sent i (happen m tick) hs

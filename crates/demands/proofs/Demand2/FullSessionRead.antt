-- Document 01's full session read from the fresh model: with room for its log, and with a byte too few.
-- Assumes nothing.
use Rattle.demands.proofs.Shared.FullSession.{computing, full, full_log, numbers}
use Rattle.device.specs.Device.{fresh}
use Rattle.record.specs.Log.{AN, EV, bytes_of}
use Rattle.session.specs.Session.{session, for_c}
use mathlib.Core.List.{[], ◌∷◌}
use mathlib.Core.Path.{refl, ◌≡◌}

-- with room for its log: all taken, and the log is document 01's
pub whole : (for_c (session fresh full 28) ≡ numbers 0 32 28 0)
    × ((session fresh full 28).log ≡ (EV 1 0 4 0x191 ∷ EV 31 0 4 0x179 ∷ AN 41 0 0x5E ∷ []))
    × (bytes_of (session fresh full 28).log ≡ full_log)
unfolding computing
whole = (refl, refl, refl)

-- with a byte too few for the answer: the frame is refused
no_answer : (for_c (session fresh full 27) ≡ numbers 9 27 20 0) × ((session fresh full 27).log ≡ (EV 1 0 4 0x191 ∷ EV 31 0 4 0x179 ∷ []))
unfolding computing
no_answer = (refl, refl)

-- with a byte too few for the second event: 29 ticks of the second TK stand
no_event : (for_c (session fresh full 19) ≡ numbers 9 23 10 29) × ((session fresh full 19).log ≡ (EV 1 0 4 0x191 ∷ []))
unfolding computing
no_event = (refl, refl)

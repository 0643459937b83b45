-- Document 01's full session through short buffers, in two pieces.
-- Assumes nothing.
use Prim.Native.Nat.{ℕ}
use Rattle.demands.proofs.Shared.FullSession.{computing, full}
use Rattle.demands.specs.Streams.{Held, over, over_by, start, streamed, turn_by, turned}
use Rattle.device.specs.Device.{fresh}
use Rattle.record.specs.Log.{AN, EV}
use Rattle.stream.specs.Stream.{next_after, remaining, unread}
use lib.ListN.{drop, replicate, take}
use mathlib.Core.Bool.{true}
use mathlib.Core.List.{List, [], ◌∷◌}
use mathlib.Core.Path.{refl, ◌≡◌}

-- in two pieces, cut inside the mark of the first TK: after number 2 more input, and with 20 bytes of output both events, then after 9 the
-- answer; with 15 bytes the second event waits for a TK of the 11 ticks that remain
abbrev pieces : List (List ℕ)
pieces = take 13 full ∷ drop 13 full ∷ []

abbrev run : (turns room : ℕ) → Held
run turns room = streamed (replicate turns room) (start fresh pieces)

in_pieces : ((run 1 20).number ≡ 2) × ((run 1 20).unread ≡ (0x54 ∷ []))
    × ((run 2 20).number ≡ 9) × ((run 2 20).offset ≡ 27)
    × (over (run 3 20) ≡ true) × ((run 3 20).number ≡ 0) × ((run 3 20).offset ≡ 32) × ((run 3 20).log ≡ (EV 1 0 4 0x191 ∷ EV 31 0 4 0x179 ∷ AN 41 0 0x5E ∷ []))
    × ((run 2 15).number ≡ 9) × ((run 2 15).unread ≡ (0x54 ∷ 0x4B ∷ 0x00 ∷ 0x0B ∷ 0x46 ∷ 0x52 ∷ 0x01 ∷ 0x00 ∷ 0x8C ∷ []))
    × (over (run 4 15) ≡ true) × ((run 4 15).offset ≡ 32) × ((run 4 15).log ≡ (EV 1 0 4 0x191 ∷ EV 31 0 4 0x179 ∷ AN 41 0 0x5E ∷ []))
unfolding computing streamed turn_by turned over_by next_after remaining unread
in_pieces = (refl, refl, refl, refl, refl, refl, refl, refl, refl, refl, refl, refl, refl)

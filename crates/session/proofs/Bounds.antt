-- The bounds of a reading: what is written has room, and the offset lies in the session.
-- Assumes nothing.
use Prim.Native.Nat.{ℕ, suc, zero, ◌+◌, ◌-◌, ◌≤◌}
use Rattle.device.specs.Frame.{frame_log}
use Rattle.device.specs.declared.model.Model.{Model}
use Rattle.judging.proofs.Asking.{asked_size}
use Rattle.judging.specs.Asked.{asked, size_of}
use Rattle.judging.specs.declared.asked.Asked.TheVariants.{Declare, Frame, Hold, Ticks}
use Rattle.judging.specs.declared.asked.Asked.{Asked}
use Rattle.judging.specs.declared.asked.Refusal.{Refusal}
use Rattle.record.proofs.Log.{bytes_append}
use Rattle.record.specs.Log.{Logged, bytes_of}
use Rattle.session.proofs.Laws.{ticking_refused, ticking_taken}
use Rattle.session.specs.Session.{Step, fits, outcome, reading, refused, session, step, taken, ticking, for_c}
use Rattle.std.specs.Prelude.{Err, Ok, Result}
use Rattle.ticks.specs.Tick.{tick_log, tick_model}
use borrow.Author.Tests.{leb-true}
use lib.ListN.{drop, length, length-append, length-drop}
use mathlib.Core.Bool.{Bool, false, true}
use mathlib.Core.List.{List, [], ◌++◌, ◌∷◌}
use mathlib.Core.Path.{refl, ◌≡◌}
use native.Mathlib.Omega.{arith}

-- ---- the log
fits_within : (room : ℕ) (log more : List Logged) → fits room log more ≡ true → length (bytes_of log) ≤ room → length (bytes_of (log ++ more)) ≤ room
unfolding fits
fits_within room log more e h =
    let l : length (bytes_of more) ≤ room - length (bytes_of log) = leb-true _ _ e in
    rw (bytes_append, length-append) (omega arith)

-- the log of a step has room
abbrev Within : (room : ℕ) → Step → Type 0
Within room (taken m log) = length (bytes_of log) ≤ room
Within room (refused why ticks m log) = length (bytes_of log) ≤ room

ticking_within : (n done room : ℕ) (m : Model) (log : List Logged) → length (bytes_of log) ≤ room → Within room (ticking n done room m log)
unfolding ticking
ticking_within zero done room m log h = h
ticking_within (suc n) done room m log h =
    by (fits room log (tick_log m)) refl
    (λ e. ticking_within n (done + 1) room (tick_model m) (log ++ tick_log m) (fits_within room log (tick_log m) e h))
  where
    by : (b : Bool) → fits room log (tick_log m) ≡ b
        → (fits room log (tick_log m) ≡ true → Within room (ticking n (done + 1) room (tick_model m) (log ++ tick_log m)))
        → Within room (ticking (suc n) done room m log)
    by true e more = rw (ticking_taken n done room m log e) (more e)
    by false e more = rw (ticking_refused n done room m log e) h

step_within : (a : Result Asked Refusal) (room : ℕ) (m : Model) (log : List Logged) → length (bytes_of log) ≤ room → Within room (step a room m log)
unfolding step
step_within (Err why) room m log h = h
step_within (Ok (Declare sensor)) room m log h = h
step_within (Ok (Hold i sample)) room m log h = h
step_within (Ok (Frame x y z)) room m log h = by (fits room log (frame_log m x y z)) refl
  where
    by : (b : Bool) → fits room log (frame_log m x y z) ≡ b → Within room (step (Ok (Frame x y z)) room m log)
    by true e = rw (e, step) (fits_within room log (frame_log m x y z) e h)
    by false e = rw (e, step) h
step_within (Ok (Ticks n)) room m log h = ticking_within n 0 room m log h

pub reading_within : (most : ℕ) (rest : List ℕ) (room at : ℕ) (m : Model) (log : List Logged) → length (bytes_of log) ≤ room
    → length (bytes_of (reading most rest room at m log).log) ≤ room
unfolding reading
reading_within zero rest room at m log h = h
reading_within (suc most) [] room at m log h = h
reading_within (suc most) (b ∷ rest) room at m log h =
    by (step a room m log) refl (step_within a room m log h)
    (λ m' log' h'. reading_within most (drop (size_of a) (b ∷ rest)) room (at + size_of a) m' log' h')
  where
    a : Result Asked Refusal
    a = asked (b ∷ rest) m

    by : (s : Step) → step (asked (b ∷ rest) m) room m log ≡ s → Within room s
        → ((m' : Model) (log' : List Logged) → length (bytes_of log') ≤ room
        → length (bytes_of (reading most (drop (size_of (asked (b ∷ rest) m)) (b ∷ rest)) room (at + size_of (asked (b ∷ rest) m)) m' log').log) ≤ room)
        → length (bytes_of (reading (suc most) (b ∷ rest) room at m log).log) ≤ room
    by (taken m' log') e w more = rw (e, reading) (more m' log' w)
    by (refused why ticks m' log') e w more = rw (e, reading) w

-- WRITTEN: no more than there is room for
pub session_within : (m : Model) (input : List ℕ) (room : ℕ) → length (bytes_of (session m input room).log) ≤ room
unfolding session bytes_of
session_within m input room = reading_within (length input) input room 0 m [] (omega arith)

pub outcome_within : (m : Model) (input : List ℕ) (room : ℕ) → (outcome (session m input room)).written ≤ room
unfolding outcome
outcome_within m input room = session_within m input room

pub for_c_within : (m : Model) (input : List ℕ) (room : ℕ) → (for_c (session m input room)).written ≤ room
unfolding for_c
for_c_within m input room = session_within m input room

-- ---- the offset
reading_offset : (most : ℕ) (rest : List ℕ) (room at : ℕ) (m : Model) (log : List Logged) → (reading most rest room at m log).offset ≤ at + length rest
unfolding reading
reading_offset zero rest room at m log = omega arith
reading_offset (suc most) [] room at m log = omega arith
reading_offset (suc most) (b ∷ rest) room at m log =
    by (step a room m log) refl (λ m' log'. reading_offset most (drop (size_of a) (b ∷ rest)) room (at + size_of a) m' log')
  where
    a : Result Asked Refusal
    a = asked (b ∷ rest) m

    by : (s : Step) → step (asked (b ∷ rest) m) room m log ≡ s
        → ((m' : Model) (log' : List Logged)
        → (reading most (drop (size_of (asked (b ∷ rest) m)) (b ∷ rest)) room (at + size_of (asked (b ∷ rest) m)) m' log').offset
        ≤ at + size_of (asked (b ∷ rest) m) + length (drop (size_of (asked (b ∷ rest) m)) (b ∷ rest)))
        → (reading (suc most) (b ∷ rest) room at m log).offset ≤ at + length (b ∷ rest)
    by (taken m' log') e more =
        let s = asked_size (b ∷ rest) m in
        let l = length-drop (size_of (asked (b ∷ rest) m)) (b ∷ rest) in
        rw (e, reading) (omega (arith, more m' log', s, l))
    by (refused why ticks m' log') e more = rw (e, reading) (omega arith)

-- OFFSET: in the session, or at its end
pub session_offset : (m : Model) (input : List ℕ) (room : ℕ) → (session m input room).offset ≤ length input
unfolding session
session_offset m input room = omega (arith, reading_offset (length input) input room 0 m [])

pub outcome_offset : (m : Model) (input : List ℕ) (room : ℕ) → (outcome (session m input room)).offset ≤ length input
unfolding outcome
outcome_offset m input room = session_offset m input room

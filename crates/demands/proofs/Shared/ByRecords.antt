-- A session, record by record: its first record is taken, or refused; and what holds through each record holds of every session.
-- Assumes nothing.
use Prim.Native.Nat.{ℕ, zero, suc, ◌+◌, ◌-◌, ◌<◌, ◌≤◌}
use Rattle.demands.proofs.Shared.Behind.{reading_onward}
use Rattle.demands.specs.Stands.{behind}
use Rattle.device.specs.declared.model.Model.{Model}
use Rattle.judging.specs.Asked.{asked, size_of}
use Rattle.judging.specs.Refusals.{number_of}
use Rattle.judging.specs.declared.asked.Refusal.{Refusal}
use Rattle.record.specs.Log.{Logged, bytes_of}
use Rattle.session.proofs.Kept.{taken_size}
use Rattle.session.proofs.Records.{ended, enough, next, read_next}
use Rattle.session.specs.Session.{End, Step, reading, refused, session, step, taken}
use lib.ListN.{drop, length, length-drop}
use mathlib.Core.List.{List, [], ◌∷◌}
use mathlib.Core.Path.{ap, refl, ◌∙◌, ◌≡◌}
use native.Mathlib.Nat.{zero-add}
use native.Mathlib.Omega.{arith}

-- nothing to read
pub session_none : (m : Model) (room : ℕ) → session m [] room ≡ ended 0 0 0 m []
unfolding session reading
session_none m room = refl

-- its first record is taken: the rest is a session from where that left
pub session_taken : (m : Model) (xs : List ℕ) (room : ℕ) {m' : Model} {log : List Logged} → 0 < length xs → step (asked xs m) room m [] ≡ taken m' log
    → session m xs room ≡ behind (size_of (asked xs m)) log (session m' (drop (size_of (asked xs m)) xs) (room - length (bytes_of log)))
unfolding session
session_taken m [] room h e = absurd (omega arith)
session_taken m (b ∷ xs) room {m'} {log} h e =
    read_next (length xs) (b ∷ xs) room 0 m [] h
    ∙ ap (next (length xs) (b ∷ xs) s room 0) e
    ∙ enough (length xs) (length rest) rest room (0 + s) m' log (rw length-drop (omega (arith, z))) (omega arith)
    ∙ ap (λ at. reading (length rest) rest room at m' log) (zero-add s)
    ∙ reading_onward (length rest) rest room s m' log
  where
    s : ℕ
    s = size_of (asked (b ∷ xs) m)

    rest : List ℕ
    rest = drop s (b ∷ xs)

    z : 0 < size_of (asked (b ∷ xs) m)
    z = taken_size (asked (b ∷ xs) m) room m [] e

-- it is refused
pub session_refused : (m : Model) (xs : List ℕ) (room : ℕ) {why : Refusal} {t : ℕ} {m' : Model} {log : List Logged} → 0 < length xs
    → step (asked xs m) room m [] ≡ refused why t m' log → session m xs room ≡ ended (number_of why) 0 t m' log
unfolding session
session_refused m [] room h e = absurd (omega arith)
session_refused m (b ∷ xs) room h e = read_next (length xs) (b ∷ xs) room 0 m [] h ∙ ap (next (length xs) (b ∷ xs) (size_of (asked (b ∷ xs) m)) room 0) e

-- ---- BY RECORDS: what holds of an empty session, goes through each record that is taken, and holds where one is refused, holds of every session
module _
    (P : Model → List ℕ → (room : ℕ) → End → Type 0)
    (empty : (m : Model) (room : ℕ) → P m [] room (ended 0 0 0 m []))
    (took :
    (m : Model) (xs : List ℕ) (room : ℕ) (m' : Model) (log : List Logged) → 0 < length xs → step (asked xs m) room m [] ≡ taken m' log
    → (r : End) → P m' (drop (size_of (asked xs m)) xs) (room - length (bytes_of log)) r → P m xs room (behind (size_of (asked xs m)) log r))
    (left_off :
    (m : Model) (xs : List ℕ) (room : ℕ) (why : Refusal) (t : ℕ) (m' : Model) (log : List Logged) → 0 < length xs
    → step (asked xs m) room m [] ≡ refused why t m' log → P m xs room (ended (number_of why) 0 t m' log))
  where
    by_most : (n : ℕ) (m : Model) (xs : List ℕ) (room : ℕ) → length xs ≤ n → P m xs room (session m xs room)
    by_most zero m [] room h = rw (session_none m room) (empty m room)
    by_most zero m (b ∷ xs) room h = absurd (omega arith)
    by_most (suc n) m [] room h = rw (session_none m room) (empty m room)
    by_most (suc n) m (b ∷ xs) room h =
        go (step (asked (b ∷ xs) m) room m []) refl
        (λ m' left l. by_most n m' (drop (size_of (asked (b ∷ xs) m)) (b ∷ xs)) left l)
      where
        rest : List ℕ
        rest = drop (size_of (asked (b ∷ xs) m)) (b ∷ xs)

        go : (o : Step) → step (asked (b ∷ xs) m) room m [] ≡ o
            → ((m' : Model) (left : ℕ) → length rest ≤ n → P m' rest left (session m' rest left)) → P m (b ∷ xs) room (session m (b ∷ xs) room)
        go (taken m' log) e ih =
            let z = taken_size (asked (b ∷ xs) m) room m [] e in
            rw (session_taken m (b ∷ xs) room (omega arith) e)
            (took m (b ∷ xs) room m' log (omega arith) e (session m' rest (room - length (bytes_of log)))
            (ih m' (room - length (bytes_of log)) (rw length-drop (omega (arith, z)))))
        go (refused why t m' log) e ih = rw (session_refused m (b ∷ xs) room (omega arith) e) (left_off m (b ∷ xs) room why t m' log (omega arith) e)

    pub by_records : (m : Model) (xs : List ℕ) (room : ℕ) → P m xs room (session m xs room)
    by_records m xs room = by_most (length xs) m xs room (omega arith)

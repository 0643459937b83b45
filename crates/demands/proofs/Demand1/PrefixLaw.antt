-- The prefix law: what stands of a session, read again, is taken whole and leaves the same model and the same log.
-- Assumes nothing.
use Prim.Native.Nat.{ℕ, zero, suc, ◌+◌, ◌-◌, ◌<◌, ◌≤◌}
use Rattle.demands.proofs.Shared.ByRecords.{by_records, session_none, session_taken}
use Rattle.demands.proofs.Shared.FirstRecord.{first_same}
use Rattle.demands.specs.Stands.{behind, stands, taken_whole, time_record}
use Rattle.device.specs.declared.model.Model.{Model}
use Rattle.judging.proofs.Asking.{asked_size, cut, last_left, time_left}
use Rattle.judging.specs.Asked.{asked, size_of}
use Rattle.judging.specs.Refusals.{number_of}
use Rattle.judging.specs.declared.asked.Asked.TheVariants.{Ticks}
use Rattle.judging.specs.declared.asked.Refusal.{Refusal}
use Rattle.record.specs.Log.{Logged, bytes_of}
use Rattle.session.proofs.Kept.{Kept, part_left, refused_kept, same_left}
use Rattle.session.proofs.Records.{ended}
use Rattle.session.specs.Session.{End, refused, session, step, taken}
use Rattle.std.specs.Prelude.{Ok}
use Rattle.stream.proofs.TimeRecord.{time_asked}
use lib.ListN.{drop, length, length-append, take}
use lib.Seq.{drop_at, length-take-le, take-add}
use mathlib.Core.List.{List, [], append_assoc, append-nil, ◌++◌}
use mathlib.Core.Path.{ap, subst, sym, ◌∙◌, ◌≡◌}
use native.Mathlib.Omega.{arith}

-- what stands of xs comes to the same
abbrev Stands : Model → List ℕ → (room : ℕ) → End → Type 0
Stands m xs room r = session m (stands r xs) room ≡ taken_whole (length (stands r xs)) r

-- behind a record that is taken
stands_took : (m : Model) (xs : List ℕ) (room : ℕ) (m' : Model) (log : List Logged) → 0 < length xs → step (asked xs m) room m [] ≡ taken m' log → (r : End)
    → Stands m' (drop (size_of (asked xs m)) xs) (room - length (bytes_of log)) r → Stands m xs room (behind (size_of (asked xs m)) log r)
stands_took m xs room m' log some e r ih = subst (λ l. session m l room ≡ taken_whole (length l) (behind size log r)) (sym split) law
  where
    size : ℕ
    size = size_of (asked xs m)

    tail : List ℕ
    tail = stands r (drop size xs)

    within : size ≤ length xs
    within = asked_size xs m

    long : length (take size xs) ≡ size
    long = length-take-le size xs within

    split : stands (behind size log r) xs ≡ take size xs ++ tail
    split = ap (λ l. l ++ time_record r.ticks) (take-add size r.offset xs) ∙ append_assoc (take size xs) _ _

    law : session m (take size xs ++ tail) room ≡ taken_whole (length (take size xs ++ tail)) (behind size log r)
    law =
        first_same m xs tail room some e (take size xs ++ tail) (cut size xs tail within)
        ∙ ap (λ l. behind size log (session m' l (room - length (bytes_of log)))) (drop_at (take size xs) tail size long)
        ∙ ap (behind size log) ih
        ∙ ap (λ n. taken_whole n (behind size log r)) (sym (length-append (take size xs) tail ∙ ap (λ n. n + length tail) long))

-- a record that is refused
stands_left : (m : Model) (xs : List ℕ) (room : ℕ) (why : Refusal) (t : ℕ) (m' : Model) (log : List Logged) → Kept (asked xs m) room m [] (refused why t m' log)
    → Stands m xs room (ended (number_of why) 0 t m' log)
unfolding step size_of
stands_left m xs room why zero m' log k = let (p, q) = same_left k in rw (p, q) (session_none m room)
stands_left m xs room why (suc t) m' log k =
    let (fewer, e, full) = part_left k in
    let a : asked (time_record (suc t)) m ≡ Ok (Ticks (suc t)) = time_asked (suc t) [] m (omega arith) (omega (arith, time_left xs m)) (omega (arith, last_left xs m (omega arith))) in
    let s : step (asked (time_record (suc t)) m) room m [] ≡ taken m' log = ap (λ a. step a room m []) a ∙ e in
    session_taken m (time_record (suc t)) room (omega arith) s
    ∙ ap (λ a. behind (size_of a) log (session m' (drop (size_of a) (time_record (suc t))) (room - length (bytes_of log)))) a
    ∙ ap (behind 4 log) (session_none m' (room - length (bytes_of log)))
    ∙ ap (ended 0 4 0 m') (append-nil log)

-- THE PREFIX LAW
pub prefix : (m : Model) (xs : List ℕ) (room : ℕ)
    → session m (stands (session m xs room) xs) room ≡ taken_whole (length (stands (session m xs room) xs)) (session m xs room)
prefix m xs room =
    by_records Stands (λ m room. session_none m room) stands_took
    (λ m xs room why t m' log some e. stands_left m xs room why t m' log (refused_kept (asked xs m) room m [] e))
    m xs room

-- The rest of a session: what is unread after a reading, read from the model that it left, comes to what one call on the whole comes to. A call
-- with more room goes on where the one with less ran out of it, inside a TK too.
-- Assumes nothing.
use Prim.Native.Nat.{ℕ, zero, suc, ◌+◌, ◌-◌, ◌<◌, ◌≤◌}
use Rattle.demands.proofs.Shared.Behind.{behind_behind, behind_nothing}
use Rattle.demands.proofs.Shared.ByRecords.{by_records, session_refused, session_taken}
use Rattle.demands.proofs.Shared.FirstRecord.{first_extended}
use Rattle.demands.specs.Stands.{behind, room_after, written}
use Rattle.device.specs.declared.model.Model.{Model}
use Rattle.judging.proofs.Asking.{alone, as_ticks, asked_size, extended, last_left, ticks_of, time_left}
use Rattle.judging.specs.Asked.{asked, size_of}
use Rattle.judging.specs.Refusals.{number_of}
use Rattle.judging.specs.declared.asked.Asked.TheVariants.{Ticks}
use Rattle.judging.specs.declared.asked.Refusal.{Refusal}
use Rattle.record.proofs.Log.{bytes_append}
use Rattle.record.specs.Log.{Logged}
use Rattle.record.specs.Marks.{mark_size, ticks}
use Rattle.record.specs.declared.marks.Mark.TheVariants.{Time}
use Rattle.session.proofs.Kept.{Kept, part_left, refused_kept, same_left}
use Rattle.session.proofs.Records.{after_log, ended, step_behind}
use Rattle.session.proofs.Room.{later, nothing_left, room_behind, roomier, size, ticked, ticking_later}
use Rattle.session.specs.Session.{End, Step, refused, session, step, taken, ticking}
use Rattle.std.specs.Prelude.{Ok}
use Rattle.stream.proofs.TimeRecord.{remaining_ticks, time_asked}
use Rattle.stream.specs.Stream.{remaining, unread}
use lib.ListN.{drop, length, length-append}
use lib.Seq.{drop-append-le, drop-drop}
use mathlib.Core.List.{List, [], append-nil, ◌++◌}
use mathlib.Core.Path.{ap, ap₂, refl, sym, ◌∙◌, ◌≡◌}
use native.Mathlib.Nat.{add-zero, zero-add}
use native.Mathlib.Omega.{arith}

-- ---- what a session comes to from what its first record comes to
abbrev from : (long : ℕ) → (rest : List ℕ) → (room : ℕ) → Step → End
from long rest room (taken m log) = behind long log (session m rest (room - size log))
from long rest room (refused why t m log) = ended (number_of why) 0 t m log

session_from : (m : Model) (xs : List ℕ) (room : ℕ) → 0 < length xs
    → session m xs room ≡ from (size_of (asked xs m)) (drop (size_of (asked xs m)) xs) room (step (asked xs m) room m [])
session_from m xs room some = go (step (asked xs m) room m []) refl
  where
    go : (o : Step) → step (asked xs m) room m [] ≡ o → session m xs room ≡ from (size_of (asked xs m)) (drop (size_of (asked xs m)) xs) room o
    go (taken m' log) e = session_taken m xs room some e
    go (refused why t m' log) e = session_refused m xs room some e

-- an end but for its ticks
abbrev pub untimed : End → End
untimed e = record { model = e.model; number = e.number; offset = e.offset; ticks = 0; log = e.log }

from_later : (k long : ℕ) (rest : List ℕ) (big : ℕ) (log : List Logged) (o : Step)
    → untimed (from long rest big (later k (after_log log o))) ≡ untimed (behind 0 log (from long rest (big - size log) o))
from_later k long rest big log (taken m more) =
    ap untimed
    (ap₂ (λ n room. behind n (log ++ more) (session m rest room)) (sym (zero-add long)) (sym (room_behind big log more))
    ∙ sym (behind_behind 0 long log more (session m rest (big - size log - size more))))
from_later k long rest big log (refused why t m more) = refl

-- ---- a TK of which some ticks were carried out: what remains of it is a TK of the others
module _ (m : Model) (xs ys : List ℕ) (room big t : ℕ) (m' : Model) (log : List Logged)
    (fewer : suc t < ticks_of (asked xs m)) (stand : ticking (suc t) 0 room m [] ≡ taken m' log) (enough : size log ≤ big) where
  abbrev n : ℕ
  n = ticks_of (asked xs m)

  -- the ticks that remain
  abbrev j : ℕ
  j = n - suc t

  here : asked xs m ≡ Ok (Ticks n)
  here = as_ticks (asked xs m) (omega arith)

  sized : size_of (asked xs m) ≡ 4
  unfolding size_of
  sized = ap size_of here

  long : mark_size Time ≤ length xs
  long = omega (arith, sized, asked_size xs m)

  whole : asked (xs ++ ys) m ≡ Ok (Ticks n)
  whole = alone xs m (omega (arith, sized)) (xs ++ ys) (extended (size_of (asked xs m)) xs ys (omega (arith, sized, long))) ∙ here

  others : asked ((ticks j ++ drop (mark_size Time) xs) ++ ys) m' ≡ Ok (Ticks j)
  others =
      let k = ticked (suc t) 0 room big m [] m' log stand in
      time_asked j (drop (mark_size Time) xs ++ ys) m' (omega arith) (omega (arith, k.rise, time_left xs m))
      (omega (arith, k.rise, k.last, last_left xs m (omega arith)))

  steps : step (Ok (Ticks n)) big m [] ≡ later (suc t) (after_log log (step (Ok (Ticks j)) (big - size log) m' []))
  unfolding step
  steps =
      let all : n ≡ suc t + j = omega arith in
      ap (λ i. ticking i 0 big m []) all
      ∙ (ticked (suc t) 0 room big m [] m' log stand).onward enough j
      ∙ ap (λ i. ticking j i big m' log) (zero-add (suc t) ∙ sym (add-zero (suc t)))
      ∙ ticking_later (suc t) j 0 big m' log
      ∙ ap (later (suc t)) (ap (ticking j 0 big m') (sym (append-nil log)) ∙ step_behind big log (Ok (Ticks j)) m' [])

  rest_onward : untimed (session m (xs ++ ys) big) ≡ untimed (behind 0 log (session m' (remaining (suc t) xs ++ ys) (big - size log)))
  unfolding size_of
  rest_onward =
      ap untimed
      (session_from m (xs ++ ys) big (rw length-append (omega (arith, long)))
      ∙ ap (λ a. from (size_of a) (drop (size_of a) (xs ++ ys)) big (step a big m [])) whole
      ∙ ap₂ (λ l o. from 4 l big o) (drop-append-le 4 xs ys long) steps)
      ∙ from_later (suc t) (mark_size Time) (drop (mark_size Time) xs ++ ys) big log (step (Ok (Ticks j)) (big - size log) m' [])
      ∙ ap (λ e. untimed (behind 0 log e))
      (sym
      (ap (λ l. session m' (l ++ ys) (big - size log)) (remaining_ticks m xs t fewer)
      ∙ session_from m' ((ticks j ++ drop (mark_size Time) xs) ++ ys) (big - size log) (omega arith)
      ∙ ap (λ a. from (size_of a) (drop (size_of a) ((ticks j ++ drop (mark_size Time) xs) ++ ys)) (big - size log) (step a (big - size log) m' [])) others))

-- ---- every reading
abbrev Onward : Model → List ℕ → (room : ℕ) → End → Type 0
Onward m xs room r = (ys : List ℕ) (big : ℕ) → written r ≤ big
    → untimed (session m (xs ++ ys) big) ≡ untimed (behind r.offset r.log (session r.model (unread r xs ++ ys) (room_after big r)))

-- nothing was read
unread_nothing : (m : Model) (xs ys : List ℕ) (big : ℕ) → session m (xs ++ ys) big ≡ behind 0 [] (session m (xs ++ ys) (big - size []))
unread_nothing m xs ys big = ap (session m (xs ++ ys)) (sym (nothing_left big)) ∙ sym (behind_nothing (session m (xs ++ ys) (big - size [])))

onward_took : (m : Model) (xs : List ℕ) (room : ℕ) (m' : Model) (log : List Logged) → 0 < length xs → step (asked xs m) room m [] ≡ taken m' log → (r : End)
    → Onward m' (drop (size_of (asked xs m)) xs) (room - size log) r → Onward m xs room (behind (size_of (asked xs m)) log r)
unfolding unread
onward_took m xs room m' log some e r ih ys big h =
    let both : size (log ++ r.log) ≡ size log + size r.log = rw (bytes_append, length-append) in
    let s = size_of (asked xs m) in
    let rest = unread r (drop s xs) ++ ys in
    ap untimed (first_extended m xs ys big some (roomier (asked xs m) room big m [] m' log e (omega arith)))
    ∙ ap (λ x. untimed (behind s log x)) (ih ys (big - size log) (omega arith))
    ∙ ap untimed
    (behind_behind s r.offset log r.log (session r.model rest (big - size log - size r.log))
    ∙ ap₂ (λ l k. behind (s + r.offset) (log ++ r.log) (session r.model (remaining r.ticks l ++ ys) k))
    (drop-drop r.offset s xs) (room_behind big log r.log))

onward_left : (m : Model) (xs : List ℕ) (room : ℕ) (why : Refusal) (t : ℕ) (m' : Model) (log : List Logged) → Kept (asked xs m) room m [] (refused why t m' log)
    → Onward m xs room (ended (number_of why) 0 t m' log)
unfolding unread remaining
onward_left m xs room why zero m' log k ys big h = let (p, q) = same_left k in rw (p, q) (ap untimed (unread_nothing m xs ys big))
onward_left m xs room why (suc t) m' log k ys big h =
    let (fewer, stand, full) = part_left k in
    rest_onward m xs ys room big t m' log fewer stand h

-- THE REST OF A SESSION, from where a reading left off: the same model, number, offset and log as in one call, whatever follows, with any
-- room that holds what the reading wrote
pub onward : (m : Model) (xs ys : List ℕ) (room big : ℕ) → written (session m xs room) ≤ big
    → untimed (session m (xs ++ ys) big)
    ≡ untimed (behind (session m xs room).offset (session m xs room).log
    (session (session m xs room).model (unread (session m xs room) xs ++ ys) (room_after big (session m xs room))))
unfolding unread remaining
onward m xs ys room big h =
    by_records Onward (λ m room ys big h. ap untimed (unread_nothing m [] ys big)) onward_took
    (λ m xs room why t m' log some e. onward_left m xs room why t m' log (refused_kept (asked xs m) room m [] e))
    m xs room ys big h

-- Each turn of the small program goes on where the ones before left off, and once it is over it came to what one call comes to.
-- Assumes nothing.
use Prim.Native.Nat.{ℕ, ◌+◌, ◌-◌, ◌≤◌}
use Rattle.demands.proofs.Shared.Behind.{behind_behind}
use Rattle.demands.proofs.Streams.RefusedAgain.{Still, still}
use Rattle.demands.proofs.Streams.RestOfSession.{onward, untimed}
use Rattle.demands.specs.Stands.{behind}
use Rattle.demands.specs.Streams.{Held, fed, joined, next_turn, over, over_by, result, streamed, turn, turn_by, turned}
use Rattle.record.proofs.Log.{bytes_append}
use Rattle.session.proofs.Records.{ended}
use Rattle.session.proofs.Room.{room_behind, size}
use Rattle.session.specs.Session.{End, session}
use Rattle.stream.proofs.AfterNumber.{after_nine}
use Rattle.stream.specs.Stream.{next_after, unread}
use Rattle.stream.specs.declared.Next.TheVariants.{EmptiedOutput, MoreInput, Over}
use Rattle.stream.specs.declared.Next.{Next}
use borrow.Author.Tests.{ne_eqb}
use lib.Dec.{eqb}
use lib.ListN.{length-append}
use mathlib.Core.Bool.{Bool, cond, false, false≢true, true}
use mathlib.Core.List.{List, [], append_assoc, append-nil, ◌++◌, ◌∷◌}
use mathlib.Core.Logic.{◌≢◌}
use mathlib.Core.Path.{ap, ap₂, refl, sym, ◌∙◌, ◌≡◌}
use native.Mathlib.Nat.{add-zero}
use native.Mathlib.Omega.{arith}

-- ---- a turn goes on where the ones before left off
-- what one call with so much room comes to, from what the program has
abbrev rest : (big : ℕ) → Held → End
rest big h = untimed (behind h.offset h.log (session h.model (h.unread ++ joined h.coming) (big - size h.log)))

abbrev StillHeld : Held → Type 0
StillHeld h = Still h.model h.unread h.number

module _ (room : ℕ) where
  turn_rest : (h : Held) (big : ℕ) → size (turn room h).log ≤ big → rest big h ≡ rest big (turn room h)
  unfolding turned
  turn_rest h big enough =
      let e = session h.model h.unread room in
      let both : size (h.log ++ e.log) ≡ size h.log + size e.log = rw (bytes_append, length-append) in
      let left = session e.model (unread e h.unread ++ joined h.coming) in
      ap (behind h.offset h.log) (onward h.model h.unread (joined h.coming) room (big - size h.log) (omega arith))
      ∙ ap untimed
      (behind_behind h.offset e.offset h.log e.log (left (big - size h.log - size e.log))
      ∙ ap (λ k. behind (h.offset + e.offset) (h.log ++ e.log) (left k)) (room_behind big h.log e.log))

  next_rest : (h : Held) (big : ℕ) → size (next_turn room h).log ≤ big → rest big h ≡ rest big (next_turn room h)
  unfolding turn_by joined
  next_rest h big enough = go (next_after h.number) h.coming refl enough
    where
      go : (n : Next) (coming : List (List ℕ)) → h.coming ≡ coming → size (turn_by n coming room h).log ≤ big → rest big h ≡ rest big (turn_by n coming room h)
      go MoreInput [] e enough = refl
      go MoreInput (piece ∷ pieces) e enough =
          ap (λ l. untimed (behind h.offset h.log (session h.model l (big - size h.log))))
          (ap (λ c. h.unread ++ joined c) e ∙ sym (append_assoc h.unread piece (joined pieces)))
          ∙ turn_rest (fed h piece pieces) big enough
      go EmptiedOutput coming e enough = turn_rest h big enough
      go Over coming e enough = refl

  turn_still : (h : Held) → StillHeld (turn room h)
  unfolding turned
  turn_still h = still h.model h.unread room

  turn_longer : (h : Held) → size h.log ≤ size (turn room h).log
  unfolding turned
  turn_longer h = rw (bytes_append, length-append) (omega arith)

  next_still : (h : Held) → StillHeld h → StillHeld (next_turn room h)
  unfolding turn_by
  next_still h s = go (next_after h.number) h.coming
    where
      go : (n : Next) (coming : List (List ℕ)) → StillHeld (turn_by n coming room h)
      go MoreInput [] = s
      go MoreInput (piece ∷ pieces) = turn_still (fed h piece pieces)
      go EmptiedOutput coming = turn_still h
      go Over coming = s

  next_longer : (h : Held) → size h.log ≤ size (next_turn room h).log
  unfolding turn_by
  next_longer h = go (next_after h.number) h.coming
    where
      go : (n : Next) (coming : List (List ℕ)) → size h.log ≤ size (turn_by n coming room h).log
      go MoreInput [] = omega arith
      go MoreInput (piece ∷ pieces) = turn_longer (fed h piece pieces)
      go EmptiedOutput coming = turn_longer h
      go Over coming = omega arith

longer : (rooms : List ℕ) (h : Held) → size h.log ≤ size (streamed rooms h).log
unfolding streamed
longer [] h = omega arith
longer (room ∷ rooms) h = omega (arith, next_longer room h, longer rooms (next_turn room h))

-- ---- over: where no more input is to come, after every number but 9
pub over_number : (number : ℕ) (coming : List (List ℕ)) → over_by (next_after number) coming ≡ true → number ≢ 9
unfolding next_after over_by
over_number number coming o nine = false≢true (rw nine at o)

pub number_over : (number : ℕ) → number ≢ 9 → over_by (next_after number) [] ≡ true
unfolding next_after over_by
number_over number n = rw (ne_eqb number 9 n) (go (eqb number 0) (eqb number 2))
  where
    go : (a b : Bool) → over_by (cond a MoreInput (cond b MoreInput Over)) [] ≡ true
    go true b = refl
    go false true = refl
    go false false = refl

over_rest : (h : Held) (big : ℕ) → StillHeld h → over h ≡ true → rest big h ≡ result h
unfolding over_by joined
over_rest h big s o = go (next_after h.number) refl h.coming refl o
  where
    nothing : session h.model (h.unread ++ joined h.coming) (big - size h.log) ≡ ended h.number 0 0 h.model [] → rest big h ≡ result h
    nothing z =
        ap (λ x. untimed (behind h.offset h.log x)) z
        ∙ ap₂ (λ at log. ended h.number at 0 h.model log) (add-zero h.offset) (append-nil h.log)

    go : (n : Next) → next_after h.number ≡ n → (coming : List (List ℕ)) → h.coming ≡ coming → over_by n coming ≡ true → rest big h ≡ result h
    go MoreInput e [] c o =
        nothing (ap (λ l. session h.model l (big - size h.log)) (ap (λ k. h.unread ++ joined k) c ∙ append-nil h.unread)
        ∙ s.alone (after_nine h.number e) (big - size h.log))
    go MoreInput e (piece ∷ pieces) c o = absurd (false≢true o)
    go EmptiedOutput e coming c o = absurd (false≢true o)
    go Over e coming c o = nothing (s.final e (joined h.coming) (big - size h.log))

-- TURN AFTER TURN, up to where it is over
pub streams_from : (rooms : List ℕ) (h : Held) → StillHeld h → over (streamed rooms h) ≡ true → (big : ℕ) → size (streamed rooms h).log ≤ big
    → rest big h ≡ result (streamed rooms h)
unfolding streamed
streams_from [] h s o big enough = over_rest h big s o
streams_from (room ∷ rooms) h s o big enough =
    next_rest room h big (omega (arith, longer rooms (next_turn room h)))
    ∙ streams_from rooms (next_turn room h) (next_still room h s) o big enough

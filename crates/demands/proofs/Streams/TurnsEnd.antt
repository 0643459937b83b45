-- The small program comes to be over: with room for the records of one tick, each turn after a 9 carries out something.
-- Assumes nothing.
use Prim.Native.Nat.{ℕ, zero, suc, ◌-◌, ◌<◌, ◌≤◌}
use Rattle.demands.proofs.Demand1.{offset_refused, tick_of_nine}
use Rattle.demands.proofs.Shared.ByRecords.{session_refused, session_taken}
use Rattle.demands.proofs.Shared.NoRoom.{full_answer, now_full}
use Rattle.demands.proofs.Shared.OneInstance.{run_length}
use Rattle.demands.proofs.Shared.Runs.{session_model}
use Rattle.demands.proofs.Streams.TurnsGoOn.{number_over}
use Rattle.demands.specs.Happenings.{carried}
use Rattle.demands.specs.Numbers.{NoRoomAfter}
use Rattle.demands.specs.Streams.{Held, fed, next_turn, over, over_by, start, streamed, turn, turn_by, turned}
use Rattle.device.proofs.Instances.{frame_most}
use Rattle.device.specs.declared.model.Model.{Model}
use Rattle.judging.proofs.Asking.{by_kinds, count_of, ticks_of}
use Rattle.judging.specs.Asked.{asked}
use Rattle.judging.specs.Refusals.{number_of}
use Rattle.judging.specs.declared.asked.Asked.TheVariants.{Frame, Ticks}
use Rattle.judging.specs.declared.asked.Refusal.{Refusal}
use Rattle.record.specs.Log.{Logged}
use Rattle.record.specs.Numbers.{byte, word}
use Rattle.session.proofs.Kept.{part_left, refused_kept, taken_size, taken≢refused}
use Rattle.session.proofs.Room.{nothing_left}
use Rattle.session.specs.Session.{Step, refused, session, step, taken}
use Rattle.std.specs.Prelude.{Err, Ok}
use Rattle.stream.proofs.AfterNumber.{after_emptied}
use Rattle.stream.proofs.Moves.{unread_long}
use Rattle.stream.proofs.TimeRecord.{count, remaining_ticks}
use Rattle.stream.specs.Stream.{next_after, remaining, unread}
use Rattle.stream.specs.declared.Next.TheVariants.{EmptiedOutput, MoreInput, Over}
use Rattle.stream.specs.declared.Next.{Next}
use Rattle.ticks.proofs.Laws.{tick_most}
use lib.ListN.{length, replicate}
use mathlib.Core.Bool.{true}
use mathlib.Core.List.{List, [], ◌∷◌}
use mathlib.Core.Logic.{inl, inr, ◌≢◌, ◌⊎◌}
use mathlib.Core.Path.{ap, ap₂, refl, subst, sym, ◌∙◌, ◌≡◌}
use native.Mathlib.Decide.{ℕ_discrete}
use native.Mathlib.Omega.{arith}

-- no reading changes how many instances the device has
session_length : (m : Model) (xs : List ℕ) (room : ℕ) → length (session m xs room).model.instances ≡ length m.instances
session_length m xs room = ap (λ k. length k.instances) (session_model m xs room) ∙ run_length m (carried m xs room)

-- ---- a turn with room for the records of one tick, and for one answer, that ends by 9 carries out something
module _ (m : Model) (xs : List ℕ) (room : ℕ) (few : length m.instances ≤ 16) (enough : 160 ≤ room) where
  -- the first record, if it is refused by 9
  ticks_some : (why : Refusal) (t : ℕ) (m' : Model) (log : List Logged) → step (asked xs m) room m [] ≡ refused why t m' log → number_of why ≡ 9 → 0 < t
  unfolding step
  ticks_some why t m' log =
      by_kinds (λ a. step a room m [] ≡ refused why t m' log → number_of why ≡ 9 → 0 < t) xs m refuse
      (λ sensor e n. absurd (taken≢refused e)) (λ e n. absurd (taken≢refused e)) (answer (byte xs 2) (byte xs 3) (byte xs 4)) (λ h k e n. tick_some (word xs 2) e)
    where
      refuse : (w : Refusal) → number_of w ≢ 9 → step (Err w) room m [] ≡ refused why t m' log → number_of why ≡ 9 → 0 < t
      refuse w other e n = let same : w ≡ why = cc in absurd (other (ap number_of same ∙ n))

      answer : (a b c : ℕ) → step (Ok (Frame a b c)) room m [] ≡ refused why t m' log → number_of why ≡ 9 → 0 < t
      answer a b c e n = absurd (omega (arith, full_answer a b c room m [] e, frame_most m a b c, nothing_left room))

      tick_some : (n : ℕ) → step (Ok (Ticks n)) room m [] ≡ refused why t m' log → 0 < t
      tick_some n e = by t (tick_of_nine n room m [] e).2
        where
          by : (t : ℕ) → NoRoomAfter t room m [] → 0 < t
          by zero h = absurd (omega (arith, now_full room m [] h, tick_most m, nothing_left room))
          by (suc t) h = omega arith

-- what is unread is shorter, or begins with a TK of fewer ticks
abbrev Less : (xs ys : List ℕ) → Type 0
Less xs ys = (length xs < length ys) ⊎ ((length xs ≤ length ys) × (word xs 2 < word ys 2))

module _ (m : Model) (xs : List ℕ) (room : ℕ) (few : length m.instances ≤ 16) (enough : 160 ≤ room) (nine : (session m xs room).number ≡ 9) where
  some : 0 < length xs
  some = omega (arith, offset_refused m xs room (omega arith))

  fewer_ticks : (why : Refusal) (t : ℕ) (m' : Model) (log : List Logged) → step (asked xs m) room m [] ≡ refused why t m' log → 0 < t
      → word (remaining t xs) 2 < word xs 2
  fewer_ticks why zero m' log e h = absurd (omega arith)
  fewer_ticks why (suc t) m' log e h =
      let (fewer, stand, full) = part_left (refused_kept (asked xs m) room m [] e) in
      let n : ticks_of (asked xs m) ≡ word xs 2 = count_of xs m (omega arith) in
      rw (remaining_ticks m xs t fewer) (omega (arith, count (ticks_of (asked xs m) - suc t)))

  less : Less (unread (session m xs room) xs) xs
  unfolding unread
  less = go (step (asked xs m) room m []) refl
    where
      go : (o : Step) → step (asked xs m) room m [] ≡ o → Less (unread (session m xs room) xs) xs
      go (taken m' log) e =
          let at = ap (λ r. r.offset) (session_taken m xs room some e) in
          inl (omega (arith, unread_long (session m xs room) xs, at, taken_size (asked xs m) room m [] e, offset_refused m xs room (omega arith)))
      go (refused why t m' log) e =
          let r = session_refused m xs room some e in
          let number = ap (λ r. r.number) r in
          let there : unread (session m xs room) xs ≡ remaining t xs = ap (λ r. unread r xs) r in
          inr (
            omega (arith, unread_long (session m xs room) xs),
            rw there (fewer_ticks why t m' log e (ticks_some m xs room few enough why t m' log e (omega arith))),
          )

-- ---- so after some number of turns it is over
module _ (room : ℕ) (enough : 160 ≤ room) where
  abbrev Ends : Held → Type 0
  Ends h = (turns : ℕ) × (over (streamed (replicate turns room) h) ≡ true)

  abbrev Small : Held → Type 0
  Small h = length h.model.instances ≤ 16

  -- all with fewer pieces to come than p
  abbrev Fewer : (p : ℕ) → Type 0
  Fewer p = (h : Held) → Small h → length h.coming < p → Ends h

  turn_small : (h : Held) → Small h → Small (turn room h)
  unfolding turned
  turn_small h s = omega (arith, session_length h.model h.unread room)

  turn_coming : (h : Held) → (turn room h).coming ≡ h.coming
  unfolding turned
  turn_coming h = refl

  ends_now : (h : Held) → over h ≡ true → Ends h
  unfolding streamed
  ends_now h o = (0, o)

  ends_next : (h : Held) {k : Held} → next_turn room h ≡ k → Ends k → Ends h
  unfolding streamed
  ends_next h e (n, o) = (suc n, subst (λ k. over (streamed (replicate n room) k) ≡ true) (sym e) o)

  -- after another number than 9: over, or the next turn has a piece less to come
  ends_other : (p : ℕ) → Fewer p → (h : Held) → Small h → length h.coming ≤ p → h.number ≢ 9 → Ends h
  unfolding turn_by over_by
  ends_other p fewer h s few n = go h.coming refl
    where
      go : (coming : List (List ℕ)) → h.coming ≡ coming → Ends h
      go [] c = ends_now h (rw c (number_over h.number n))
      go (piece ∷ pieces) c = by (next_after h.number) refl
        where
          by : (k : Next) → next_after h.number ≡ k → Ends h
          by MoreInput e =
              ends_next h (ap₂ (λ k c. turn_by k c room h) e c)
              (fewer (turn room (fed h piece pieces)) (turn_small (fed h piece pieces) s)
              (omega (arith, ap length c, ap length (turn_coming (fed h piece pieces)))))
          by EmptiedOutput e = absurd (n (after_emptied h.number e))
          by Over e = ends_now h (rw e refl)

  module _ (p : ℕ) (fewer : Fewer p) where
    -- all after a 9 with less unread than l bytes
    abbrev Shorter : (l : ℕ) → Type 0
    Shorter l = (h : Held) → Small h → length h.coming ≤ p → h.number ≡ 9 → length h.unread < l → Ends h

    -- a turn after a 9, where those that end by 9 with as much unread but fewer ticks are known to end
    ends_nine : (l : ℕ) → Shorter l → (h : Held) → Small h → length h.coming ≤ p → h.number ≡ 9 → length h.unread ≤ l
        → (word (turn room h).unread 2 < word h.unread 2 → length (turn room h).unread ≤ l → (turn room h).number ≡ 9 → Ends (turn room h)) → Ends h
    unfolding turned turn_by next_after
    ends_nine l shorter h s few nine long onward = ends_next h (rw nine) (go (ℕ_discrete (session h.model h.unread room).number 9))
      where
        by : (turn room h).number ≡ 9 → Less (turn room h).unread h.unread → Ends (turn room h)
        by again (inl less) = shorter (turn room h) (turn_small h s) few again (omega arith)
        by again (inr (as_long, less)) = onward less (omega arith) again

        go : Dec ((turn room h).number ≡ 9) → Ends (turn room h)
        go (yes again) = by again (less h.model h.unread room s enough again)
        go (no other) = ends_other p fewer (turn room h) (turn_small h s) few other

    by_count : (l : ℕ) → Shorter l → (n : ℕ) (h : Held) → Small h → length h.coming ≤ p → h.number ≡ 9
        → length h.unread ≤ l → word h.unread 2 ≤ n → Ends h
    by_count l shorter zero h s few nine long most = ends_nine l shorter h s few nine long (λ less as_long again. absurd (omega arith))
    by_count l shorter (suc n) h s few nine long most =
        ends_nine l shorter h s few nine long
        (λ less as_long again. by_count l shorter n (turn room h) (turn_small h s) (rw (turn_coming h) few) again as_long (omega arith))

    by_length : (l : ℕ) → Shorter l
    by_length zero h s few nine short = absurd (omega arith)
    by_length (suc l) h s few nine short = by_count l (by_length l) (word h.unread 2) h s few nine (omega arith) (omega arith)

  by_pieces : (p : ℕ) → Fewer p
  by_pieces zero h s few = absurd (omega arith)
  by_pieces (suc p) h s few = go (ℕ_discrete h.number 9) (by_pieces p)
    where
      go : Dec (h.number ≡ 9) → Fewer p → Ends h
      go (yes nine) fewer = by_length p fewer (suc (length h.unread)) h s (omega arith) nine (omega arith)
      go (no other) fewer = ends_other p fewer h s (omega arith) other

  -- THE TURNS END
  pub ends : (m : Model) → length m.instances ≤ 16 → (pieces : List (List ℕ)) → Ends (start m pieces)
  ends m few pieces = by_pieces (suc (length pieces)) (start m pieces) few (omega arith)

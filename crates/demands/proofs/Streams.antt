-- THE STREAM THEOREM: "A small program reads a session from standard input and writes the log .. in buffers of at most 64 KiB" (document 01,
-- "The bench model"). However its input comes in pieces, and whatever room each of its turns has, once it is over it came to what one call
-- on the whole session comes to.
-- Assumes nothing.
mod FullSessionInPieces
mod RefusedAgain
mod RestOfSession
mod StepsAreTurns
mod TurnsEnd
mod TurnsGoOn
use Prim.Native.Nat.{ℕ, ◌+◌, ◌≤◌}
use Rattle.demands.proofs.Shared.Behind.{behind_nothing}
use Rattle.demands.proofs.Streams.RefusedAgain.{no_ticks, still_none}
use Rattle.demands.proofs.Streams.RestOfSession.{untimed}
use Rattle.demands.proofs.Streams.StepsAreTurns.{Traced, holding, traced}
use Rattle.demands.proofs.Streams.TurnsEnd.{ends}
use Rattle.demands.proofs.Streams.TurnsGoOn.{number_over, over_number, streams_from}
use Rattle.demands.specs.Streams.{AsOne, Held, joined, over, over_by, result, start, streamed, turn_by, turned}
use Rattle.device.specs.declared.model.Model.{Model}
use Rattle.record.specs.Log.{bytes_of}
use Rattle.session.proofs.Room.{nothing_left}
use Rattle.session.specs.Session.{End, session}
use Rattle.stream.specs.Stream.{Reached, goes_by, goes_on, next_after}
use Rattle.stream.specs.declared.Next.TheVariants.{EmptiedOutput, MoreInput, Over}
use Rattle.stream.specs.declared.Next.{Next}
use Rattle.stream.specs.declared.Progress.{Progress}
use lib.ListN.{length, replicate}
use mathlib.Core.Bool.{Bool, false, true}
use mathlib.Core.List.{List, [], append-nil, ◌∷◌}
use mathlib.Core.Logic.{◌≢◌}
use mathlib.Core.Path.{ap, refl, sym, ◌∙◌, ◌≡◌}
use native.Mathlib.Nat.{zero-add}
use native.Mathlib.Omega.{arith}

-- The input is the pieces, one after another; `rooms` has the room of each turn.
abbrev run : Model → (pieces : List (List ℕ)) → (rooms : List ℕ) → Held
run m pieces rooms = streamed rooms (start m pieces)

module _ (m : Model) (pieces : List (List ℕ)) (rooms : List ℕ) (done : over (run m pieces rooms) ≡ true) where
  abbrev h : Held
  h = run m pieces rooms

  abbrev one : (big : ℕ) → End
  one big = session m (joined pieces) big

  -- but for the ticks, which are none after a number that is not 9
  one_untimed : (big : ℕ) → length (bytes_of h.log) ≤ big → untimed (one big) ≡ result h
  one_untimed big enough =
      ap untimed (ap (session m (joined pieces)) (sym (nothing_left big)) ∙ sym (behind_nothing _))
      ∙ streams_from rooms (start m pieces) (still_none m) done big enough

  -- With any room that holds the bytes that the program logged, one call gives back the same model and number, for its offset the bytes of
  -- all records that the program took, and the same log, and so the same bytes.
  pub streams : (big : ℕ) → length (bytes_of h.log) ≤ big → session m (joined pieces) big ≡ result h
  streams big enough =
      let whole = one_untimed big enough in
      let number : (one big).number ≡ h.number = ap (λ e. e.number) whole in
      let none = no_ticks m (joined pieces) big (λ nine. over_number h.number h.coming done (sym number ∙ nine)) in
      ap (λ t. record { model = (one big).model; number = (one big).number; offset = (one big).offset; ticks = t; log = (one big).log }) none
      ∙ whole

-- How the input is cut, and how much room each turn has, makes no difference.
pub same_result : (m : Model) (pieces pieces' : List (List ℕ)) (rooms rooms' : List ℕ) → joined pieces ≡ joined pieces'
    → over (run m pieces rooms) ≡ true → over (run m pieces' rooms') ≡ true → result (run m pieces rooms) ≡ result (run m pieces' rooms')
same_result m pieces pieces' rooms rooms' same o o' =
    let big = length (bytes_of (run m pieces rooms).log) + length (bytes_of (run m pieces' rooms').log) in
    sym (streams m pieces rooms o big (omega arith)) ∙ ap (λ l. session m l big) same ∙ streams m pieces' rooms' o' big (omega arith)

-- One call that does not end by 9 is a run of one turn.
module _ (m : Model) (xs : List ℕ) (big : ℕ) (n : (session m xs big).number ≢ 9) where
  one_over : over (run m (xs ∷ []) (big ∷ [])) ≡ true
  unfolding streamed turn_by turned next_after
  one_over = number_over (session m xs big).number n

  one_result : result (run m (xs ∷ []) (big ∷ [])) ≡ session m xs big
  unfolding streamed turn_by turned next_after
  one_result =
      λ i. record {
        model = (session m xs big).model;
        number = (session m xs big).number;
        offset = zero-add (session m xs big).offset i;
        ticks = sym (no_ticks m xs big n) i;
        log = (session m xs big).log;
      }

-- THE STREAM THEOREM: of every one call that found room enough, so that its number is not 9.
pub stream_theorem : (m : Model) (pieces : List (List ℕ)) (rooms : List ℕ) → over (run m pieces rooms) ≡ true
    → (big : ℕ) → (session m (joined pieces) big).number ≢ 9 → session m (joined pieces) big ≡ result (run m pieces rooms)
unfolding joined
stream_theorem m pieces rooms done big n =
    sym (one_result m (joined pieces) big n)
    ∙ same_result m (joined pieces ∷ []) pieces (big ∷ []) rooms (append-nil (joined pieces)) (one_over m (joined pieces) big n) done

-- And it does come to be over: with room for the records of one tick of sixteen instances, after some number of turns.
pub comes_over : (m : Model) → length m.instances ≤ 16 → (room : ℕ) → 160 ≤ room → (pieces : List (List ℕ))
    → (turns : ℕ) × (over (run m pieces (replicate turns room)) ≡ true)
comes_over m few room enough pieces = ends room enough m few pieces

-- THE PROGRAM. What it does from turn to turn is promised by the functions of crate `stream`: `begin`, `next_after`, `step` and `goes_on`; and
-- `Reached` says what steps come to, one after another, whatever came before each and with whatever output. Once no step is left to make, all
-- the bytes that came and all that were logged are those of one call.
module _ {m₀ : Model} {steps : ℕ} {p : Progress} {input came log : List ℕ} (r : Reached m₀ steps p input came log) (none : Bool) (done : goes_on p.number none ≡ false) where
  abbrev t : Traced m₀ p input came log
  t = traced r

  ran : run m₀ t.pieces t.rooms ≡ holding p input [] t.offset t.logged
  ran = ap (λ l. run m₀ l t.rooms) (sym (append-nil t.pieces)) ∙ t.runs []

  ran_over : over (run m₀ t.pieces t.rooms) ≡ true
  unfolding goes_on over_by
  ran_over = rw ran (go (next_after p.number) done)
    where
      go : (n : Next) → goes_by n none ≡ false → over_by n [] ≡ true
      go MoreInput d = refl
      go EmptiedOutput d = sym d
      go Over d = refl

  as_one : {e : End} → e ≡ result (run m₀ t.pieces t.rooms) → AsOne p log e
  as_one is = rw (is, ran) (record { model = refl; number = refl; passed = t.passed; log = t.bytes })

  -- of a call with room for what was logged
  pub program_room : (big : ℕ) → length log ≤ big → AsOne p log (session m₀ came big)
  program_room big enough =
      let fits : length (bytes_of (run m₀ t.pieces t.rooms).log) ≤ big = rw (ran, t.bytes) enough in
      as_one (ap (λ l. session m₀ l big) (sym t.all) ∙ streams m₀ t.pieces t.rooms ran_over big fits)

  -- and of every one call that found room enough, so that its number is not 9
  pub program_theorem : (big : ℕ) → (session m₀ came big).number ≢ 9 → AsOne p log (session m₀ came big)
  program_theorem big n =
      let same : session m₀ (joined t.pieces) big ≡ session m₀ came big = ap (λ l. session m₀ l big) t.all in
      as_one (sym same ∙ stream_theorem m₀ t.pieces t.rooms ran_over big (λ nine. n (sym (ap (λ e. e.number) same) ∙ nine)))

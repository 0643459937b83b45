-- The steps of crate `stream`, one after another, are the turns of the small program: what they reach is what some pieces of input, each turn
-- with the room of its output, come to.
-- Assumes nothing.
use Prim.Native.Nat.{ℕ, ◌%◌, ◌+◌, ◌^◌}
use Rattle.demands.specs.Streams.{Held, joined, next_turn, start, streamed, turn, turn_by, turned}
use Rattle.device.specs.declared.model.Model.{Model}
use Rattle.record.proofs.Log.{bytes_append}
use Rattle.record.specs.Log.{Logged, bytes_of}
use Rattle.stream.proofs.Turns.{step_front, step_unread}
use Rattle.stream.specs.Stream.{Comes, Reached, begun, ended, held, input_after, next, next_after, output_after, progressed, start as at-start, stepped}
use Rattle.stream.specs.declared.Next.TheVariants.{EmptiedOutput, MoreInput, Over}
use Rattle.stream.specs.declared.Next.{Next}
use Rattle.stream.specs.declared.Progress.{Progress}
use lib.ListN.{length, take, take-append-drop}
use lib.Seq.{slice, slice_empty, take-take}
use mathlib.Core.List.{List, [], append_assoc, append-nil, ◌++◌, ◌∷◌}
use mathlib.Core.Path.{ap, refl, sym, ◌∙◌, ◌≡◌}
use native.Mathlib.Nat.{mod-add-mod}
use native.Mathlib.Omega.{arith}

-- what the program has, by what went from step to step
abbrev pub holding : Progress → (input : List ℕ) → (coming : List (List ℕ)) → (offset : ℕ) → List Logged → Held
holding p input coming offset log =
    record { model = p.model; unread = take p.unread input; coming = coming; number = p.number; offset = offset; log = log }

-- the pieces that came, and the rooms of the turns; the run is the same whatever pieces are to come
pub record Traced (m₀ : Model) (p : Progress) (input came log : List ℕ) : Type 0 where
  pub pieces : List (List ℕ)
  pub rooms : List ℕ
  pub offset : ℕ
  pub logged : List Logged
  pub runs : (more : List (List ℕ)) → streamed rooms (start m₀ (pieces ++ more)) ≡ holding p input more offset logged
  pub all : joined pieces ≡ came
  pub passed : p.passed ≡ offset % 2 ^ 64
  pub bytes : bytes_of logged ≡ log

-- ---- a step is a turn
module _ (p : Progress) (n : ℕ) (filled output : List ℕ) where
  abbrev after : Progress
  after = (stepped p n filled output).progress

  abbrev left : List ℕ
  left = input_after p n filled output

  -- with what is held unread
  step_turn : (xs : List ℕ) → held p n filled ≡ xs → (coming : List (List ℕ)) (offset : ℕ) (log : List Logged)
      → turn (length output) (record { model = p.model; unread = xs; coming = coming; number = p.number; offset = offset; log = log })
      ≡ holding after left coming (offset + (ended p n filled output).offset) (log ++ (ended p n filled output).log)
  unfolding turned stepped progressed ended
  step_turn xs holds coming offset log =
      let e = ended p n filled output in
      rw (← holds) (λ i. record {
        model = e.model;
        unread = sym (step_unread p n filled output) i;
        coming = coming;
        number = e.number;
        offset = offset + e.offset;
        log = log ++ e.log;
      })

  -- its log lies at the front of the output
  step_bytes : (log : List Logged)
      → bytes_of (log ++ (ended p n filled output).log)
      ≡ bytes_of log ++ take (stepped p n filled output).written (output_after p n filled output)
  step_bytes log = bytes_append log (ended p n filled output).log ∙ ap (λ l. bytes_of log ++ l) (sym (step_front p n filled output))

  step_passed : (offset : ℕ) → p.passed ≡ offset % 2 ^ 64 → after.passed ≡ (offset + (ended p n filled output).offset) % 2 ^ 64
  unfolding stepped progressed
  step_passed offset e = ap (λ k. (k + (ended p n filled output).offset) % 2 ^ 64) e ∙ mod-add-mod offset (2 ^ 64) (ended p n filled output).offset

-- what is held: the unread bytes as they were, and the piece behind them
held_piece : (u n : ℕ) (filled input : List ℕ) → take u filled ≡ take u input → take (u + n) filled ≡ take u input ++ slice u (u + n) filled
held_piece u n filled input kept =
    sym (take-append-drop u (take (u + n) filled))
    ∙ ap (λ l. l ++ slice u (u + n) filled) (take-take u (u + n) filled (omega arith) ∙ kept)

-- ---- one room more, one piece more
streamed_more : (rooms : List ℕ) (room : ℕ) (h : Held) → streamed (rooms ++ (room ∷ [])) h ≡ next_turn room (streamed rooms h)
unfolding streamed
streamed_more [] room h = refl
streamed_more (r ∷ rooms) room h = streamed_more rooms room (next_turn r h)

joined_more : (pieces : List (List ℕ)) (piece : List ℕ) → joined (pieces ++ (piece ∷ [])) ≡ joined pieces ++ piece
unfolding joined
joined_more [] piece = append-nil piece
joined_more (p ∷ pieces) piece = ap (λ l. p ++ l) (joined_more pieces piece) ∙ sym (append_assoc p (joined pieces) piece)

module _ {m₀ : Model} {p : Progress} {input came log : List ℕ} (t : Traced m₀ p input came log) (n : ℕ) (filled output : List ℕ)
    (kept : take p.unread filled ≡ take p.unread input) where
  abbrev piece : List ℕ
  piece = slice p.unread (p.unread + n) filled

  abbrev Next-traced : Type 0
  Next-traced =
      Traced m₀ (after p n filled output) (left p n filled output) (came ++ piece)
      (log ++ take (stepped p n filled output).written (output_after p n filled output))

  bytes_more : bytes_of (t.logged ++ (ended p n filled output).log) ≡ log ++ take (stepped p n filled output).written (output_after p n filled output)
  bytes_more = step_bytes p n filled output t.logged ∙ ap (λ l. l ++ take (stepped p n filled output).written (output_after p n filled output)) t.bytes

  -- more input came
  fed_more : next_after p.number ≡ MoreInput → Next-traced
  unfolding turn_by
  fed_more e =
      record {
        pieces = t.pieces ++ (piece ∷ []);
        rooms = t.rooms ++ (length output ∷ []);
        offset = t.offset + (ended p n filled output).offset;
        logged = t.logged ++ (ended p n filled output).log;
        runs =
            λ more.
            ap (λ l. streamed (t.rooms ++ (length output ∷ [])) (start m₀ l)) (append_assoc t.pieces (piece ∷ []) more)
            ∙ streamed_more t.rooms (length output) (start m₀ (t.pieces ++ (piece ∷ more)))
            ∙ ap (next_turn (length output)) (t.runs (piece ∷ more))
            ∙ ap (λ k. turn_by k (piece ∷ more) (length output) (holding p input (piece ∷ more) t.offset t.logged)) e
            ∙ step_turn p n filled output (take p.unread input ++ piece) (held_piece p.unread n filled input kept) more t.offset t.logged;
        all = joined_more t.pieces piece ∙ ap (λ l. l ++ piece) t.all;
        passed = step_passed p n filled output t.offset t.passed;
        bytes = bytes_more;
      }

  -- the output was emptied, and nothing came
  emptied_more : next_after p.number ≡ EmptiedOutput → n ≡ 0 → Next-traced
  unfolding turn_by
  emptied_more e none =
      let at : p.unread + n ≡ p.unread = omega arith in
      let nothing : piece ≡ [] = ap (λ k. slice p.unread k filled) at ∙ slice_empty p.unread filled in
      record {
        pieces = t.pieces;
        rooms = t.rooms ++ (length output ∷ []);
        offset = t.offset + (ended p n filled output).offset;
        logged = t.logged ++ (ended p n filled output).log;
        runs =
            λ more.
            streamed_more t.rooms (length output) (start m₀ (t.pieces ++ more))
            ∙ ap (next_turn (length output)) (t.runs more)
            ∙ ap (λ k. turn_by k more (length output) (holding p input more t.offset t.logged)) e
            ∙ step_turn p n filled output (take p.unread input) (ap (λ k. take k filled) at ∙ kept) more t.offset t.logged;
        all = t.all ∙ sym (append-nil came) ∙ ap (λ l. came ++ l) (sym nothing);
        passed = step_passed p n filled output t.offset t.passed;
        bytes = bytes_more;
      }

  traced_more : (k : Next) → next_after p.number ≡ k → Comes k n → Next-traced
  traced_more MoreInput e c = fed_more e
  traced_more EmptiedOutput e c = emptied_more e c
  traced_more Over e c = absurd c

-- WHAT STEPS REACH, TURNS COME TO
pub traced : {m₀ : Model} {steps : ℕ} {p : Progress} {input came log : List ℕ} → Reached m₀ steps p input came log → Traced m₀ p input came log
unfolding begun streamed joined bytes_of
traced (at-start input) =
    record {
      pieces = [];
      rooms = [];
      offset = 0;
      logged = [];
      runs = λ more. refl;
      all = refl;
      passed = refl;
      bytes = refl;
    }
traced {p = p} (next r n filled output comes kept fits) = traced_more (traced r) n filled output kept (next_after _) refl comes

-- Document 01, "The bench model": what the small program does. It reads a session in pieces through short buffers: "it goes on from the state
-- an earlier call left, after number 2 with more input, after 9 with an emptied output and, inside a TK, a TK of the ticks that remain".
-- Assumes nothing.
unfoldable pub use Rattle.hours.specs.Pieces.{joined}
use Rattle.std.specs.Prelude.{ℕ, ◌%◌, ◌+◌, ◌^◌, Bool, false, not, true, List, [], ◌++◌, ◌∷◌, ◌≡◌}
use Rattle.device.specs.declared.model.Model.{Model}
use Rattle.record.specs.Log.{Logged, bytes_of}
use Rattle.session.specs.Session.{End, session}
use Rattle.stream.specs.Stream.{goes_by, next_after, unread}
use Rattle.stream.specs.declared.Next.TheVariants.{EmptiedOutput, MoreInput, Over}
use Rattle.stream.specs.declared.Next.{Next}
use Rattle.stream.specs.declared.Progress.{Progress}

-- what the program has between two turns: the model, the bytes that are unread, the pieces of input that are to come, the number of the last
-- turn, the bytes of all records taken, and all of the log
pub record Held : Type 0 where
  pub model : Model
  pub unread : List ℕ
  pub coming : List (List ℕ)
  pub number : ℕ
  pub offset : ℕ
  pub log : List Logged

-- at the start nothing is read
abbrev pub start : Model → (pieces : List (List ℕ)) → Held
start m pieces = record { model = m; unread = []; coming = pieces; number = 0; offset = 0; log = [] }

-- a piece of input goes behind what is unread
abbrev pub fed : Held → (piece : List ℕ) → (coming : List (List ℕ)) → Held
fed h piece coming = record { model = h.model; unread = h.unread ++ piece; coming = coming; number = h.number; offset = h.offset; log = h.log }

-- a turn that ended so
unfoldable pub turned : Held → End → Held
turned h e =
    record {
      model = e.model;
      unread = unread e h.unread;
      coming = h.coming;
      number = e.number;
      offset = h.offset + e.offset;
      log = h.log ++ e.log;
    }

-- a turn reads what is unread, with so much room in an emptied output
abbrev pub turn : (room : ℕ) → Held → Held
turn room h = turned h (session h.model h.unread room)

-- the next turn; there is none where a record is refused for good, or where more input is wanted and none is to come
unfoldable pub turn_by : Next → (coming : List (List ℕ)) → (room : ℕ) → Held → Held
turn_by MoreInput [] room h = h
turn_by MoreInput (piece ∷ pieces) room h = turn room (fed h piece pieces)
turn_by EmptiedOutput coming room h = turn room h
turn_by Over coming room h = h

abbrev pub next_turn : (room : ℕ) → Held → Held
next_turn room h = turn_by (next_after h.number) h.coming room h

-- whether no piece is to come
abbrev pub none : (coming : List (List ℕ)) → Bool
none [] = true
none (piece ∷ pieces) = false

-- there is no other turn
unfoldable pub over_by : Next → (coming : List (List ℕ)) → Bool
over_by next coming = not (goes_by next (none coming))

abbrev pub over : Held → Bool
over h = over_by (next_after h.number) h.coming

-- a turn for each of the rooms
unfoldable pub streamed : (rooms : List ℕ) → Held → Held
streamed [] h = h
streamed (room ∷ rooms) h = streamed rooms (next_turn room h)

-- what it came to, as one call would tell it
abbrev pub result : Held → End
result h = record { model = h.model; number = h.number; offset = h.offset; ticks = 0; log = h.log }

-- the program's own count of what it came to: one call gives back the model and the number that its last step left, for its offset the bytes
-- passed, which the program counts in eight bytes, and a log of the bytes that were logged
pub record AsOne (p : Progress) (logged : List ℕ) (e : End) : Type 0 where
  pub model : e.model ≡ p.model
  pub number : e.number ≡ p.number
  pub passed : p.passed ≡ e.offset % 2 ^ 64
  pub log : bytes_of e.log ≡ logged

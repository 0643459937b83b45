-- Demand 1, document 01, "Numbers given when a record is not taken": what stands of a session once its reading has left off.
-- Assumes nothing.
use Rattle.std.specs.Prelude.{ℕ, zero, suc, ◌+◌, ◌-◌, length, take, List, [], ◌++◌}
use Rattle.record.specs.Log.{Logged, bytes_of}
use Rattle.record.specs.Marks.{ticks}
use Rattle.record.specs.Put.{put}
use Rattle.session.specs.Session.{End}

-- the record TK with a count of n ticks; for no ticks, no record
abbrev pub time_record : (n : ℕ) → List ℕ
time_record zero = []
time_record (suc n) = ticks (suc n)

-- the bytes before the refused record, and a TK of its ticks that were carried out
abbrev pub stands : End → (input : List ℕ) → List ℕ
stands r input = take r.offset input ++ time_record r.ticks

-- a reading with the model and the log of r that takes all of `size` bytes
abbrev pub taken_whole : (size : ℕ) → End → End
taken_whole size r = record { model = r.model; number = 0; offset = size; ticks = 0; log = r.log }

-- bytes written, and the room that is left
abbrev pub written : End → ℕ
written r = length (bytes_of r.log)

-- a lent output with the log from its first byte on; the bytes past it keep what they held
abbrev pub output : End → (out : List ℕ) → List ℕ
output r out = put 0 (bytes_of r.log) out

abbrev pub room_after : (room : ℕ) → End → ℕ
room_after room r = room - written r

-- a reading that goes on where one of `size` bytes left off with `log`
abbrev pub behind : (size : ℕ) → (log : List Logged) → End → End
behind size log r = record { model = r.model; number = r.number; offset = size + r.offset; ticks = r.ticks; log = log ++ r.log }

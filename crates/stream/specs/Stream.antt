-- Document 01, "The bench model": a session read in pieces. After number 2 it goes on with more input, after 9 with an emptied output
-- and, inside a TK, a TK of the ticks that remain.
-- Assumes nothing.
use Rattle.std.specs.Prelude.{◌≡◌, ℕ, zero, suc, ◌+◌, ◌-◌, ◌%◌, ◌^◌, ◌≤◌, min, Bool, true, false, cond, not, List, [], ◌∷◌, ◌++◌, length, take, drop, ◌==◌, nat_lt, Option, Some, None}
use Rattle.device.specs.declared.model.Model.{Model}
use Rattle.record.specs.Log.{bytes_of}
use Rattle.record.specs.Marks.{mark_of, mark_size, ticks}
use Rattle.record.specs.Numbers.{word}
use Rattle.record.specs.Put.{put}
use Rattle.record.specs.declared.marks.Mark.TheVariants.{Time}
use Rattle.record.specs.declared.marks.Mark.{Mark}
use Rattle.session.specs.Session.{End, session}
use Rattle.stream.specs.declared.Next.TheVariants.{EmptiedOutput, MoreInput, Over}
use Rattle.stream.specs.declared.Next.{Next}
use Rattle.stream.specs.declared.Progress.{Progress}
use Rattle.stream.specs.declared.Stepped.{Stepped}
use Rattle.std.proofs.Math.Seq.{slice}

-- what must come before the next step
unfoldable pub next_after : (number : ℕ) → Next
next_after number = cond (number == 0) MoreInput (cond (number == 2) MoreInput (cond (number == 9) EmptiedOutput Over))

-- whether there is another step: not after a record that is refused for good, nor where more input is wanted and none can come
abbrev pub goes_by : Next → (ended : Bool) → Bool
goes_by MoreInput ended = not ended
goes_by EmptiedOutput ended = true
goes_by Over ended = false

unfoldable pub goes_on : (number : ℕ) → (ended : Bool) → Bool
goes_on number ended = goes_by (next_after number) ended

-- ---- what is left unread
-- what begins with a record of which `done` ticks were carried out: for none it stands, else a TK of the ticks that remain takes its place
unfoldable pub remaining : (done : ℕ) → (rest : List ℕ) → List ℕ
remaining done rest = cond (done == 0) rest (cond (nat_lt (length rest) (mark_size Time)) rest (ticks (word rest 2 - done) ++ drop (mark_size Time) rest))

-- the part of the input that the next step begins with
unfoldable pub unread : End → (input : List ℕ) → List ℕ
unread e input = remaining e.ticks (drop e.offset input)

-- ---- the records in bytes that were taken
-- a record's size by its mark; what no known mark begins goes for one record, all of it
unfoldable pub size_by : Option Mark → (all : ℕ) → ℕ
size_by None all = all
size_by (Some mark) all = mark_size mark

-- the size of the record at the front, not more than there is
unfoldable pub size_at : List ℕ → ℕ
size_at rest = cond (nat_lt (length rest) 2) (length rest) (min (size_by (mark_of (word rest 0)) (length rest)) (length rest))

-- at most so many of them
unfoldable pub records_up_to : (most : ℕ) → List ℕ → ℕ
records_up_to zero bytes = 0
records_up_to (suc most) [] = 0
records_up_to (suc most) (b ∷ bytes) = 1 + records_up_to most (drop (size_at (b ∷ bytes)) (b ∷ bytes))

unfoldable pub records_in : List ℕ → ℕ
records_in bytes = records_up_to (length bytes) bytes

-- ---- one step
-- at the start: from any model, and nothing read
unfoldable pub begun : Model → Progress
begun m = record { model = m; unread = 0; number = 0; records = 0; passed = 0 }

-- what is held of the input buffer: the unread bytes, and behind them those that came
abbrev pub held : Progress → (came : ℕ) → (input : List ℕ) → List ℕ
held p came input = take (p.unread + came) input

-- where the reading of it ends
unfoldable pub ended : Progress → (came : ℕ) → (input output : List ℕ) → End
ended p came input output = session p.model (held p came input) (length output)

-- what goes to the next step; the two counts have eight bytes, and wrap
unfoldable pub progressed : Progress → End → (held : List ℕ) → Progress
progressed p e held =
    record {
      model = e.model;
      unread = length held - e.offset;
      number = e.number;
      records = (p.records + records_in (take e.offset held)) % 2 ^ 64;
      passed = (p.passed + e.offset) % 2 ^ 64;
    }

unfoldable pub stepped : Progress → (came : ℕ) → (input output : List ℕ) → Stepped
stepped p came input output =
    record {
      progress = progressed p (ended p came input output) (held p came input);
      written = length (bytes_of (ended p came input output).log);
    }

-- the input buffer after it: what is unread is at its front
unfoldable pub input_after : Progress → (came : ℕ) → (input output : List ℕ) → List ℕ
input_after p came input output = put 0 (unread (ended p came input output) (held p came input)) input

-- the output after it: the log is at its front
unfoldable pub output_after : Progress → (came : ℕ) → (input output : List ℕ) → List ℕ
output_after p came input output = put 0 (bytes_of (ended p came input output).log) output

-- ---- step after step
-- n bytes come before a step only where more input must come first; there is no step after a record that is refused for good
abbrev pub Comes : Next → (n : ℕ) → Type 0
Comes MoreInput n = Unit {0}
Comes EmptiedOutput n = n ≡ 0
Comes Over n = ⊥

-- what so many steps from the model m₀ come to: p, the input buffer after them, all the bytes that came, and all that were logged. Before each step n bytes
-- came behind the unread ones, which stayed, and the output was emptied
pub data Reached (m₀ : Model) : (steps : ℕ) → (p : Progress) → (input came log : List ℕ) → Type 0 where
  start : (input : List ℕ) → Reached m₀ 0 (begun m₀) input [] []
  next : {steps : ℕ} {p : Progress} {input came log : List ℕ} → Reached m₀ steps p input came log
      → (n : ℕ) (filled output : List ℕ) → Comes (next_after p.number) n → take p.unread filled ≡ take p.unread input → p.unread + n ≤ length filled
      → Reached m₀ (suc steps) (stepped p n filled output).progress (input_after p n filled output)
      (came ++ slice p.unread (p.unread + n) filled) (log ++ take (stepped p n filled output).written (output_after p n filled output))

-- Document 01, "Session and log records" and "Numbers given when a record is not taken": a session's records in turn, up to the first
-- that is refused, even inside a tick count.
-- Assumes nothing.
use Rattle.std.specs.Prelude.{ℕ, zero, suc, ◌+◌, ◌-◌, leb, drop, length, Bool, false, true, List, [], ◌++◌, ◌∷◌, Err, Ok, Result}
use Rattle.device.specs.Device.{declared_model, held_model}
use Rattle.device.specs.Frame.{frame_log, frame_model}
use Rattle.device.specs.declared.model.Model.{Model}
use Rattle.judging.specs.Asked.{asked, size_of}
use Rattle.judging.specs.Refusals.{number_of}
use Rattle.judging.specs.declared.asked.Asked.TheVariants.{Declare, Frame, Hold, Ticks}
use Rattle.judging.specs.declared.asked.Asked.{Asked}
use Rattle.judging.specs.declared.asked.Refusal.TheVariants.{Full}
use Rattle.judging.specs.declared.asked.Refusal.{Refusal}
use Rattle.record.specs.Log.{Logged, bytes_of}
use Rattle.session.specs.declared.reading.Outcome.{Outcome}
use Rattle.session.specs.declared.reading.Reading.{Reading}
use Rattle.ticks.specs.Tick.{tick_log, tick_model}

-- what a record comes to, with the model and the log after it: taken; or refused, with the ticks of it that were carried out
pub data Step : Type 0 where
  taken : Model → List Logged → Step
  refused : Refusal → (ticks : ℕ) → Model → List Logged → Step

-- `more` fits, whole, in what the log leaves of the output
unfoldable pub fits : (room : ℕ) → (log more : List Logged) → Bool
fits room log more = leb (length (bytes_of more)) (room - length (bytes_of log))

-- n ticks more of a TK, after the first `done`: each is carried out whole, or refused where its records don't fit
unfoldable pub ticking : (n done room : ℕ) → Model → List Logged → Step
ticking zero done room m log = taken m log
ticking (suc n) done room m log =
    elim (fits room log (tick_log m)) [
      | true ↦ ticking n (done + 1) room (tick_model m) (log ++ tick_log m)
      | false ↦ refused Full done m log
    ]

-- what is asked for is done
unfoldable pub step : Result Asked Refusal → (room : ℕ) → Model → List Logged → Step
step (Err why) room m log = refused why 0 m log
step (Ok (Declare sensor)) room m log = taken (declared_model m sensor) log
step (Ok (Hold i sample)) room m log = taken (held_model m i sample) log
step (Ok (Frame first second third)) room m log =
    elim (fits room log (frame_log m first second third)) [
      | true ↦ taken (frame_model m first second third) (log ++ frame_log m first second third)
      | false ↦ refused Full 0 m log
    ]
step (Ok (Ticks n)) room m log = ticking n 0 room m log

-- where a reading ends: number, offset of the refused record (for 0 the session length), ticks of it carried out, model and log
pub record End : Type 0 where
  pub model : Model
  pub number : ℕ
  pub offset : ℕ
  pub ticks : ℕ
  pub log : List Logged

-- at most so many records, of what is left of the session from offset `at` on
unfoldable pub reading : (most : ℕ) → (rest : List ℕ) → (room at : ℕ) → Model → List Logged → End
reading zero rest room at m log = record { model = m; number = 0; offset = at; ticks = 0; log = log }
reading (suc most) [] room at m log = record { model = m; number = 0; offset = at; ticks = 0; log = log }
reading (suc most) (b ∷ rest) room at m log =
    elim (step (asked (b ∷ rest) m) room m log) [
      | taken m' log' ↦ reading most (drop (size_of (asked (b ∷ rest) m)) (b ∷ rest)) room (at + size_of (asked (b ∷ rest) m)) m' log'
      | refused why ticks m' log' ↦ record { model = m'; number = number_of why; offset = at; ticks = ticks; log = log' }
    ]

-- a whole session, read from the model m with so much room for its log; each record takes a byte at least
unfoldable pub session : Model → List ℕ → (room : ℕ) → End
session m input room = reading (length input) input room 0 m []

-- what the call gives back
unfoldable pub outcome : End → Outcome
outcome e = record { model = e.model; number = e.number; offset = e.offset; written = length (bytes_of e.log); ticks = e.ticks }

unfoldable pub for_c : End → Reading
for_c e = record { number = e.number; offset = e.offset; written = length (bytes_of e.log); ticks = e.ticks }

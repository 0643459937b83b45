-- Where a reading leaves off, the record there is the one refused, from the model and the log that the bytes before it leave.
-- Assumes nothing.
use Prim.Native.Nat.{ℕ, ◌-◌, ◌<◌, ◌≤◌}
use Rattle.demands.proofs.Shared.ByRecords.{by_records, session_none}
use Rattle.demands.proofs.Shared.FirstRecord.{first_same}
use Rattle.demands.specs.Numbers.{LeftOff}
use Rattle.demands.specs.Stands.{behind}
use Rattle.device.specs.declared.model.Model.{Model}
use Rattle.judging.proofs.Asking.{asked_size, cut}
use Rattle.judging.specs.Asked.{asked, size_of}
use Rattle.record.specs.Log.{Logged, bytes_of}
use Rattle.session.proofs.Records.{after_log, step_behind}
use Rattle.session.specs.Session.{End, session, step, taken}
use lib.ListN.{drop, length, take}
use lib.Seq.{drop_at, drop-drop, length-take-le, take-add}
use mathlib.Core.List.{List, [], ◌++◌}
use mathlib.Core.Path.{ap, refl, sym, ◌∙◌, ◌≡◌}
use native.Mathlib.Omega.{arith}

-- behind a record that is taken
left_took : (m : Model) (xs : List ℕ) (room : ℕ) (m' : Model) (log : List Logged) → 0 < length xs → step (asked xs m) room m [] ≡ taken m' log → (r : End)
    → LeftOff m' (drop (size_of (asked xs m)) xs) (room - length (bytes_of log)) r → LeftOff m xs room (behind (size_of (asked xs m)) log r)
left_took m xs room m' log some e r b =
    record {
      why = b.why;
      model = b.model;
      log = log ++ b.log;
      before =
          ap (λ l. session m l room) (take-add size r.offset xs)
          ∙ first_same m xs [] room some e (take size xs ++ take r.offset (drop size xs)) (cut size xs (take r.offset (drop size xs)) within)
          ∙ ap (λ l. behind size log (session m' l left)) (drop_at (take size xs) (take r.offset (drop size xs)) size (length-take-le size xs within))
          ∙ ap (behind size log) b.before;
      refuses =
          ap (λ l. step (asked l b.model) room b.model (log ++ b.log)) (sym (drop-drop r.offset size xs))
          ∙ step_behind room log (asked (drop r.offset (drop size xs)) b.model) b.model b.log
          ∙ ap (after_log log) b.refuses;
      numbered = b.numbered;
    }
  where
    size : ℕ
    size = size_of (asked xs m)

    left : ℕ
    left = room - length (bytes_of log)

    within : size_of (asked xs m) ≤ length xs
    within = asked_size xs m

-- WHERE A READING LEAVES OFF
pub left_off : (m : Model) (xs : List ℕ) (room : ℕ) → 0 < (session m xs room).number → LeftOff m xs room (session m xs room)
left_off m xs room =
    by_records (λ m xs room r. 0 < r.number → LeftOff m xs room r)
    (λ m room h. absurd (omega arith))
    (λ m xs room m' log some e r ih h. left_took m xs room m' log some e r (ih h))
    (λ m xs room why t m' log some e h. record { why = why; model = m; log = []; before = session_none m room; refuses = e; numbered = refl })
    m xs room

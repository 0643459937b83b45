-- A record that no row of the table refuses, with room for what it logs, is taken, and does what its bytes tell of.
-- Assumes nothing.
use Prim.Native.Nat.{ℕ, zero, suc, ◌+◌, ◌-◌, ◌<◌, ◌≤◌}
use Rattle.demands.proofs.Demand2.FourKinds.{asks}
use Rattle.demands.proofs.Pieces.{pieces}
use Rattle.demands.proofs.Shared.ByRecords.{session_none}
use Rattle.demands.proofs.Shared.FirstRecord.{first_same}
use Rattle.demands.specs.Happenings.{Happening, log_after, model_after, tick, asks_for}
use Rattle.demands.specs.Numbers.{Front, NoneGiven, ticked_log, ticked_model}
use Rattle.demands.specs.Stands.{behind, room_after}
use Rattle.device.specs.Frame.{frame_log}
use Rattle.device.specs.declared.model.Model.{Model}
use Rattle.judging.proofs.Asking.{asked_size, cut}
use Rattle.judging.specs.Asked.{asked, size_of}
use Rattle.judging.specs.declared.asked.Asked.TheVariants.{Declare, Frame, Hold, Ticks}
use Rattle.judging.specs.declared.asked.Asked.{Asked}
use Rattle.judging.specs.declared.asked.Refusal.{Refusal}
use Rattle.record.specs.Log.{AllBytes, Logged, bytes_of}
use Rattle.session.proofs.Laws.{ticking_taken}
use Rattle.session.proofs.Room.{both_fit, nothing_left}
use Rattle.session.specs.Session.{End, session, step, taken, ticking}
use Rattle.std.specs.Prelude.{Err, Ok, Result}
use Rattle.ticks.specs.Tick.{tick_log, tick_model}
use lib.ListN.{length, replicate, take}
use lib.Seq.{drop_at, length-take-le}
use mathlib.Core.List.{List, [], append_assoc, append-nil, ◌++◌}
use mathlib.Core.Path.{ap, ap₂, sym, ◌∙◌, ◌≡◌}
use native.Mathlib.Nat.{add-zero}
use native.Mathlib.Omega.{arith}

-- ---- with room for what it logs it is taken
ticks_fit : (n done room : ℕ) (m : Model) (log : List Logged) → length (bytes_of (log_after m (replicate n tick))) ≤ room - length (bytes_of log)
    → ticking n done room m log ≡ taken (ticked_model n m) (ticked_log n m log)
unfolding ticking model_after log_after
ticks_fit zero done room m log h = rw append-nil
ticks_fit (suc n) done room m log h =
    let (fit, more) = both_fit room log (tick_log m) (log_after (tick_model m) (replicate n tick)) h in
    ticking_taken n done room m log fit ∙ ticks_fit n (done + 1) room (tick_model m) (log ++ tick_log m) more ∙ rw append_assoc

step_fits : (a : Result Asked Refusal) (room : ℕ) (m : Model) (log : List Logged) → 0 < size_of a → length (bytes_of (log_after m (asks_for a))) ≤ room - length (bytes_of log)
    → step a room m log ≡ taken (model_after m (asks_for a)) (log ++ log_after m (asks_for a))
unfolding step size_of model_after log_after
step_fits (Err why) room m log s h = absurd (omega arith)
step_fits (Ok (Declare sensor)) room m log s h = rw (append-nil log)
step_fits (Ok (Hold i sample)) room m log s h = rw (append-nil log)
step_fits (Ok (Frame first second third)) room m log s h = let (fit, more) = both_fit room log (frame_log m first second third) [] h in rw (fit, step, append-nil)
step_fits (Ok (Ticks n)) room m log s h = ticks_fit n 0 room m log h

-- ---- read by itself, and behind a session that was taken whole
abbrev done : Model → (size : ℕ) → List Happening → End
done m size hs = record { model = model_after m hs; number = 0; offset = size; ticks = 0; log = log_after m hs }

asked_done : (m : Model) (zs : List ℕ) (room : ℕ) → 0 < size_of (asked zs m) → length (bytes_of (log_after m (asks_for (asked zs m)))) ≤ room
    → session m (take (size_of (asked zs m)) zs) room ≡ done m (size_of (asked zs m)) (asks_for (asked zs m))
asked_done m zs room some fit =
    let within = asked_size zs m in
    let e = step_fits (asked zs m) room m [] some (rw nothing_left fit) in
    ap (λ l. session m l room) (sym (append-nil (take size zs)))
    ∙ first_same m zs [] room (omega arith) e (take size zs ++ []) (cut size zs [] within)
    ∙ ap (λ l. behind size log (session (model_after m hs) l (room - length (bytes_of log)))) (drop_at (take size zs) [] size (length-take-le size zs within))
    ∙ ap (behind size log) (session_none (model_after m hs) (room - length (bytes_of log)))
    ∙ ap₂ (λ at l. record { model = model_after m hs; number = 0; offset = at; ticks = 0; log = l }) (add-zero size) (append-nil log)
  where
    size : ℕ
    size = size_of (asked zs m)

    hs : List Happening
    hs = asks_for (asked zs m)

    log : List Logged
    log = log_after m (asks_for (asked zs m))

module _ (m : Model) (ys zs : List ℕ) (room : ℕ) (whole : (session m ys room).number ≡ 0) (bytes : AllBytes zs) (none : NoneGiven zs (session m ys room).model)
    (size : ℕ) (hs : List Happening) (f : Front zs size hs)
    (fit : length (bytes_of (log_after (session m ys room).model hs)) ≤ room_after room (session m ys room)) where
  record_done : session (session m ys room).model (take size zs) (room_after room (session m ys room)) ≡ done (session m ys room).model size hs
  record_done =
      let a = asks zs (session m ys room).model bytes none f in
      rw (← a.whole, ← a.tells) (asked_done (session m ys room).model zs (room_after room (session m ys room)) a.some (rw a.tells fit))

  pub taken_behind : session m (ys ++ take size zs) room
      ≡ record {
        model = model_after (session m ys room).model hs;
        number = 0;
        offset = length ys + size;
        ticks = 0;
        log = (session m ys room).log ++ log_after (session m ys room).model hs;
      }
  taken_behind = pieces m ys (take size zs) room whole ∙ ap (behind (length ys) (session m ys room).log) record_done

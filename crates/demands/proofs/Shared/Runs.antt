-- A session is a run of the happenings that it carried out, and its log is that run's; so are several calls.
-- Assumes nothing.
use Prim.Native.Nat.{ℕ, zero, suc, ◌+◌, ◌-◌, ◌<◌, ◌≤◌}
use Rattle.demands.proofs.Shared.ByRecords.{by_records}
use Rattle.demands.specs.Happenings.{Call, Happening, bytes_written, carried, carried_in, carried_out, frame, happen, log_after, logs, model_after, model_left, tick, asks_for}
use Rattle.demands.specs.Stands.{behind}
use Rattle.device.specs.Frame.{frame_log, frame_model}
use Rattle.device.specs.declared.model.Model.{Model}
use Rattle.judging.specs.Asked.{asked, size_of}
use Rattle.judging.specs.Refusals.{number_of}
use Rattle.judging.specs.declared.asked.Asked.TheVariants.{Declare, Frame, Hold, Ticks}
use Rattle.judging.specs.declared.asked.Asked.{Asked}
use Rattle.judging.specs.declared.asked.Refusal.{Refusal}
use Rattle.record.proofs.Log.{bytes_append, decode_log}
use Rattle.record.specs.Log.{Logged, bytes_of, decoded}
use Rattle.session.proofs.Kept.{Kept, part_left, refused_kept, same_left, taken_size, taken≢refused}
use Rattle.session.proofs.Records.{ended}
use Rattle.session.specs.Session.{End, fits, refused, session, step, taken, ticking}
use Rattle.std.specs.Prelude.{Err, Ok, Result}
use Rattle.ticks.specs.Tick.{tick_log, tick_model}
use lib.ListN.{drop, length, length-drop, replicate}
use mathlib.Core.Bool.{Bool, false, true}
use mathlib.Core.List.{List, [], append_assoc, append-nil, ◌++◌, ◌∷◌}
use mathlib.Core.Path.{ap, ap₂, refl, sym, ◌∙◌, ◌≡◌}
use native.Mathlib.Omega.{arith}

-- ---- one run behind another
pub model_append : (m : Model) (gs hs : List Happening) → model_after m (gs ++ hs) ≡ model_after (model_after m gs) hs
unfolding model_after
model_append m [] hs = refl
model_append m (g ∷ gs) hs = model_append (happen m g) gs hs

pub log_append : (m : Model) (gs hs : List Happening) → log_after m (gs ++ hs) ≡ log_after m gs ++ log_after (model_after m gs) hs
unfolding model_after log_after
log_append m [] hs = refl
log_append m (g ∷ gs) hs =
    ap (λ l. logs m g ++ l) (log_append (happen m g) gs hs)
    ∙ sym (append_assoc (logs m g) (log_after (happen m g) gs) (log_after (model_after (happen m g) gs) hs))

-- ---- a record that is taken does what it tells of
-- a run of hs from m, behind a log, comes to a model and a log
pub record Comes (m : Model) (log : List Logged) (hs : List Happening) (m' : Model) (log' : List Logged) : Type 0 where
  pub model : model_after m hs ≡ m'
  pub logged : log ++ log_after m hs ≡ log'

pub comes_ticks : (n done room : ℕ) (m : Model) (log : List Logged) (m' : Model) (log' : List Logged) → ticking n done room m log ≡ taken m' log'
    → Comes m log (replicate n tick) m' log'
unfolding ticking model_after log_after
comes_ticks zero done room m log m' log' e =
    let here : m ≡ m' = cc in
    let same : log ≡ log' = cc in
    record { model = here; logged = append-nil log ∙ same }
comes_ticks (suc n) done room m log m' log' e =
    go (fits room log (tick_log m)) refl (λ w. comes_ticks n (done + 1) room (tick_model m) (log ++ tick_log m) m' log' w)
  where
    go : (b : Bool) → fits room log (tick_log m) ≡ b
        → (ticking n (done + 1) room (tick_model m) (log ++ tick_log m) ≡ taken m' log' → Comes (tick_model m) (log ++ tick_log m) (replicate n tick) m' log')
        → Comes m log (replicate (suc n) tick) m' log'
    go true f ih =
        let c = ih (rw (f, ticking) at e) in
        record { model = c.model; logged = sym (append_assoc log (tick_log m) (log_after (tick_model m) (replicate n tick))) ∙ c.logged }
    go false f ih = absurd (taken≢refused (sym (rw (f, ticking) at e)))

pub comes_taken : (a : Result Asked Refusal) (room : ℕ) (m : Model) (log : List Logged) (m' : Model) (log' : List Logged) → step a room m log ≡ taken m' log'
    → Comes m log (asks_for a) m' log'
unfolding step model_after log_after
comes_taken (Err why) room m log m' log' e = absurd (taken≢refused (sym e))
comes_taken (Ok (Declare sensor)) room m log m' log' e =
    let same : log ≡ log' = cc in
    record { model = cc; logged = append-nil log ∙ same }
comes_taken (Ok (Hold i sample)) room m log m' log' e =
    let same : log ≡ log' = cc in
    record { model = cc; logged = append-nil log ∙ same }
comes_taken (Ok (Frame first second third)) room m log m' log' e = go (fits room log (frame_log m first second third)) refl
  where
    go : (b : Bool) → fits room log (frame_log m first second third) ≡ b → Comes m log (frame first second third ∷ []) m' log'
    go true f =
        let w : taken (frame_model m first second third) (log ++ frame_log m first second third) ≡ taken m' log' = rw (f, step) at e in
        let same : log ++ frame_log m first second third ≡ log' = cc in
        record { model = cc; logged = ap (λ l. log ++ l) (append-nil (frame_log m first second third)) ∙ same }
    go false f = absurd (taken≢refused (sym (rw (f, step) at e)))
comes_taken (Ok (Ticks n)) room m log m' log' e = comes_ticks n 0 room m log m' log' e

-- of a refused record, the ticks that were carried out
pub comes_refused : (a : Result Asked Refusal) (room : ℕ) (m : Model) (log : List Logged) (why : Refusal) (t : ℕ) (m' : Model) (log' : List Logged)
    → step a room m log ≡ refused why t m' log'
    → Comes m log (replicate t tick) m' log'
unfolding model_after log_after
comes_refused a room m log why t m' log' e = go t (refused_kept a room m log e)
  where
    go : (t : ℕ) → Kept a room m log (refused why t m' log') → Comes m log (replicate t tick) m' log'
    go zero k = let (p, q) = same_left k in record { model = sym p; logged = append-nil log ∙ sym q }
    go (suc t) k = let (fewer, w, full) = part_left k in comes_ticks (suc t) 0 room m log m' log' w

-- ---- a session
carried_taken : (n : ℕ) (xs : List ℕ) (room : ℕ) (m m' : Model) (log : List Logged) → 0 < length xs → step (asked xs m) room m [] ≡ taken m' log
    → carried_in (suc n) xs room m ≡ asks_for (asked xs m) ++ carried_in n (drop (size_of (asked xs m)) xs) (room - length (bytes_of log)) m'
unfolding carried_in
carried_taken n [] room m m' log h e = absurd (omega arith)
carried_taken n (b ∷ xs) room m m' log h e = rw (e, carried_in)

carried_refused : (n : ℕ) (xs : List ℕ) (room : ℕ) (m : Model) (why : Refusal) (t : ℕ) (m' : Model) (log : List Logged) → 0 < length xs
    → step (asked xs m) room m [] ≡ refused why t m' log → carried_in (suc n) xs room m ≡ replicate t tick
unfolding carried_in
carried_refused n [] room m why t m' log h e = absurd (omega arith)
carried_refused n (b ∷ xs) room m why t m' log h e = rw (e, carried_in)

abbrev Ran : Model → List ℕ → (room : ℕ) → End → Type 0
Ran m xs room r = (n : ℕ) → length xs ≤ n → Comes m [] (carried_in n xs room m) r.model r.log

ran_none : (m : Model) (room n : ℕ) → Comes m [] (carried_in n [] room m) m []
unfolding carried_in model_after log_after
ran_none m room zero = record { model = refl; logged = refl }
ran_none m room (suc n) = record { model = refl; logged = refl }

comes_then : {m m' m'' : Model} {log log' : List Logged} (gs hs : List Happening)
    → Comes m [] gs m' log → Comes m' [] hs m'' log' → Comes m [] (gs ++ hs) m'' (log ++ log')
comes_then {m} {m'} {m''} {log} {log'} gs hs a b =
    record {
      model = model_append m gs hs ∙ ap (λ k. model_after k hs) a.model ∙ b.model;
      logged = log_append m gs hs ∙ ap₂ (λ l k. l ++ log_after k hs) a.logged a.model ∙ ap (λ l. log ++ l) b.logged;
    }

ran_took : (m : Model) (xs : List ℕ) (room : ℕ) (m' : Model) (log : List Logged) → 0 < length xs → step (asked xs m) room m [] ≡ taken m' log → (r : End)
    → Ran m' (drop (size_of (asked xs m)) xs) (room - length (bytes_of log)) r → Ran m xs room (behind (size_of (asked xs m)) log r)
ran_took m xs room m' log some e r ih zero h = absurd (omega arith)
ran_took m xs room m' log some e r ih (suc n) h =
    let z = taken_size (asked xs m) room m [] e in
    let rest = carried_in n (drop (size_of (asked xs m)) xs) (room - length (bytes_of log)) m' in
    rw (carried_taken n xs room m m' log some e)
    (comes_then (asks_for (asked xs m)) rest (comes_taken (asked xs m) room m [] m' log e) (ih n (rw length-drop (omega arith))))

ran_refused : (m : Model) (xs : List ℕ) (room : ℕ) (why : Refusal) (t : ℕ) (m' : Model) (log : List Logged) → 0 < length xs
    → step (asked xs m) room m [] ≡ refused why t m' log → Ran m xs room (ended (number_of why) 0 t m' log)
ran_refused m xs room why t m' log some e zero h = absurd (omega arith)
ran_refused m xs room why t m' log some e (suc n) h =
    rw (carried_refused n xs room m why t m' log some e) (comes_refused (asked xs m) room m [] why t m' log e)

-- A SESSION IS A RUN of what it carried out
ran : (m : Model) (xs : List ℕ) (room : ℕ) → Comes m [] (carried m xs room) (session m xs room).model (session m xs room).log
unfolding carried
ran m xs room = by_records Ran (λ m room n h. ran_none m room n) ran_took ran_refused m xs room (length xs) (omega arith)

pub session_model : (m : Model) (xs : List ℕ) (room : ℕ) → (session m xs room).model ≡ model_after m (carried m xs room)
session_model m xs room = sym (ran m xs room).model

pub session_log : (m : Model) (xs : List ℕ) (room : ℕ) → (session m xs room).log ≡ log_after m (carried m xs room)
session_log m xs room = sym (ran m xs room).logged

-- SEVERAL CALLS ARE A RUN of what they carried out
pub calls_model : (m : Model) (cs : List Call) → model_left m cs ≡ model_after m (carried_out m cs)
unfolding model_left carried_out model_after
calls_model m [] = refl
calls_model m (c ∷ cs) =
    calls_model (session m c.input c.room).model cs
    ∙ ap (λ k. model_after k (carried_out (session m c.input c.room).model cs)) (session_model m c.input c.room)
    ∙ sym (model_append m (carried m c.input c.room) (carried_out (session m c.input c.room).model cs))

-- and the bytes that they wrote are its log
calls_bytes : (m : Model) (cs : List Call) → bytes_written m cs ≡ bytes_of (log_after m (carried_out m cs))
unfolding bytes_written carried_out log_after bytes_of
calls_bytes m [] = refl
calls_bytes m (c ∷ cs) =
    ap₂ (λ l b. bytes_of l ++ b) (session_log m c.input c.room) (calls_bytes (session m c.input c.room).model cs)
    ∙ sym (bytes_append (log_after m (carried m c.input c.room)) (log_after (session m c.input c.room).model later))
    ∙ ap bytes_of
    (ap (λ k. log_after m (carried m c.input c.room) ++ log_after k later) (session_model m c.input c.room)
    ∙ sym (log_append m (carried m c.input c.room) later))
  where
    later : List Happening
    later = carried_out (session m c.input c.room).model cs

pub calls_log : (m : Model) (cs : List Call) → decoded (bytes_written m cs) ≡ log_after m (carried_out m cs)
calls_log m cs = ap decoded (calls_bytes m cs) ∙ decode_log (log_after m (carried_out m cs))

-- M-106: the ticks in the log of a run, and of a session. They never fall, every event is later than the start, and those of one instance rise.
-- Assumes nothing.
use Prim.Native.Nat.{ℕ, suc, ◌+◌, ◌<◌, ◌≤◌, max}
use Rattle.demands.proofs.Shared.EventsInLog.{event_present, events_append, events_frame, events_tick}
use Rattle.demands.proofs.Shared.OneInstance.{happen_length, happen_tick}
use Rattle.demands.proofs.Shared.Runs.{session_log, session_model}
use Rattle.demands.specs.Alone.{rises}
use Rattle.demands.specs.Happenings.{Happening, carried, declare, frame, happen, hold, log_after, logs, model_after, tick}
use Rattle.demands.specs.Window.{Climbs, events_of}
use Rattle.device.proofs.Laws.{counts_known, known_below}
use Rattle.device.specs.Device.{instance_at}
use Rattle.device.specs.Frame.{answer_log, counts, frame_log, loads, numbered_log}
use Rattle.device.specs.declared.model.Model.{Model}
use Rattle.record.specs.Log.{AN, EV, EventAbove, Every, Logged, Rises, UpTo, logged_instance, logged_tick}
use Rattle.sensor.specs.Tick.{is_event, ticked}
use Rattle.sensor.specs.declared.instance.Event.{Event}
use Rattle.sensor.specs.declared.instance.Instance.{Instance}
use Rattle.session.specs.Session.{session}
use Rattle.std.specs.Prelude.{None, Option, Some}
use Rattle.ticks.specs.Tick.{sent_log, sweep_log, tick_log}
use Rattle.timers.specs.Pace.{noted}
use lib.ListN.{length, length-take, take}
use mathlib.Core.Bool.{Bool, cond, false, true}
use mathlib.Core.List.{List, [], ◌++◌, ◌∷◌}
use mathlib.Core.Path.{refl, subst, ◌≡◌}
use native.Mathlib.Decide.{dec_le}
use native.Mathlib.Omega.{arith}

-- ---- one log behind another
every_append : (P : Logged → Type 0) (a b : List Logged) → Every P a → Every P b → Every P (a ++ b)
every_append P [] b p q = q
every_append P (r ∷ a) b p q = (p.0, every_append P a b p.1 q)

pub every_as : {P Q : Logged → Type 0} → ((r : Logged) → P r → Q r) → (log : List Logged) → Every P log → Every Q log
every_as f [] p = tt
every_as f (r ∷ log) p = (f r p.0, every_as f log p.1)

rises_from : (log : List Logged) {low last : ℕ} → low ≤ last → Rises last log → Rises low log
rises_from [] h p = tt
rises_from (r ∷ log) h p = let k = p.0 in (omega arith, p.1)

rises_append : (a b : List Logged) {last end : ℕ} → last ≤ end → Rises last a → UpTo end a → Rises end b → Rises last (a ++ b)
rises_append [] b h p u q = rises_from b h q
rises_append (r ∷ a) b h p u q = (p.0, rises_append a b u.0 p.1 u.1 q)

-- ---- a record that lies in a run: between its ticks, an EV above the first, and of one of so many instances
record Lies (low high most : ℕ) (r : Logged) : Type 0 where
  above : EventAbove low r
  up_to : logged_tick r ≤ high
  below : logged_instance r < most

wider_above : {low low' : ℕ} → low' ≤ low → (r : Logged) → EventAbove low r → EventAbove low' r
wider_above h (EV t i p v) a = omega arith
wider_above h (AN t i b) a = tt

wider : {low high low' high' most most' : ℕ} → low' ≤ low → high ≤ high' → most ≤ most' → (r : Logged) → Lies low high most r → Lies low' high' most' r
wider l h m r p = let u = p.up_to in let b = p.below in record { above = wider_above l r p.above; up_to = omega arith; below = omega arith }

-- how many instances a record may be of: a frame counts only for one of sixteen, and a tick is of those that the device has
abbrev most : Model → ℕ
most m = max 16 (length m.instances)

-- ---- FR: an answer at the tick that is
module _ (m : Model) where
  answer_lies : (i : ℕ) (a : Option ℕ) → i < 16 → Rises m.tick (answer_log m.tick i a) × Every (Lies m.tick m.tick (most m)) (answer_log m.tick i a)
  unfolding answer_log
  answer_lies i None h = (tt, tt)
  answer_lies i (Some b) h = ((omega arith, tt), (record { above = tt; up_to = omega arith; below = omega arith }, tt))

  frame_lies : (first second third : ℕ)
      → Rises m.tick (frame_log m first second third) × Every (Lies m.tick m.tick (most m)) (frame_log m first second third)
  unfolding frame_log numbered_log
  frame_lies first second third = go (loads first second) (counts m first second) refl
    where
      go : (l c : Bool) → counts m first second ≡ c
          → Rises m.tick (cond l [] (cond c (numbered_log m second third) [])) × Every (Lies m.tick m.tick (most m)) (cond l [] (cond c (numbered_log m second third) []))
      go true c e = (tt, tt)
      go false true e = answer_lies second _ (known_below m second (counts_known m first second e)).1
      go false false e = (tt, tt)

-- ---- a tick: its events bear its number
sweep_rises : (t j : ℕ) (xs : List Instance) {last : ℕ} → last ≤ t → Rises last (sweep_log t j xs)
unfolding sweep_log sent_log
sweep_rises t j [] h = tt
sweep_rises t j (x ∷ xs) {last} h = go (ticked x).sent (sweep_rises t (suc j) xs h) (sweep_rises t (suc j) xs {last = t} (omega arith))
  where
    go : (s : Option Event) → Rises last (sweep_log t (suc j) xs) → Rises t (sweep_log t (suc j) xs) → Rises last (sent_log t j s ++ sweep_log t (suc j) xs)
    go None p q = p
    go (Some e) p q = (h, q)

sent_lies : (now j most : ℕ) (s : Option Event) → j < most → Every (Lies now (now + 1) most) (sent_log (now + 1) j s)
unfolding sent_log
sent_lies now j most None h = tt
sent_lies now j most (Some e) h = (record { above = omega arith; up_to = omega arith; below = h }, tt)

sweep_lies : (now j most : ℕ) (xs : List Instance) → j + length xs ≤ most → Every (Lies now (now + 1) most) (sweep_log (now + 1) j xs)
unfolding sweep_log
sweep_lies now j most [] h = tt
sweep_lies now j most (x ∷ xs) h =
    every_append (Lies now (now + 1) most) (sent_log (now + 1) j (ticked x).sent) _ (sent_lies now j most (ticked x).sent (omega arith)) (sweep_lies now (suc j) most xs (omega arith))

-- ---- any happening, and a run of them
module _ (m : Model) where
  logs_rise : (h : Happening) → Rises m.tick (logs m h)
  unfolding tick_log
  logs_rise (declare sensor) = tt
  logs_rise (hold i sample) = tt
  logs_rise (frame first second third) = (frame_lies m first second third).0
  logs_rise tick = sweep_rises (m.tick + 1) 0 (take m.declared m.instances) (omega arith)

  logs_lie : (h : Happening) → Every (Lies m.tick (m.tick + rises h) (most m)) (logs m h)
  unfolding tick_log
  logs_lie (declare sensor) = tt
  logs_lie (hold i sample) = tt
  logs_lie (frame first second third) = every_as (wider (omega arith) (omega arith) (omega arith)) (frame_log m first second third) (frame_lies m first second third).1
  logs_lie tick = sweep_lies m.tick 0 (most m) (take m.declared m.instances) (rw length-take (omega arith))

pub run_onward : (m : Model) (hs : List Happening) → m.tick ≤ (model_after m hs).tick
unfolding model_after
run_onward m [] = omega arith
run_onward m (h ∷ hs) = omega (arith, happen_tick m h, run_onward (happen m h) hs)

run_lies : (m : Model) (hs : List Happening) → Every (Lies m.tick (model_after m hs).tick (most m)) (log_after m hs)
unfolding model_after log_after
run_lies m [] = tt
run_lies m (h ∷ hs) =
    let e = happen_tick m h in
    let l = happen_length m h in
    let up = run_onward (happen m h) hs in
    every_append (Lies m.tick (model_after (happen m h) hs).tick (most m)) (logs m h) (log_after (happen m h) hs) (every_as (wider (omega arith) (omega arith) (omega arith)) (logs m h) (logs_lie m h))
    (every_as (wider (omega arith) (omega arith) (omega arith)) (log_after (happen m h) hs) (run_lies (happen m h) hs))

-- no tick is above the last, every event is later than the start, and no record is of a seventeenth instance
module _ (m : Model) (hs : List Happening) where
  pub run_upto : UpTo (model_after m hs).tick (log_after m hs)
  run_upto = every_as (λ r p. p.up_to) (log_after m hs) (run_lies m hs)

  pub run_events : Every (EventAbove m.tick) (log_after m hs)
  run_events = every_as (λ r p. p.above) (log_after m hs) (run_lies m hs)

  pub run_instances : length m.instances ≤ 16 → Every (λ r. logged_instance r < 16) (log_after m hs)
  run_instances few = every_as (λ r p. let b = p.below in omega arith) (log_after m hs) (run_lies m hs)

-- TICKS NEVER FALL
pub run_rises : (m : Model) (hs : List Happening) → Rises m.tick (log_after m hs)
unfolding log_after
run_rises m [] = tt
run_rises m (h ∷ hs) =
    let e = happen_tick m h in
    rises_append (logs m h) (log_after (happen m h) hs) (omega arith) (logs_rise m h)
    (every_as (λ r p. let u = p.up_to in omega arith) (logs m h) (logs_lie m h)) (run_rises (happen m h) hs)

-- ---- the events of one instance
climbs_from : (low last : ℕ) (ts : List ℕ) → low ≤ last → Climbs last ts → Climbs low ts
climbs_from low last [] h c = tt
climbs_from low last (t ∷ ts) h c = let k = c.0 in (omega arith, c.1)

climbs_noted : (b : Bool) (last : ℕ) (ts : List ℕ) → Climbs (last + 1) ts → Climbs last (noted b (last + 1) ++ ts)
climbs_noted true last ts c = (omega arith, c)
climbs_noted false last ts c = climbs_from last (last + 1) ts (omega arith) c

-- a tick logs at most one
events_once : (i : ℕ) (m : Model) → (b : Bool) × (events_of i (tick_log m) ≡ noted b (m.tick + 1))
events_once i m = go (dec_le 1 (length (events_of i (tick_log m))))
  where
    none : (ts : List ℕ) → (1 ≤ length ts → ⊥) → ts ≡ []
    none [] h = refl
    none (t ∷ ts) h = absurd (h (omega arith))

    go : Dec (1 ≤ length (events_of i (tick_log m))) → (b : Bool) × (events_of i (tick_log m) ≡ noted b (m.tick + 1))
    go (yes h) = (is_event (ticked (instance_at m i)).sent, events_tick (event_present i m h))
    go (no h) = (false, none _ h)

-- EVENTS OF ONE INSTANCE RISE
pub run_climbs : (i : ℕ) (m : Model) (hs : List Happening) → Climbs m.tick (events_of i (log_after m hs))
unfolding log_after events_of
run_climbs i m [] = tt
run_climbs i m (h ∷ hs) = rw (events_append i (logs m h) (log_after (happen m h) hs)) (by h (happen_tick m h) (run_climbs i (happen m h) hs))
  where
    rest : Happening → List ℕ
    rest h = events_of i (log_after (happen m h) hs)

    by : (h : Happening) → (happen m h).tick ≡ m.tick + rises h → Climbs (happen m h).tick (rest h) → Climbs m.tick (events_of i (logs m h) ++ rest h)
    by (declare sensor) e c = climbs_from m.tick _ (rest (declare sensor)) (omega arith) c
    by (hold j sample) e c = climbs_from m.tick _ (rest (hold j sample)) (omega arith) c
    by (frame a b d) e c = rw (events_frame i m a b d) (climbs_from m.tick _ (rest (frame a b d)) (omega arith) c)
    by tick e c = let (b, once) = events_once i m in rw once (climbs_noted b m.tick (rest tick) (subst (λ t. Climbs t (rest tick)) e c))

-- ---- A SESSION is such a run
module _ (m : Model) (xs : List ℕ) (room : ℕ) where
  pub session_onward : m.tick ≤ (session m xs room).model.tick
  session_onward = rw (session_model m xs room) (run_onward m (carried m xs room))

  pub session_rises : Rises m.tick (session m xs room).log
  session_rises = rw (session_log m xs room) (run_rises m (carried m xs room))

  pub session_upto : UpTo (session m xs room).model.tick (session m xs room).log
  session_upto = rw (session_log m xs room, session_model m xs room) (run_upto m (carried m xs room))

  pub session_events : Every (EventAbove m.tick) (session m xs room).log
  session_events = rw (session_log m xs room) (run_events m (carried m xs room))

  pub session_instances : length m.instances ≤ 16 → Every (λ r. logged_instance r < 16) (session m xs room).log
  session_instances few = rw (session_log m xs room) (run_instances m (carried m xs room) few)

  pub session_climbs : (i : ℕ) → Climbs m.tick (events_of i (session m xs room).log)
  session_climbs i = rw (session_log m xs room) (run_climbs i m (carried m xs room))

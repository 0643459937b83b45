-- The events of an instance in a log: a frame logs none, and a tick the one that the instance itself sent.
-- Assumes nothing.
use Prim.Native.Nat.{ℕ, zero, suc, ◌+◌, ◌<◌, ◌≤◌}
use Rattle.demands.specs.Alone.{Present}
use Rattle.demands.specs.Window.{events_of}
use Rattle.device.specs.Device.{instance_at}
use Rattle.device.specs.Frame.{acted_at, answer_log, counts, frame_log, loads, numbered_log}
use Rattle.device.specs.declared.model.Model.{Model}
use Rattle.record.specs.Log.{AN, EV, Logged}
use Rattle.sensor.specs.Fresh as sensors
use Rattle.sensor.specs.Tick.{is_event, ticked}
use Rattle.sensor.specs.declared.instance.Event.{Event}
use Rattle.sensor.specs.declared.instance.Instance.{Instance}
use Rattle.std.specs.Prelude.{None, Option, Some}
use Rattle.ticks.specs.Tick.{sent_log, sweep_log, tick_log}
use Rattle.timers.specs.Pace.{noted}
use borrow.Author.Tests.{eq-eqb, ne_eqb}
use lib.Dec.{eqb}
use lib.ListN.{get_or, length, length-take, take}
use lib.Seq.{get_or-take}
use mathlib.Core.Bool.{Bool, cond, false, true}
use mathlib.Core.List.{List, [], append_assoc, append-nil, ◌++◌, ◌∷◌}
use mathlib.Core.Logic.{◌≢◌}
use mathlib.Core.Path.{ap, refl, sym, ◌∙◌, ◌≡◌}
use native.Mathlib.Decide.{dec_lt}
use native.Mathlib.Nat.{add-zero, zero-add}
use native.Mathlib.Omega.{arith}

pub events_append : (i : ℕ) (a b : List Logged) → events_of i (a ++ b) ≡ events_of i a ++ events_of i b
unfolding events_of
events_append i [] b = refl
events_append i (EV t j p v ∷ a) b =
    ap (λ l. noted (eqb j i) t ++ l) (events_append i a b)
    ∙ sym (append_assoc (noted (eqb j i) t) (events_of i a) (events_of i b))
events_append i (AN t j v ∷ a) b = events_append i a b

events_answer : (i t j : ℕ) (a : Option ℕ) → events_of i (answer_log t j a) ≡ []
unfolding events_of answer_log
events_answer i t j None = refl
events_answer i t j (Some b) = refl

-- a frame logs no event
pub events_frame : (i : ℕ) (m : Model) (a b c : ℕ) → events_of i (frame_log m a b c) ≡ []
unfolding frame_log numbered_log events_of
events_frame i m a b c = go (loads a b) (counts m a b)
  where
    go : (x y : Bool) → events_of i (cond x [] (cond y (numbered_log m b c) [])) ≡ []
    go true y = refl
    go false true = events_answer i m.tick b (acted_at m b c).answer
    go false false = refl

-- at a tick instance i notes its own event, and the others none for it
own : (t i : ℕ) (s : Option Event) → events_of i (sent_log t i s) ≡ noted (is_event s) t
unfolding events_of sent_log
own t i None = refl
own t i (Some e) = rw (eq-eqb i i refl)

foreign : (t i j : ℕ) (s : Option Event) → j ≢ i → events_of i (sent_log t j s) ≡ []
unfolding events_of sent_log
foreign t i j None n = refl
foreign t i j (Some e) n = rw (ne_eqb j i n)

sweep_below : (t i j : ℕ) (xs : List Instance) → i < j → events_of i (sweep_log t j xs) ≡ []
unfolding sweep_log events_of
sweep_below t i j [] h = refl
sweep_below t i j (x ∷ xs) h = rw (events_append, foreign t i j (ticked x).sent (λ e. omega arith)) (sweep_below t i (suc j) xs (omega arith))

sweep_past : (t i j : ℕ) (xs : List Instance) → length xs ≤ i → events_of (i + j) (sweep_log t j xs) ≡ []
unfolding sweep_log events_of
sweep_past t i j [] h = refl
sweep_past t zero j (y ∷ xs) h = absurd (omega arith)
sweep_past t (suc i) j (y ∷ xs) h =
    let e : suc i + j ≡ i + suc j = omega arith in
    rw (events_append, foreign t (suc i + j) j (ticked y).sent (λ e. omega arith), e) (sweep_past t i (suc j) xs (omega arith))

sweep_at : (t i j : ℕ) (xs : List Instance) → i < length xs → events_of (i + j) (sweep_log t j xs) ≡ noted (is_event (ticked (get_or xs i sensors.blank)).sent) t
unfolding sweep_log
sweep_at t i j [] h = absurd (omega arith)
sweep_at t zero j (y ∷ xs) h = rw (zero-add, events_append, own t j (ticked y).sent, sweep_below t j (suc j) xs (omega arith), append-nil)
sweep_at t (suc i) j (y ∷ xs) h =
    let e : suc i + j ≡ i + suc j = omega arith in
    rw (events_append, foreign t (suc i + j) j (ticked y).sent (λ e. omega arith), e) (sweep_at t i (suc j) xs (omega arith))

-- so a tick logs of instance i what it sent
pub events_tick : {i : ℕ} {m : Model} → Present i m → events_of i (tick_log m) ≡ noted (is_event (ticked (instance_at m i)).sent) (m.tick + 1)
unfolding tick_log instance_at
events_tick {i} {m} p =
    ap (λ k. events_of k (tick_log m)) (sym (add-zero i))
    ∙ sweep_at (m.tick + 1) i 0 (take m.declared m.instances) (rw length-take (omega (arith, p.declared, p.listed)))
    ∙ ap (λ x. noted (is_event (ticked x).sent) (m.tick + 1)) (get_or-take m.declared m.instances i sensors.blank p.declared)

-- an instance whose event a tick logged is there
pub event_present : (i : ℕ) (m : Model) → 0 < length (events_of i (tick_log m)) → Present i m
unfolding tick_log
event_present i m h = go (dec_lt i (length (take m.declared m.instances)))
  where
    go : Dec (i < length (take m.declared m.instances)) → Present i m
    go (yes p) = let l = length-take m.declared m.instances in record { declared = omega arith; listed = omega arith }
    go (no p) =
        let e : events_of (i + 0) (tick_log m) ≡ [] = sweep_past (m.tick + 1) i 0 (take m.declared m.instances) (omega arith) in
        let n : events_of i (tick_log m) ≡ [] = ap (λ k. events_of k (tick_log m)) (sym (add-zero i)) ∙ e in
        absurd (omega (arith, ap length n))

-- What a run is to one instance, seen from its timers: so many ticks with some causes, and its events those that they let out.
-- Assumes nothing.
use Prim.Native.Nat.{ℕ, suc, ◌+◌}
use Rattle.command.proofs.Laws.{calm_untimed}
use Rattle.demands.proofs.Shared.EventsInLog.{events_append, events_frame, events_tick}
use Rattle.demands.proofs.Shared.OneInstance.{first_half, frame_own, happen_present, held_own, sets_none, ticked_own}
use Rattle.demands.specs.Alone.{Present}
use Rattle.demands.specs.Happenings.{Happening, declare, frame, happen, hold, log_after, logs, tick, ticks_in}
use Rattle.demands.specs.Window.{Undisturbed, events_of, rules_of, sets_it}
use Rattle.device.proofs.Laws.{declared_other, declared_tick, frame_tick, held_other, held_tick}
use Rattle.device.specs.Device.{held_model, instance_at}
use Rattle.device.specs.Frame.{again, counts, frame_model, sets}
use Rattle.device.specs.declared.model.Model.{Model}
use Rattle.record.specs.Log.{Logged}
use Rattle.sensor.proofs.Laws.{decision_made, holding_keeps, rules_kept, sent_decided, ticked_timers}
use Rattle.sensor.specs.Fresh.{blank}
use Rattle.sensor.specs.Kind.{cause, rules}
use Rattle.sensor.specs.Tick.{decision_at, holding, taken_kind, valid}
use Rattle.sensor.specs.declared.instance.Instance.{Instance}
use Rattle.sensor.specs.declared.sensors.Sensor.{Sensor}
use Rattle.sensor.specs.declared.settings.Sample.{Sample}
use Rattle.ticks.specs.Tick.{tick_log, tick_model}
use Rattle.timers.specs.Decision.{after, decided, sends}
use Rattle.timers.specs.Pace.{noted, sendings}
use Rattle.timers.specs.Timers.{fallen}
use Rattle.timers.specs.declared.Decision.{Decision}
use Rattle.timers.specs.declared.Rules.{Rules}
use Rattle.timers.specs.declared.Timers.{Timers}
use lib.ListN.{get_or, length}
use mathlib.Core.Bool.{Bool, false, true}
use mathlib.Core.List.{List, [], ◌++◌, ◌∷◌}
use mathlib.Core.Path.{ap, ap₂, refl, subst, sym, ◌∙◌, ◌≡◌}
use native.Mathlib.Decide.{ℕ_discrete}
use native.Mathlib.Numerals.{add-one}
use native.Mathlib.Omega.{arith}

-- ---- what is no tick keeps rules and timers of instance i, and logs no event of it
record Same (x y : Instance) : Type 0 where
  rules : rules_of y ≡ rules_of x
  timers : y.timers ≡ x.timers

same : {x y : Instance} → y ≡ x → Same x y
same e = record { rules = ap rules_of e; timers = ap (λ x. x.timers) e }

held_same : (x : Instance) (sample : Sample) → Same x (holding x sample)
held_same x sample = let k = holding_keeps x sample in record { rules = ap₂ rules k.1 k.2; timers = k.3 }

record Quiet (i : ℕ) (m : Model) (h : Happening) : Type 0 where
  kept : Same (instance_at m i) (instance_at (happen m h) i)
  silent : events_of i (logs m h) ≡ []
  time : (happen m h).tick ≡ m.tick

via : {x y z : Instance} → z ≡ y → Same x y → Same x z
via e s = record { rules = ap rules_of e ∙ s.rules; timers = ap (λ x. x.timers) e ∙ s.timers }

quiet_declare : (i : ℕ) (m : Model) (sensor : Sensor) → Present i m → Quiet i m (declare sensor)
unfolding events_of
quiet_declare i m sensor p =
    record {
      kept = same (declared_other m sensor i (λ e. omega (arith, p.declared)));
      silent = refl;
      time = declared_tick m sensor;
    }

quiet_hold : (i : ℕ) (m : Model) (j : ℕ) (sample : Sample) → Present i m → Quiet i m (hold j sample)
unfolding events_of
quiet_hold i m j sample p = record { kept = go (ℕ_discrete i j); silent = refl; time = held_tick m j sample }
  where
    go : Dec (i ≡ j) → Same (instance_at m i) (instance_at (held_model m j sample) i)
    go (yes e) = rw (← e) (via (held_own sample p) (held_same (instance_at m i) sample))
    go (no n) = same (held_other m j sample i n)

quiet_frame : (i : ℕ) (m : Model) (a b c : ℕ) → sets_it i m a b c ≡ false → Quiet i m (frame a b c)
unfolding instance_at
quiet_frame i m a b c e = record { kept = go (again m a b c) refl (sets m b c) refl; silent = events_frame i m a b c; time = frame_tick m a b c }
  where
    x : Instance
    x = instance_at m i

    acts : (counts m a b ≡ true → i ≡ b → sets m i c ≡ false) → Same x (instance_at (frame_model m a b c) i)
    acts calm =
        frame_own (Same x) i m a b c (same refl)
        (λ n q. let untimed = calm_untimed x c m.dtr0 (calm n q) in record { rules = untimed.0; timers = untimed.1 })

    -- a first half ends no window
    go : (r : Bool) → again m a b c ≡ r → (s : Bool) → sets m b c ≡ s → Same x (instance_at (frame_model m a b c) i)
    go true r s t = acts (sets_none i m a b c e r)
    go false r true t = same (ap (λ xs. get_or xs i blank) (first_half m a b c t r))
    go false r false t = acts (λ n q. subst (λ k. sets m k c ≡ false) (sym q) t)

-- ---- a run, seen from the timers of instance i: n ticks, with some causes
pub record Seen (i n : ℕ) (r : Rules) (t : Timers) (now : ℕ) (log : List Logged) : Type 0 where
  pub causes : List Bool
  pub each_tick : length causes ≡ n
  pub events : events_of i log ≡ sendings r t now causes

after_quiet : (i n : ℕ) (m : Model) (h : Happening) (log : List Logged) → (q : Quiet i m h)
    → Seen i n (rules_of (instance_at (happen m h) i)) (instance_at (happen m h) i).timers (happen m h).tick log
    → Seen i n (rules_of (instance_at m i)) (instance_at m i).timers m.tick (logs m h ++ log)
after_quiet i n m h log q s =
    record {
      causes = s.causes;
      each_tick = s.each_tick;
      events = rw (events_append, q.silent) (s.events ∙ rw (q.kept.rules, q.kept.timers, q.time));
    }

after_tick : (i n : ℕ) (m : Model) → Present i m → valid (instance_at m i) ≡ true → (log : List Logged)
    → Seen i n (rules_of (instance_at (tick_model m) i)) (instance_at (tick_model m) i).timers (tick_model m).tick log
    → Seen i (suc n) (rules_of (instance_at m i)) (instance_at m i).timers m.tick (tick_log m ++ log)
unfolding sendings tick_model
after_tick i n m p v log s =
    record {
      causes = cause (taken_kind x) x.settings ∷ s.causes;
      each_tick = ap suc s.each_tick;
      events = events_append i (tick_log m) log ∙ ap₂ ◌++◌ noted_here (s.events ∙ later);
    }
  where
    x : Instance
    x = instance_at m i

    x' : Instance
    x' = instance_at (tick_model m) i

    decision : Decision
    decision = decided (rules_of x) true (fallen x.timers) (cause (taken_kind x) x.settings)

    decides : decision_at x ≡ decision
    decides = decision_made x ∙ ap (λ w. decided (rules_of x) w (fallen x.timers) (cause (taken_kind x) x.settings)) v

    noted_here : events_of i (tick_log m) ≡ noted (sends decision) (suc m.tick)
    noted_here = events_tick p ∙ ap₂ noted (sent_decided x ∙ ap sends decides) (add-one m.tick)

    rules_here : rules_of x' ≡ rules_of x
    rules_here = ap rules_of (ticked_own p) ∙ rules_kept x

    timers_here : x'.timers ≡ after decision (rules_of x) (fallen x.timers)
    timers_here = ap (λ y. y.timers) (ticked_own p) ∙ ticked_timers x ∙ ap (λ g. after g (rules_of x) (fallen x.timers)) decides

    later : sendings (rules_of x') x'.timers (m.tick + 1) s.causes
        ≡ sendings (rules_of x) (after decision (rules_of x) (fallen x.timers)) (suc m.tick) s.causes
    later = rw (rules_here, timers_here, add-one m.tick)

-- EVERY RUN that leaves instance i undisturbed
pub seen : (i : ℕ) (m : Model) → Present i m → (hs : List Happening) → Undisturbed i m hs
    → Seen i (ticks_in hs) (rules_of (instance_at m i)) (instance_at m i).timers m.tick (log_after m hs)
unfolding log_after ticks_in events_of sendings
seen i m p [] u = record { causes = []; each_tick = refl; events = refl }
seen i m p (declare sensor ∷ hs) u =
    let h = declare sensor in
    after_quiet i (ticks_in hs) m h (log_after (happen m h) hs) (quiet_declare i m sensor p) (seen i (happen m h) (happen_present m h p) hs u.1)
seen i m p (hold j sample ∷ hs) u =
    let h = hold j sample in
    after_quiet i (ticks_in hs) m h (log_after (happen m h) hs) (quiet_hold i m j sample p) (seen i (happen m h) (happen_present m h p) hs u.1)
seen i m p (frame a b c ∷ hs) u =
    let h = frame a b c in
    after_quiet i (ticks_in hs) m h (log_after (happen m h) hs) (quiet_frame i m a b c u.0) (seen i (happen m h) (happen_present m h p) hs u.1)
seen i m p (tick ∷ hs) u = after_tick i (ticks_in hs) m p u.0 (log_after (tick_model m) hs) (seen i (tick_model m) (happen_present m tick p) hs u.1)

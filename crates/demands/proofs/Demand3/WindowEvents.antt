-- The tick number rises by the ticks carried out, and each event bears the number of its tick: so the events of a window are those between its
-- ticks.
-- Assumes nothing.
use Prim.Native.Nat.{ℕ, suc, ◌+◌, ◌<◌, ◌≤◌}
use Rattle.demands.proofs.Shared.EventsInLog.{events_append, events_frame}
use Rattle.demands.proofs.Shared.OneInstance.{happen_tick, run_ticks, ticks_cons}
use Rattle.demands.proofs.Shared.Runs.{calls_log, log_append}
use Rattle.demands.specs.Alone.{rises}
use Rattle.demands.specs.Happenings.{Call, Happening, carried_out, declare, frame, happen, hold, log_after, logs, model_after, tick, ticks_in}
use Rattle.demands.specs.Window.{Cut, between, device_after, device_before, events, events_of, last, n}
use Rattle.device.specs.declared.model.Model.{Model}
use Rattle.sensor.specs.Tick.{ticked}
use Rattle.sensor.specs.declared.instance.Event.{Event}
use Rattle.sensor.specs.declared.instance.Instance.{Instance}
use Rattle.std.specs.Prelude.{None, Option, Some}
use Rattle.ticks.specs.Tick.{sent_log, sweep_log, tick_log}
use Rattle.timers.specs.Pace.{noted}
use borrow.Author.Tests.{le-leb, le-ltb, lt-leb, lt-ltb}
use lib.Dec.{eqb, leb, ltb}
use lib.ListN.{take}
use mathlib.Core.Bool.{Bool, and-false, false, true, ◌&&◌}
use mathlib.Core.List.{List, [], append_assoc, append-nil, ◌++◌, ◌∷◌}
use mathlib.Core.Path.{ap, refl, sym, ◌∙◌, ◌≡◌}
use native.Mathlib.Omega.{arith}

-- ---- ticks above one number and up to another
pub data Within (low high : ℕ) : List ℕ → Type 0 where
  none : Within low high []
  more : {t : ℕ} {ts : List ℕ} → low < t → t ≤ high → Within low high ts → Within low high (t ∷ ts)

within_append : {low high : ℕ} {a b : List ℕ} → Within low high a → Within low high b → Within low high (a ++ b)
within_append none q = q
within_append (more l h p) q = more l h (within_append p q)

within_wider : {low high low' high' : ℕ} {ts : List ℕ} → low' ≤ low → high ≤ high' → Within low high ts → Within low' high' ts
within_wider l h none = none
within_wider l h (more {t} a b p) = more {t = t} (omega arith) (omega arith) (within_wider l h p)

between_append : (low high : ℕ) (a b : List ℕ) → between low high (a ++ b) ≡ between low high a ++ between low high b
unfolding between
between_append low high [] b = refl
between_append low high (t ∷ a) b =
    ap (λ l. noted (ltb low t && leb t high) t ++ l) (between_append low high a b)
    ∙ sym (append_assoc (noted (ltb low t && leb t high) t) (between low high a) (between low high b))

between_all : {low high : ℕ} {ts : List ℕ} → Within low high ts → between low high ts ≡ ts
unfolding between
between_all none = refl
between_all {low} {high} (more {t} l h p) = rw (lt-ltb low t l, le-leb t high h, between_all p)

between_early : {least low : ℕ} {ts : List ℕ} (high : ℕ) → Within least low ts → between low high ts ≡ []
unfolding between
between_early high none = refl
between_early {low = low} high (more {t} l h p) = rw (le-ltb low t h, between_early high p)

between_late : {high most : ℕ} {ts : List ℕ} (low : ℕ) → Within high most ts → between low high ts ≡ []
unfolding between
between_late low none = refl
between_late {high = high} low (more {t} l h p) = rw (lt-leb t high l, and-false (ltb low t), between_late low p)

-- ---- each event bears the number of its tick
noted_within : (now : ℕ) (b : Bool) → Within now (now + 1) (noted b (now + 1))
noted_within now true = more {t = now + 1} (omega arith) (omega arith) none
noted_within now false = none

sent_within : (now i j : ℕ) (s : Option Event) → Within now (now + 1) (events_of i (sent_log (now + 1) j s))
unfolding events_of sent_log
sent_within now i j None = none
sent_within now i j (Some e) = rw append-nil (noted_within now (eqb j i))

sweep_within : (now i j : ℕ) (xs : List Instance) → Within now (now + 1) (events_of i (sweep_log (now + 1) j xs))
unfolding sweep_log events_of
sweep_within now i j [] = none
sweep_within now i j (x ∷ xs) = rw events_append (within_append (sent_within now i j (ticked x).sent) (sweep_within now i (suc j) xs))

-- ---- the events of a run
logs_within : (i : ℕ) (m : Model) (h : Happening) → Within m.tick (m.tick + rises h) (events_of i (logs m h))
unfolding events_of tick_log
logs_within i m (declare sensor) = none
logs_within i m (hold j sample) = none
logs_within i m (frame a b c) = rw (events_frame i m a b c) none
logs_within i m tick = sweep_within m.tick i 0 (take m.declared m.instances)

pub run_within : (i : ℕ) (m : Model) (hs : List Happening) → Within m.tick (m.tick + ticks_in hs) (events_of i (log_after m hs))
unfolding log_after events_of
run_within i m [] = none
run_within i m (h ∷ hs) =
    let e = happen_tick m h in
    let t = ticks_cons h hs in
    rw events_append
    (within_append (within_wider (omega arith) (omega arith) (logs_within i m h)) (within_wider (omega arith) (omega arith) (run_within i (happen m h) hs)))

-- THE EVENTS OF A WINDOW, in the bytes of the log: those of its run
module _ {m₀ : Model} {calls : List Call} {h : Happening} (c : Cut m₀ calls h) (i : ℕ) where
  pub log_cut : log_after m₀ (carried_out m₀ calls)
      ≡ log_after m₀ c.before
      ++ (logs (device_before c) h ++ (log_after (device_after c) c.during ++ log_after (model_after (device_after c) c.during) c.later))
  unfolding log_after
  log_cut =
      ap (log_after m₀) c.cut
      ∙ log_append m₀ c.before (h ∷ (c.during ++ c.later))
      ∙ ap (λ l. log_after m₀ c.before ++ (logs (device_before c) h ++ l)) (log_append (device_after c) c.during c.later)

  pub window_events : events c i ≡ events_of i (log_after (device_after c) c.during)
  window_events =
      ap (λ l. between (last c) (last c + n c) (events_of i l)) (calls_log m₀ calls ∙ log_cut)
      ∙ rw (events_append, events_append, events_append, between_append, between_append, between_append, early, at_once, within, late, append-nil)
    where
      rise : last c ≡ (device_before c).tick + rises h
      rise = happen_tick (device_before c) h

      early : between (last c) (last c + n c) (events_of i (log_after m₀ c.before)) ≡ []
      early =
          between_early {least = m₀.tick} (last c + n c)
          (within_wider (omega arith) (omega (arith, rise, run_ticks m₀ c.before)) (run_within i m₀ c.before))

      at_once : between (last c) (last c + n c) (events_of i (logs (device_before c) h)) ≡ []
      at_once =
          between_early {least = (device_before c).tick} (last c + n c)
          (within_wider (omega arith) (omega (arith, rise)) (logs_within i (device_before c) h))

      within : between (last c) (last c + n c) (events_of i (log_after (device_after c) c.during)) ≡ events_of i (log_after (device_after c) c.during)
      within = between_all (run_within i (device_after c) c.during)

      late : between (last c) (last c + n c) (events_of i (log_after (model_after (device_after c) c.during) c.later)) ≡ []
      late =
          between_late {most = (model_after (device_after c) c.during).tick + ticks_in c.later} (last c)
          (within_wider (omega (arith, run_ticks (device_after c) c.during)) (omega arith) (run_within i (model_after (device_after c) c.during) c.later))

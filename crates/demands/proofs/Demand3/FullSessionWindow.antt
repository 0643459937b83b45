-- Demand 3 has something to say of document 01's full session: the window of the 40 ticks after its first event.
-- Assumes nothing.
use Prim.Native.Nat.{ℕ, zero, suc, max, ◌/◌}
use Rattle.demands.proofs.Demand3.WindowEvents.{window_events}
use Rattle.demands.proofs.Shared.FullSession.{computing, full}
use Rattle.demands.proofs.Shared.OneInstance.{happen_present, ticked_own}
use Rattle.demands.specs.Alone.{Present}
use Rattle.demands.specs.Happenings.{Call, Happening, bytes_written, carried, carried_in, carried_out, declare, frame, happen, hold, log_after, model_after, tick, ticks_in}
use Rattle.demands.specs.Window.{Cut, D, R, Undisturbed, Window, device_after, events, events_of, n}
use Rattle.device.specs.Device.{fresh, instance_at}
use Rattle.device.specs.declared.model.Model.{Model}
use Rattle.sensor.proofs.Laws.{held_kept}
use Rattle.sensor.specs.Tick.{valid}
use Rattle.sensor.specs.declared.instance.Instance.{Instance}
use Rattle.sensor.specs.declared.sensors.Sensor.TheVariants.{Light}
use Rattle.ticks.specs.Tick.{tick_model}
use lib.Dec.{eqb}
use lib.ListN.{length, replicate}
use mathlib.Core.Bool.{true}
use mathlib.Core.List.{List, [], ◌∷◌}
use mathlib.Core.Path.{ap, refl, ◌∙◌, ◌≡◌}
use native.Mathlib.Omega.{arith}

-- ticks leave a held sample as it is
still_valid : (k i : ℕ) (m : Model) → Present i m → valid (instance_at m i) ≡ true → Undisturbed i m (replicate k tick)
still_valid zero i m p v = tt
still_valid (suc k) i m p v =
    (v, still_valid k i (tick_model m) (happen_present m tick p) (ap valid (ticked_own p) ∙ ap (λ s. eqb s.status 0) (held_kept (instance_at m i)) ∙ v))

abbrev calls : List Call
calls = record { input = full; room = 28 } ∷ []

abbrev measured : ℕ → Happening
measured v = hold 0 (record { status = 0; value = v })

-- its first event, with what happened before it, in the 40 ticks after it, and later
first_event : Cut fresh calls tick
unfolding computing bytes_written carried carried_in carried_out log_after model_after ticks_in events_of
first_event = record { before = declare (Light 8) ∷ measured 100 ∷ []; during = measured 94 ∷ replicate 40 tick; later = frame 0x01 0x00 0x8C ∷ []; cut = refl }

window : Window fresh calls 0
unfolding first_event
window =
    record {
      at = first_event;
      event = omega arith;
      reports = record { set = omega arith; lets = refl };
      undisturbed = (tt, still_valid 40 0 (happen (device_after first_event) (measured 94)) (record { declared = omega arith; listed = omega arith }) refl);
    }

-- instance 0 just after its first event
abbrev x : Instance
x = instance_at (device_after window.at) 0

-- its only event of the window is that of tick 31
event_31 : events window.at 0 ≡ (31 ∷ [])
unfolding window
event_31 = window_events window.at 0 ∙ refl

-- so the upper count, n / max(D, 1), is met
window_met : (n window.at ≡ 40) × (D x ≡ 30) × (R x ≡ 600) × (length (events window.at 0) ≡ n window.at / max (D x) 1)
unfolding window
window_met = (refl, refl, refl, rw event_31)

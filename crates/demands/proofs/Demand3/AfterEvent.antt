-- Just after an event of an instance: it is enabled, its timers are started, and its events from then on are paced.
-- Assumes nothing.
use Prim.Native.Nat.{ℕ, ◌+◌, ◌<◌, max}
use Rattle.demands.proofs.Demand3.SeenFromTimers.{seen}
use Rattle.demands.proofs.Shared.EventsInLog.{event_present, events_tick}
use Rattle.demands.proofs.Shared.OneInstance.{happen_present, ticked_own}
use Rattle.demands.specs.Alone.{Present}
use Rattle.demands.specs.Happenings.{Happening, log_after, tick, ticks_in}
use Rattle.demands.specs.Window.{D, R, Reports, Undisturbed, events_of, rules_of}
use Rattle.device.specs.Device.{instance_at}
use Rattle.device.specs.declared.model.Model.{Model}
use Rattle.sensor.proofs.Laws.{only_enabled, rules_kept, sent_starts, settings_kept}
use Rattle.sensor.proofs.Reporting.{reporting}
use Rattle.sensor.specs.Tick.{is_event, ticked}
use Rattle.ticks.specs.Tick.{tick_log, tick_model}
use Rattle.timers.proofs.Pace.Apart.{Spaced}
use Rattle.timers.proofs.Pace.{timers_paced, timers_spaced}
use Rattle.timers.specs.Pace.{Paced, Reporting, noted, sendings}
use Rattle.timers.specs.Timers.{dead_time, report_time, started}
use Rattle.timers.specs.declared.Rules.{Rules}
use lib.ListN.{length}
use mathlib.Core.Bool.{Bool, false, true}
use mathlib.Core.List.{List, [], ◌∷◌}
use mathlib.Core.Path.{ap, refl, sym, ◌∙◌, ◌≡◌}
use native.Mathlib.Omega.{arith}

was_noted : (b : Bool) (t : ℕ) → 0 < length (noted b t) → b ≡ true
was_noted true t h = refl
was_noted false t h = absurd (omega arith)

-- a tick logged an event of instance i
module _ (i : ℕ) (m : Model) (event : 0 < length (events_of i (tick_log m))) where
  there : Present i m
  there = event_present i m event

  sent_here : is_event (ticked (instance_at m i)).sent ≡ true
  sent_here = was_noted _ (m.tick + 1) (rw (← (events_tick there)) event)

  -- and no other
  pub logged_here : events_of i (tick_log m) ≡ (m.tick + 1) ∷ []
  logged_here = events_tick there ∙ rw sent_here

  -- it is enabled, and its timers are as the event starts them
  pub enabled_after : (instance_at (tick_model m) i).settings.enabled ≡ true
  enabled_after =
      ap (λ x. x.settings.enabled) (ticked_own there)
      ∙ ap (λ s. s.enabled) (settings_kept (instance_at m i))
      ∙ only_enabled (instance_at m i) sent_here

  pub started_after : (instance_at (tick_model m) i).timers ≡ started (rules_of (instance_at (tick_model m) i))
  started_after =
      ap (λ x. x.timers) (ticked_own there)
      ∙ sent_starts (instance_at m i) sent_here
      ∙ ap started (sym (ap rules_of (ticked_own there) ∙ rules_kept (instance_at m i)))

  -- and what happens from then on keeps what the timers keep
  abbrev After : (P : (D R last n : ℕ) → List ℕ → Type 0) → Type 0
  After P = (hs : List Happening) → Undisturbed i (tick_model m) hs
      → P (D (instance_at (tick_model m) i)) (R (instance_at (tick_model m) i)) (tick_model m).tick (ticks_in hs) (events_of i (log_after (tick_model m) hs))

  run_as : (P : (D R last n : ℕ) → List ℕ → Type 0)
      → ((r : Rules) → Reporting r → (cs : List Bool) (last : ℕ) → P (dead_time r) (report_time r) last (length cs) (sendings r (started r) last cs))
      → Reports (instance_at (tick_model m) i) → After P
  run_as P law r hs u =
      let x = instance_at (tick_model m) i in
      let s = seen i (tick_model m) (happen_present m tick there) hs u in
      rw (s.events, ← s.each_tick, started_after)
      (law (rules_of x) (reporting x.kind x.settings enabled_after r.lets r.set) s.causes (tick_model m).tick)

  pub paced_run : Reports (instance_at (tick_model m) i) → After Paced
  paced_run = run_as Paced timers_paced

  -- events so far apart
  pub spaced_run : Reports (instance_at (tick_model m) i) → After (λ D R last n events. Spaced (max D 1) R last events (last + n))
  spaced_run = run_as (λ D R last n events. Spaced (max D 1) R last events (last + n)) timers_spaced

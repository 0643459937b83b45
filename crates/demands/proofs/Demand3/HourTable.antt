-- M-106, demand 3 read off the hour table: the hour's events are events of the window, and the gap that the first of them ended began there too.
-- Assumes nothing.
use Prim.Native.Nat.{ℕ, suc, ◌+◌, ◌/◌, ◌≤◌, max}
use Rattle.demands.proofs.Demand3.AfterEvent.{logged_here, spaced_run}
use Rattle.demands.proofs.Demand3.WindowEvents.{Within, log_cut, more, none, run_within, window_events}
use Rattle.demands.proofs.Shared.EventsInLog.{events_append}
use Rattle.demands.proofs.Shared.OneInstance.{happen_tick, run_ticks}
use Rattle.demands.proofs.Shared.Runs.{calls_log}
use Rattle.demands.specs.Happenings.{Call, bytes_written, log_after, model_after, tick}
use Rattle.demands.specs.Window.{D, R, Window, between, device_after, device_before, events, events_of, last, n}
use Rattle.device.specs.Device.{instance_at}
use Rattle.device.specs.declared.model.Model.{Model}
use Rattle.hours.proofs.Spacing.{Earlier, Later, gap_early, gap_most, hour_least, hour_most}
use Rattle.hours.specs.Table.{before, events_in, gap_in}
use Rattle.record.specs.Log.{Logged, decoded}
use Rattle.sensor.specs.declared.instance.Instance.{Instance}
use Rattle.ticks.specs.Tick.{tick_log}
use Rattle.timers.proofs.Pace.Apart.{Spaced}
use Rattle.timers.specs.Pace.{noted}
use borrow.Author.Tests.{leb-false, lt-leb, le-ltb, ltb-false}
use lib.Dec.{leb, ltb}
use lib.ListN.{length}
use mathlib.Core.Bool.{Bool, and-false, false, true, ◌&&◌}
use mathlib.Core.List.{List, [], ◌++◌, ◌∷◌}
use mathlib.Core.Path.{ap, ap₂, refl, sym, ◌∙◌, ◌≡◌}
use native.Mathlib.Omega.{arith}

-- ---- ticks between two, of those between two others
between_inner : (low high a b : ℕ) (ticks : List ℕ) → low ≤ a → b ≤ high → between a b (between low high ticks) ≡ between a b ticks
unfolding between
between_inner low high a b [] l h = refl
between_inner low high a b (t ∷ ticks) l h = by (ltb low t) refl (leb t high) refl (between_inner low high a b ticks l h)
  where
    outside : ltb a t && leb t b ≡ false → between a b (between low high ticks) ≡ between a b ticks → between a b (between low high ticks) ≡ noted (ltb a t && leb t b) t ++ between a b ticks
    outside e rest = rw e rest

    by : (x : Bool) → ltb low t ≡ x → (y : Bool) → leb t high ≡ y → between a b (between low high ticks) ≡ between a b ticks
        → between a b (noted (x && y) t ++ between low high ticks) ≡ noted (ltb a t && leb t b) t ++ between a b ticks
    by true p true q rest = ap (λ r. noted (ltb a t && leb t b) t ++ r) rest
    by true p false q rest = let g = leb-false t high q in outside (rw (lt-leb t b (omega arith), and-false (ltb a t))) rest
    by false p y q rest = let g = ltb-false low t p in outside (rw (le-ltb a t (omega arith))) rest

-- ---- ticks that lie before, and behind
all_earlier : {low high : ℕ} (bound : ℕ) {ticks : List ℕ} → Within low high ticks → high ≤ bound → Earlier bound ticks
all_earlier bound none h = tt
all_earlier bound (more l u rest) h = (omega arith, all_earlier bound rest h)

all_later : {low high : ℕ} (bound : ℕ) {ticks : List ℕ} → Within low high ticks → bound ≤ low → Later bound ticks
all_later bound none h = tt
all_later bound (more l u rest) h = (omega arith, all_later bound rest h)

module _ {m₀ : Model} {calls : List Call} {i : ℕ} (w : Window m₀ calls i) where
  abbrev x : Instance
  x = instance_at (device_after w.at) i

  abbrev log : List Logged
  log = decoded (bytes_written m₀ calls)

  apart : Spaced (max (D x) 1) (R x) (last w.at) (events w.at i) (last w.at + n w.at)
  apart = rw (window_events w.at i) (spaced_run i _ w.event w.reports w.at.during w.undisturbed)

  module _ (k : ℕ) (starts : last w.at ≤ before k) (ends : before (suc k) ≤ last w.at + n w.at) where
    in_window : events_in i k log ≡ length (between (before k) (before (suc k)) (events w.at i))
    unfolding events_in
    in_window = ap length (sym (between_inner (last w.at) (last w.at + n w.at) (before k) (before (suc k)) (events_of i log) starts ends))

    pub hour_at_least : 72000 / R x ≤ events_in i k log
    hour_at_least = rw in_window (hour_least (max (D x) 1) (R x) (last w.at) (last w.at + n w.at) k (events w.at i) apart (omega arith) starts ends)

    pub hour_at_most : events_in i k log ≤ 71999 / max (D x) 1 + 1
    hour_at_most = rw in_window (hour_most (max (D x) 1) (R x) (last w.at) (last w.at + n w.at) k (events w.at i) apart (omega arith) starts ends)

    -- the events of the log: those before the window's own, that one, those of the window, and those behind it
    abbrev earlier : List ℕ
    earlier = events_of i (log_after m₀ w.at.before)

    abbrev later : List ℕ
    later = events_of i (log_after (model_after (device_after w.at) w.at.during) w.at.later)

    all_events : events_of i log ≡ earlier ++ (last w.at ∷ (events w.at i ++ later))
    all_events =
        let b = device_before w.at in
        let during = log_after (device_after w.at) w.at.during in
        let behind = log_after (model_after (device_after w.at) w.at.during) w.at.later in
        ap (events_of i) (calls_log m₀ calls ∙ log_cut w.at i)
        ∙ events_append i (log_after m₀ w.at.before) (tick_log b ++ (during ++ behind))
        ∙ ap (λ l. earlier ++ l)
        (events_append i (tick_log b) (during ++ behind)
        ∙ ap₂ (λ (h t : List ℕ). h ++ t) (logged_here i b w.event ∙ ap (λ t. t ∷ []) (sym (happen_tick b tick)))
        (events_append i during behind ∙ ap (λ l. l ++ later) (sym (window_events w.at i))))

    pub hour_gap : gap_in i k log ≤ R x
    unfolding gap_in
    hour_gap =
        let b = happen_tick (device_before w.at) tick in
        let t = run_ticks m₀ w.at.before in
        let u = run_ticks (device_after w.at) w.at.during in
        let early = all_earlier (before k) (run_within i m₀ w.at.before) (omega arith) in
        let late = all_later (before (suc k)) (run_within i (model_after (device_after w.at) w.at.during) w.at.later) (omega arith) in
        rw (all_events, gap_early k 0 (last w.at) earlier (events w.at i ++ later) early starts)
        (gap_most (max (D x) 1) (R x) (last w.at) (last w.at + n w.at) k (events w.at i) later apart late)

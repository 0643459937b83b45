-- The laws of a tick, for the crates above: what it does to one instance, and what it keeps.
-- Assumes nothing.
use Prim.Native.Nat.{ℕ, min, ◌*◌, ◌+◌, ◌≤◌}
use Rattle.device.proofs.Laws.{below_known, known_below}
use Rattle.device.specs.Device.{instance_at, known}
use Rattle.device.specs.declared.model.Model.{Model}
use Rattle.record.specs.Log.{bytes_of, event_size}
use Rattle.sensor.specs.Fresh as sensors
use Rattle.sensor.specs.Tick.{ticked}
use Rattle.ticks.proofs.Sweep.{sweep_above, sweep_below, sweep_long, sweep_most}
use Rattle.ticks.specs.Tick.{on_tick, sweep, tick_log, tick_model}
use lib.ListN.{get_or-eq_default, get_or, length, length-take, take}
use mathlib.Core.Bool.{false, true, true≢false}
use mathlib.Core.Path.{refl, sym, ◌≡◌, ◌∙◌}
use native.Mathlib.Decide.{dec_le}
use native.Mathlib.Omega.{arith}

module _ (m : Model) where
  pub tick_tick : (tick_model m).tick ≡ m.tick + 1
  unfolding tick_model
  tick_tick = refl

  pub tick_last : (tick_model m).last ≡ m.last
  unfolding tick_model
  tick_last = refl

  pub tick_dtr0 : (tick_model m).dtr0 ≡ m.dtr0
  unfolding tick_model
  tick_dtr0 = refl

  pub tick_declared : (tick_model m).declared ≡ m.declared
  unfolding tick_model
  tick_declared = refl

  pub tick_running : (tick_model m).running ≡ true
  unfolding tick_model
  tick_running = refl

  pub tick_length : length (tick_model m).instances ≡ length m.instances
  unfolding tick_model
  tick_length = sweep_long on_tick m.declared m.instances

  -- its log takes at most an EV for each declared instance
  pub tick_most : length (bytes_of (tick_log m)) ≤ event_size * min m.declared (length m.instances)
  unfolding tick_log
  tick_most = rw (← length-take m.declared m.instances) (sweep_most _ 0 (take m.declared m.instances))

  pub tick_most_count : length (bytes_of (tick_log m)) ≤ event_size * m.declared
  tick_most_count = omega (arith, tick_most)

  module _ (i : ℕ) (all : length m.instances ≡ 16) where
    -- each declared instance is ticked
    pub tick_instance : known m i ≡ true → instance_at (tick_model m) i ≡ (ticked (instance_at m i)).instance
    unfolding tick_model instance_at
    tick_instance k =
        let p = known_below m i k in
        sweep_below on_tick m.declared i m.instances sensors.blank p.0 (omega arith)

    -- and what is not declared stands
    pub tick_undeclared : known m i ≡ false → instance_at (tick_model m) i ≡ instance_at m i
    unfolding tick_model instance_at
    tick_undeclared none = by (dec_le m.declared i)
      where
        by : Dec (m.declared ≤ i) → get_or (sweep m.declared on_tick m.instances) i sensors.blank ≡ get_or m.instances i sensors.blank
        by (yes h) = sweep_above on_tick m.declared i m.instances sensors.blank h
        by (no h) = past (dec_le 16 i)
          where
            past : Dec (16 ≤ i) → get_or (sweep m.declared on_tick m.instances) i sensors.blank ≡ get_or m.instances i sensors.blank
            past (yes w) =
                let l = sweep_long on_tick m.declared m.instances in
                get_or-eq_default (sweep m.declared on_tick m.instances) sensors.blank (omega arith)
                ∙ sym (get_or-eq_default m.instances sensors.blank (omega arith))
            past (no w) = absurd (true≢false (sym (below_known m i (omega arith) (omega arith)) ∙ none))

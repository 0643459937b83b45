-- One instance of any device at a tick, whether it has sixteen or not.
-- Assumes nothing.
use Prim.Native.Nat.{ℕ, ◌<◌, ◌≤◌}
use Rattle.device.specs.Device.{instance_at}
use Rattle.device.specs.declared.model.Model.{Model}
use Rattle.sensor.specs.Fresh as sensors
use Rattle.sensor.specs.Tick.{ticked}
use Rattle.ticks.proofs.Sweep.{sweep_above, sweep_below}
use Rattle.ticks.specs.Tick.{on_tick, tick_model}
use lib.ListN.{length}
use mathlib.Core.Path.{◌≡◌}

-- one that is declared, and that the device has a place for
pub tick_at : (m : Model) (i : ℕ) → i < m.declared → i < length m.instances → instance_at (tick_model m) i ≡ (ticked (instance_at m i)).instance
unfolding tick_model instance_at
tick_at m i counted listed = sweep_below on_tick m.declared i m.instances sensors.blank counted listed

-- one that is not declared
pub tick_past : (m : Model) (i : ℕ) → m.declared ≤ i → instance_at (tick_model m) i ≡ instance_at m i
unfolding tick_model instance_at
tick_past m i h = sweep_above on_tick m.declared i m.instances sensors.blank h

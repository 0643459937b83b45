-- One instance of any device, whether it has sixteen or not: a sample, a declaration, a frame; and how much a frame logs.
-- Assumes nothing.
use Prim.Native.Nat.{ℕ, ◌<◌, ◌≤◌}
use Rattle.command.proofs.Measured.{act_measured}
use Rattle.command.specs.Answering.{ButLatch}
use Rattle.device.proofs.Laws.{declared_full, declared_next, frame_by, numbered_other}
use Rattle.device.specs.Device.{declared_model, held_model, instance_at}
use Rattle.device.specs.Frame.{acted_at, answer_log, counts, frame_log, frame_model, loads, numbered_log, numbered_model}
use Rattle.device.specs.declared.model.Model.{Model}
use Rattle.record.specs.Log.{answer_size, bytes_of, encoded}
use Rattle.sensor.specs.Fresh as sensors
use Rattle.sensor.specs.Instance.{with_latch}
use Rattle.sensor.specs.Tick.{holding}
use Rattle.sensor.specs.declared.instance.Instance.{Instance}
use Rattle.sensor.specs.declared.sensors.Sensor.{Sensor}
use Rattle.sensor.specs.declared.settings.Sample.{Sample}
use Rattle.std.specs.Prelude.{Option, Some, None}
use lib.ListN.{length}
use lib.Seq.{get_or-set_same, set_out}
use mathlib.Core.Bool.{Bool, cond, false, true}
use mathlib.Core.List.{[]}
use mathlib.Core.Path.{ap, refl, sym, ◌≡◌, ◌∙◌}
use native.Mathlib.Decide.{dec_le, dec_lt, ℕ_discrete}
use native.Mathlib.Omega.{arith}

-- ---- SA, of an instance that the device has a place for
pub held_at : (m : Model) (i : ℕ) (sample : Sample) → i < length m.instances → instance_at (held_model m i sample) i ≡ holding (instance_at m i) sample
unfolding held_model instance_at
held_at m i sample listed = get_or-set_same m.instances i _ sensors.blank listed

-- ---- a declaration: instances are declared, and never less
pub declared_more : (m : Model) (sensor : Sensor) → m.declared ≤ (declared_model m sensor).declared
declared_more m sensor = by (dec_le 16 m.declared)
  where
    by : Dec (16 ≤ m.declared) → m.declared ≤ (declared_model m sensor).declared
    by (yes h) = rw (declared_full m sensor h) (omega arith)
    by (no h) = omega (arith, declared_next m sensor (omega arith))

-- ---- FR: what a frame leaves of an instance, and how much it logs
pub alike : {x y : Instance} → y ≡ x → ButLatch x y
alike {x} e = e ∙ ap (λ z. with_latch z.latch x) (sym e)

-- the instance is as byte 3 leaves it or, where the device has no place for it, as it was
pub numbered_by : (P : Instance → Type 0) (m : Model) (i opcode : ℕ) → P (instance_at m i) → P (acted_at m i opcode).instance → P (instance_at (numbered_model m i opcode) i)
unfolding numbered_model instance_at
numbered_by P m i opcode was acts = go (dec_lt i (length m.instances))
  where
    go : Dec (i < length m.instances) → P (instance_at (numbered_model m i opcode) i)
    go (yes h) = rw (get_or-set_same m.instances i (acted_at m i opcode).instance sensors.blank h) acts
    go (no h) = let out : length m.instances ≤ i = omega arith in rw (set_out m.instances i (acted_at m i opcode).instance out) was

-- M-110: no frame changes whether an instance has had a valid sample
pub frame_measured : (m : Model) (first second third i : ℕ) → (instance_at (frame_model m first second third) i).measured ≡ (instance_at m i).measured
unfolding instance_at
frame_measured m first second third i = frame_by m first second third (λ x. (instance_at x i).measured ≡ (instance_at m i).measured) refl (by (ℕ_discrete i second)) refl refl
  where
    by : Dec (i ≡ second) → (instance_at (numbered_model m second third) i).measured ≡ (instance_at m i).measured
    by (no other) = ap (λ x. x.measured) (numbered_other m second third i other)
    by (yes same) =
        rw (sym same) (numbered_by (λ x. x.measured ≡ (instance_at m i).measured) m i third refl (act_measured (instance_at m i) third m.dtr0))

-- one answer is short
answer_most : (t i : ℕ) (a : Option ℕ) → length (bytes_of (answer_log t i a)) ≤ answer_size
unfolding answer_log bytes_of encoded
answer_most t i None = omega arith
answer_most t i (Some b) = omega arith

pub frame_most : (m : Model) (first second third : ℕ) → length (bytes_of (frame_log m first second third)) ≤ answer_size
unfolding frame_log numbered_log bytes_of
frame_most m first second third = go (loads first second) (counts m first second)
  where
    go : (l c : Bool) → length (bytes_of (cond l [] (cond c (numbered_log m second third) []))) ≤ answer_size
    go true c = omega arith
    go false true = answer_most m.tick second _
    go false false = omega arith

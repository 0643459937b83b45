-- What each happening does to the device and to one instance of it: the laws of the device, over happenings.
-- Assumes nothing.
use Prim.Native.Nat.{ℕ, ◌+◌, ◌≤◌}
use Rattle.command.specs.Answering.{acted, counted_up}
use Rattle.demands.specs.Alone.{Present, asks_colour, loads_dtr0, rises}
use Rattle.demands.specs.Happenings.{Happening, declare, frame, happen, hold, model_after, tick, ticks_in}
use Rattle.demands.specs.Window.{sets_it}
use Rattle.device.proofs.Instances.{declared_more, held_at, numbered_by}
use Rattle.device.proofs.Laws.{declared_dtr0, declared_last, declared_length, declared_other, declared_tick, frame_counted, frame_counts, frame_declared, frame_dtr0, frame_first, frame_ignored, frame_last, frame_length, frame_loads, frame_tick, held_declared, held_length, held_other, numbered_other}
use Rattle.device.specs.Device.{held_model, instance_at}
use Rattle.device.specs.Frame.{again, counts, frame_model, loads, numbered_model, sets}
use Rattle.device.specs.declared.model.Model.{Model}
use Rattle.opcode.proofs.Opcodes.{counts_up_lem}
use Rattle.sensor.proofs.Laws.{both, holding_keeps}
use Rattle.sensor.specs.Tick.{holding, ticked}
use Rattle.sensor.specs.declared.instance.Instance.{Instance}
use Rattle.sensor.specs.declared.sensors.Sensor.{Sensor}
use Rattle.sensor.specs.declared.settings.Sample.{Sample}
use Rattle.ticks.proofs.Laws.{tick_declared, tick_last, tick_length}
use Rattle.ticks.proofs.Ticked.{tick_at}
use Rattle.ticks.specs.Tick.{tick_model}
use borrow.Author.Tests.{eq-eqb, eqb-true}
use lib.Dec.{eqb}
use lib.ListN.{length}
use mathlib.Core.Bool.{Bool, false, false≢true, true, ◌&&◌}
use mathlib.Core.List.{List, [], ◌∷◌}
use mathlib.Core.Path.{ap, refl, subst, sym, ◌∙◌, ◌≡◌}
use native.Mathlib.Decide.{ℕ_discrete}
use native.Mathlib.Nat.{add-zero}
use native.Mathlib.Omega.{arith}

-- ---- any happening
module _ (m : Model) where
  pub happen_tick : (h : Happening) → (happen m h).tick ≡ m.tick + rises h
  unfolding held_model tick_model
  happen_tick (declare sensor) = declared_tick m sensor ∙ sym (add-zero m.tick)
  happen_tick (hold i sample) = sym (add-zero m.tick)
  happen_tick (frame first second third) = frame_tick m first second third ∙ sym (add-zero m.tick)
  happen_tick tick = refl

  pub last_kept : (h : Happening) → (happen m h).last ≡ m.last
  unfolding held_model
  last_kept (declare sensor) = declared_last m sensor
  last_kept (hold i sample) = refl
  last_kept (frame first second third) = frame_last m first second third
  last_kept tick = tick_last m

  pub dtr0_kept : (h : Happening) → loads_dtr0 h ≡ false → asks_colour m h ≡ false → (happen m h).dtr0 ≡ m.dtr0
  unfolding held_model tick_model
  dtr0_kept (declare sensor) e f = declared_dtr0 m sensor
  dtr0_kept (hold i sample) e f = refl
  dtr0_kept (frame first second third) e f = frame_dtr0 m first second third e (rw (counts_up_lem (instance_at m second).kind third) f)
  dtr0_kept tick e f = refl

  -- M-104: the colour query counts it up; no load counts for an instance
  pub counts_loads : (first second : ℕ) → counts m first second ≡ true → loads first second ≡ false
  unfolding counts loads
  counts_loads first second c = go (eqb first 0xC1) refl
    where
      go : (b : Bool) → eqb first 0xC1 ≡ b → b && eqb second 0x30 ≡ false
      go true e = absurd (false≢true (rw (eqb-true first 0xC1 e) at c))
      go false e = refl

  pub dtr0_counted : (first second third : ℕ) → asks_colour m (frame first second third) ≡ true → (frame_model m first second third).dtr0 ≡ counted_up m.dtr0
  dtr0_counted first second third e =
      let p = both (counts m first second) _ e in
      frame_counted m first second third (counts_loads first second p.0) p.0 (rw (counts_up_lem (instance_at m second).kind third) p.1)

  pub happen_length : (h : Happening) → length (happen m h).instances ≡ length m.instances
  happen_length (declare sensor) = declared_length m sensor
  happen_length (hold i sample) = held_length m i sample
  happen_length (frame first second third) = frame_length m first second third
  happen_length tick = tick_length m

  pub happen_count : (h : Happening) → m.declared ≤ (happen m h).declared
  happen_count (declare sensor) = declared_more m sensor
  happen_count (hold i sample) = omega (arith, held_declared m i sample)
  happen_count (frame first second third) = omega (arith, frame_declared m first second third)
  happen_count tick = omega (arith, tick_declared m)

  pub happen_present : {i : ℕ} (h : Happening) → Present i m → Present i (happen m h)
  happen_present h p =
      record { declared = omega (arith, p.declared, happen_count h); listed = omega (arith, p.listed, happen_length h) }

-- a run keeps how many instances the device has
pub run_length : (m : Model) (hs : List Happening) → length (model_after m hs).instances ≡ length m.instances
unfolding model_after
run_length m [] = refl
run_length m (h ∷ hs) = run_length (happen m h) hs ∙ happen_length m h

-- and the last tick that may be reached
pub run_last : (m : Model) (hs : List Happening) → (model_after m hs).last ≡ m.last
unfolding model_after
run_last m [] = refl
run_last m (h ∷ hs) = run_last (happen m h) hs ∙ last_kept m h

-- ---- the tick number
pub ticks_cons : (h : Happening) (hs : List Happening) → ticks_in (h ∷ hs) ≡ rises h + ticks_in hs
unfolding ticks_in
ticks_cons (declare sensor) hs = omega arith
ticks_cons (hold i sample) hs = omega arith
ticks_cons (frame first second third) hs = omega arith
ticks_cons tick hs = omega arith

-- TICKS CARRIED OUT ARE THE RISE OF THE TICK NUMBER
pub run_ticks : (m : Model) (hs : List Happening) → (model_after m hs).tick ≡ m.tick + ticks_in hs
unfolding model_after ticks_in
run_ticks m [] = sym (add-zero m.tick)
run_ticks m (h ∷ hs) = omega (arith, run_ticks (happen m h) hs, happen_tick m h, ticks_cons h hs)

-- ---- SA, of an instance that is there
pub held_own : {i : ℕ} {m : Model} (sample : Sample) → Present i m → instance_at (held_model m i sample) i ≡ holding (instance_at m i) sample
held_own {i} {m} sample p = held_at m i sample p.listed

-- ---- a declaration and a sample leave the sensor of instance i
pub declared_kind : {i : ℕ} {m : Model} (sensor : Sensor) → Present i m → (instance_at (happen m (declare sensor)) i).kind ≡ (instance_at m i).kind
declared_kind {i} {m} sensor p = ap (λ x. x.kind) (declared_other m sensor i (λ e. omega (arith, p.declared)))

pub held_kind : {i : ℕ} {m : Model} (j : ℕ) (sample : Sample) → Present i m → (instance_at (happen m (hold j sample)) i).kind ≡ (instance_at m i).kind
held_kind {i} {m} j sample p = go (ℕ_discrete i j)
  where
    go : Dec (i ≡ j) → (instance_at (held_model m j sample) i).kind ≡ (instance_at m i).kind
    go (yes e) = rw (← e) (ap (λ x. x.kind) (held_own sample p) ∙ (holding_keeps (instance_at m i) sample).1)
    go (no n) = ap (λ x. x.kind) (held_other m j sample i n)

-- ---- FR: what a frame leaves of instance i is as it was or, where it counts for it, as byte 3 leaves it
pub frame_own : (P : Instance → Type 0) (i : ℕ) (m : Model) (first second third : ℕ) → P (instance_at m i)
    → (counts m first second ≡ true → i ≡ second → P (acted (instance_at m i) third m.dtr0).instance)
    → P (instance_at (frame_model m first second third) i)
unfolding instance_at
frame_own P i m first second third was acts = go (loads first second) refl (counts m first second) refl
  where
    by : counts m first second ≡ true → Dec (i ≡ second) → P (instance_at (numbered_model m second third) i)
    by n (no other) = subst P (sym (numbered_other m second third i other)) was
    by n (yes q) = subst (λ j. P (instance_at (numbered_model m j third) i)) q (numbered_by P m i third was (acts n q))

    go : (l : Bool) → loads first second ≡ l → (c : Bool) → counts m first second ≡ c → P (instance_at (frame_model m first second third) i)
    go true l c n = rw (frame_loads m first second third l).0 was
    go false l true n = frame_counts m first second third l n (λ x. P (instance_at x i)) (by n (ℕ_discrete i second)) was
    go false l false n = rw (frame_ignored m first second third l n).0 was

-- M-105: a first half leaves every instance as it was
pub first_half : (m : Model) (first second third : ℕ) → sets m second third ≡ true → again m first second third ≡ false
    → (frame_model m first second third).instances ≡ m.instances
first_half m first second third s r = go (loads first second) refl (counts m first second) refl
  where
    go : (l : Bool) → loads first second ≡ l → (c : Bool) → counts m first second ≡ c → (frame_model m first second third).instances ≡ m.instances
    go true l c n = ap (λ x. x.instances) (frame_loads m first second third l).0
    go false l true n = ap (λ x. x.instances) (frame_first m first second third l n s r)
    go false l false n = ap (λ x. x.instances) (frame_ignored m first second third l n).0

-- a repeat that sets nothing of instance i means no setting command to it, if it counts for it
pub sets_none : (i : ℕ) (m : Model) (first second third : ℕ) → sets_it i m first second third ≡ false → again m first second third ≡ true
    → counts m first second ≡ true → i ≡ second → sets m i third ≡ false
sets_none i m first second third e r n q = rw (n, eq-eqb second i (sym q), r) at e

-- ---- a tick, of an instance that is there
pub ticked_own : {i : ℕ} {m : Model} → Present i m → instance_at (tick_model m) i ≡ (ticked (instance_at m i)).instance
ticked_own {i} {m} p = tick_at m i p.declared p.listed

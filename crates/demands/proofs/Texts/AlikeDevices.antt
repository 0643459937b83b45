-- Two devices that differ in the text alone: a sample, a frame and a tick log the same, and leave such devices.
-- Assumes nothing.
use Prim.Native.Nat.{ℕ, zero, suc, ◌+◌}
use Rattle.command.proofs.Texts.{act_as, act_in_range, meant_as}
use Rattle.command.specs.Answering.{acted, leaving}
use Rattle.demands.specs.Texts.{Alike, AllInRange, model_as_in}
use Rattle.device.proofs.Laws.{frame_by}
use Rattle.device.specs.Device.{allowed, declared_model, fresh, held_model, instance_at, known, under_way, with_declared, with_dtr0, with_instance, with_instances, with_tick}
use Rattle.device.specs.Frame.{again, answer_log, as_repeat, counts, forgetting, frame_log, frame_model, heeded, judged, loads, numbered_log, numbered_model, put_back}
use Rattle.device.specs.declared.judged.Judged.TheVariants.{Acts, Load, Nobody, Sets}
use Rattle.device.specs.declared.judged.Judged.{Judged}
use Rattle.device.specs.declared.model.Model.{Model}
use Rattle.opcode.specs.Meaning.{is_setting, meant}
use Rattle.sensor.proofs.Texts.{declared_in_range, hold_in_range, tick_as, tick_in_range}
use Rattle.sensor.specs.Fresh as sensors
use Rattle.sensor.specs.Kind.{allows}
use Rattle.sensor.specs.Text.{InRange, as_in}
use Rattle.sensor.specs.Tick.{holding}
use Rattle.sensor.specs.declared.instance.Instance.{Instance}
use Rattle.sensor.specs.declared.sensors.Sensor.TheVariants.{Light}
use Rattle.sensor.specs.declared.sensors.Sensor.{Sensor}
use Rattle.sensor.specs.declared.settings.Sample.{Sample}
use Rattle.ticks.specs.Tick.{on_tick, sent_log, sweep, sweep_log, tick_log, tick_model}
use lib.Dec.{ltb}
use lib.ListN.{get_or-map, get_or, replicate, set, take}
use lib.Pow.{pow_pos}
use mathlib.Core.Bool.{Bool, cond, false, false≢true, true}
use mathlib.Core.List.{List, [], map, ◌++◌, ◌∷◌}
use mathlib.Core.Path.{ap, ap₂, refl, sym, ◌∙◌, ◌≡◌}

-- ---- lists of instances
set_as : (xs : List Instance) (i : ℕ) (x : Instance) → set (map as_in xs) i (as_in x) ≡ map as_in (set xs i x)
set_as [] i x = refl
set_as (y ∷ xs) zero x = refl
set_as (y ∷ xs) (suc i) x = ap (λ ys. as_in y ∷ ys) (set_as xs i x)

all_at : (xs : List Instance) (i : ℕ) → AllInRange xs → InRange (get_or xs i sensors.blank)
all_at [] i a = record { shows = pow_pos 0; holds = pow_pos 0 }
all_at (x ∷ xs) zero a = a.0
all_at (x ∷ xs) (suc i) a = all_at xs i a.1

all_set : (xs : List Instance) (i : ℕ) (x : Instance) → AllInRange xs → InRange x → AllInRange (set xs i x)
all_set [] i x a f = tt
all_set (y ∷ xs) zero x a f = (f, a.1)
all_set (y ∷ xs) (suc i) x a f = (a.0, all_set xs i x a.1 f)

all_same : (n : ℕ) (x : Instance) → InRange x → AllInRange (replicate n x)
all_same zero x f = tt
all_same (suc n) x f = (f, all_same n x f)

-- a fresh device
pub fresh_range : AllInRange fresh.instances
unfolding fresh
fresh_range = all_same 16 _ (declared_in_range (Light 1))

-- ---- at a tick
log_as : (t i k : ℕ) (xs : List Instance) → AllInRange xs → sweep_log t i (take k (map as_in xs)) ≡ sweep_log t i (take k xs)
unfolding sweep_log
log_as t i zero xs a = refl
log_as t i (suc k) [] a = refl
log_as t i (suc k) (x ∷ xs) a =
    ap₂ (λ s more. sent_log t i s.sent ++ more) (tick_as x a.0) (log_as t (suc i) k xs a.1)

sweep_as : (k : ℕ) (xs : List Instance) → AllInRange xs → sweep k on_tick (map as_in xs) ≡ map as_in (sweep k on_tick xs)
unfolding sweep
sweep_as zero xs a = refl
sweep_as (suc k) [] a = refl
sweep_as (suc k) (x ∷ xs) a = ap₂ (λ t more. t.instance ∷ more) (tick_as x a.0) (sweep_as k xs a.1)

all_sweep : (k : ℕ) (xs : List Instance) → AllInRange xs → AllInRange (sweep k on_tick xs)
unfolding sweep
all_sweep zero xs a = a
all_sweep (suc k) [] a = tt
all_sweep (suc k) (x ∷ xs) a = (tick_in_range x a.0, all_sweep k xs a.1)

-- ---- ONE DEVICE, and the same as IN declares it
module _ (m : Model) where
  pub at_as : (i : ℕ) → instance_at (model_as_in m) i ≡ as_in (instance_at m i)
  unfolding instance_at
  at_as i = get_or-map as_in m.instances i sensors.blank

  acted_as : (i opcode : ℕ)
      → acted (instance_at (model_as_in m) i) opcode m.dtr0
      ≡ leaving (as_in (acted (instance_at m i) opcode m.dtr0).instance) (acted (instance_at m i) opcode m.dtr0).dtr0 (acted (instance_at m i) opcode m.dtr0).answer
  acted_as i opcode = ap (λ x. acted x opcode m.dtr0) (at_as i) ∙ act_as (instance_at m i) opcode m.dtr0

  frame_log_as : (first second third : ℕ) → frame_log (model_as_in m) first second third ≡ frame_log m first second third
  unfolding frame_log numbered_log counts known
  frame_log_as first second third =
      ap (λ a. cond (loads first second) [] (cond (counts m first second) (answer_log m.tick second a.answer) [])) (acted_as second third)

  judged_as : (first second third : ℕ) → judged (model_as_in m) first second third ≡ judged m first second third
  unfolding judged counts known
  judged_as first second third =
      ap (λ b. cond (loads first second) Load (cond (counts m first second) (cond b (Sets second) (Acts second)) Nobody))
      (ap (λ x. is_setting (meant x.kind third)) (at_as second) ∙ ap is_setting (meant_as (instance_at m second).kind third))

  frame_as : (first second third : ℕ) → frame_model (model_as_in m) first second third ≡ model_as_in (frame_model m first second third)
  unfolding frame_model heeded numbered_model
  frame_as first second third =
      ap (λ j. heeded (model_as_in m) first second third (as_repeat j (again m first second third))) (judged_as first second third)
      ∙ go (as_repeat (judged m first second third) (again m first second third))
    where
      number : (i : ℕ) → numbered_model (model_as_in m) i third ≡ model_as_in (numbered_model m i third)
      number i =
          ap (λ a. under_way (put_back i a (model_as_in m))) (acted_as i third)
          ∙ ap (λ xs. under_way (with_dtr0 (acted (instance_at m i) third m.dtr0).dtr0 (with_instances xs m))) (set_as m.instances i (acted (instance_at m i) third m.dtr0).instance)

      go : (j : Judged) → heeded (model_as_in m) first second third j ≡ model_as_in (heeded m first second third j)
      go Load = refl
      go (Sets i) = refl
      go (Acts i) = ap forgetting (number i)
      go Nobody = refl

  held_as : (i : ℕ) (sample : Sample) → held_model (model_as_in m) i sample ≡ model_as_in (held_model m i sample)
  unfolding held_model holding
  held_as i sample =
      ap (λ x. under_way (with_instance i (holding x sample) (model_as_in m))) (at_as i)
      ∙ ap (λ xs. under_way (with_instances xs m)) (set_as m.instances i (holding (instance_at m i) sample))

  -- as IN declares it, whatever of the two is declared next
  declare_as : (sensor : Sensor)
      → model_as_in (declared_model m sensor)
      ≡ cond (ltb m.declared 16) (with_declared (m.declared + 1) (with_instance m.declared (as_in (sensors.declared sensor)) (model_as_in m))) (model_as_in m)
  unfolding declared_model
  declare_as sensor = go (ltb m.declared 16)
    where
      go : (b : Bool)
          → model_as_in (cond b (with_declared (m.declared + 1) (with_instance m.declared (sensors.declared sensor) m)) m)
          ≡ cond b (with_declared (m.declared + 1) (with_instance m.declared (as_in (sensors.declared sensor)) (model_as_in m))) (model_as_in m)
      go true = ap (λ xs. with_declared (m.declared + 1) (with_instances xs m)) (sym (set_as m.instances m.declared (sensors.declared sensor)))
      go false = refl

  module _ (a : AllInRange m.instances) where
    tick_log_as : tick_log (model_as_in m) ≡ tick_log m
    unfolding tick_log
    tick_log_as = log_as (m.tick + 1) 0 m.declared m.instances a

    ticked_as : tick_model (model_as_in m) ≡ model_as_in (tick_model m)
    unfolding tick_model
    ticked_as = ap (λ xs. under_way (with_tick (m.tick + 1) (with_instances xs m))) (sweep_as m.declared m.instances a)

    frame_range : (first second third : ℕ) → AllInRange (frame_model m first second third).instances
    unfolding numbered_model instance_at
    frame_range first second third =
        frame_by m first second third (λ x. AllInRange x.instances) a
        (all_set m.instances second _ a (act_in_range (instance_at m second) (all_at m.instances second a) third m.dtr0)) a a

    held_range : (i : ℕ) (sample : Sample) → allowed m i sample ≡ true → AllInRange (held_model m i sample).instances
    unfolding held_model instance_at allowed
    held_range i sample e = all_set m.instances i _ a (hold_in_range (instance_at m i) sample (all_at m.instances i a) (go (ltb i 16) e))
      where
        go : (b : Bool) → cond b (allows (instance_at m i).kind sample) false ≡ true → allows (instance_at m i).kind sample ≡ true
        go true t = t
        go false t = absurd (false≢true t)

    tick_range : AllInRange (tick_model m).instances
    unfolding tick_model
    tick_range = all_sweep m.declared m.instances a

    declare_range : (sensor : Sensor) → AllInRange (declared_model m sensor).instances
    unfolding declared_model
    declare_range sensor = go (ltb m.declared 16)
      where
        go : (b : Bool) → AllInRange (cond b (with_declared (m.declared + 1) (with_instance m.declared (sensors.declared sensor) m)) m).instances
        go true = all_set m.instances m.declared (sensors.declared sensor) a (declared_in_range sensor)
        go false = a

-- ---- TWO DEVICES
module _ {m m' : Model} (a : Alike m m') where
  pub same_frame_log : (first second third : ℕ) → frame_log m first second third ≡ frame_log m' first second third
  same_frame_log first second third =
      sym (frame_log_as m first second third) ∙ ap (λ k. frame_log k first second third) a.same ∙ frame_log_as m' first second third

  pub same_tick_log : tick_log m ≡ tick_log m'
  same_tick_log = sym (tick_log_as m a.range) ∙ ap tick_log a.same ∙ tick_log_as m' a.range'

  pub alike_frame : (first second third : ℕ) → Alike (frame_model m first second third) (frame_model m' first second third)
  alike_frame first second third =
      record {
        same = sym (frame_as m first second third) ∙ ap (λ k. frame_model k first second third) a.same ∙ frame_as m' first second third;
        range = frame_range m a.range first second third;
        range' = frame_range m' a.range' first second third;
      }

  pub alike_tick : Alike (tick_model m) (tick_model m')
  alike_tick =
      record {
        same = sym (ticked_as m a.range) ∙ ap tick_model a.same ∙ ticked_as m' a.range';
        range = tick_range m a.range;
        range' = tick_range m' a.range';
      }

  pub alike_held : (i : ℕ) (sample : Sample) → allowed m i sample ≡ true → allowed m' i sample ≡ true → Alike (held_model m i sample) (held_model m' i sample)
  alike_held i sample e e' =
      record {
        same = sym (held_as m i sample) ∙ ap (λ k. held_model k i sample) a.same ∙ held_as m' i sample;
        range = held_range m a.range i sample e;
        range' = held_range m' a.range' i sample e';
      }

  pub alike_declared : (s s' : Sensor) → as_in (sensors.declared s) ≡ as_in (sensors.declared s') → Alike (declared_model m s) (declared_model m' s')
  alike_declared s s' e =
      record {
        same =
            declare_as m s
            ∙ ap₂ (λ k x. cond (ltb k.declared 16) (with_declared (k.declared + 1) (with_instance k.declared x k)) k) a.same e
            ∙ sym (declare_as m' s');
        range = declare_range m a.range s;
        range' = declare_range m' a.range' s';
      }

-- The laws of the device, for the crates above: what each change does to one instance, and what it keeps.
-- Assumes nothing.
use Prim.Native.Nat.{ℕ, min, ◌+◌, ◌<◌, ◌≤◌}
use Rattle.command.proofs.Laws.{dtr0_counted, dtr0_left, setting_silent}
use Rattle.command.specs.Answering.{counted_up}
use Rattle.device.specs.Device.{Offered, came, under_way, declared_instances, declared_model, fresh, held_model, instance_at, instance_of, known, offered, with_declared, with_dtr0, with_instance}
use Rattle.device.specs.Frame.{acted_at, again, answer_log, as_repeat, counts, forgetting, frame_log, frame_model, heeded, judged, loads, numbered_log, numbered_model, remembering, sets}
use Rattle.device.specs.declared.judged.Judged.TheVariants.{Acts, Load, Nobody, Sets}
use Rattle.device.specs.declared.judged.Judged.{Judged}
use Rattle.device.specs.declared.model.Full.{Full}
use Rattle.device.specs.declared.model.Model.{Model}
use Rattle.opcode.proofs.Opcodes.{up_sets_nothing}
use Rattle.opcode.specs.Meaning.{counts_up, meant}
use Rattle.record.specs.Log.{Logged, bytes_of}
use Rattle.sensor.proofs.Laws.{both}
use Rattle.sensor.specs.Fresh as sensors
use Rattle.sensor.specs.Tick.{holding}
use Rattle.sensor.specs.declared.instance.Instance.{Instance}
use Rattle.sensor.specs.declared.sensors.Sensor.{Sensor}
use Rattle.sensor.specs.declared.settings.Sample.{Sample}
use borrow.Author.Tests.{le-leb, le-ltb, lt-leb, lt-ltb, ltb-true}
use lib.Dec.{eqb, ltb}
use Rattle.std.proofs.lemmas.List.{get_or-take}
use Rattle.std.proofs.lemmas.Option.{slice_get_past, slice_get_read, slice_get-get_or}
use Rattle.std.specs.Prelude.{Err, None, Ok, Option, Result, Some, option_copied, slice_get}
use Rattle.std.specs.Slice.{IsItemAt}
use denote.Ref.{Bor}
use lib.ListN.{get_or, length, length-map, length-set, length-take, take}
use lib.Seq.{get_or-set_other, get_or-set_same}
use mathlib.Core.Bool.{Bool, cond, false, true, true≢false, ◌&&◌, ◌||◌}
use mathlib.Core.List.{List, [], map}
use mathlib.Core.Logic.{◌≢◌}
use mathlib.Core.Path.{ap, refl, sym, ◌≡◌, ◌∙◌}
use native.Mathlib.Decide.{dec_lt}
use native.Mathlib.Omega.{arith}

-- ---- what logs
module _ (m after : Model) (log : List Logged) (room : ℕ) where
  -- is taken whole
  pub offered_fits : length (bytes_of log) ≤ room
      → offered m after log room ≡ record { model = after; written = length (bytes_of log); fits = true }
  unfolding offered
  offered_fits h = rw (le-leb (length (bytes_of log)) room h)

  -- or not at all
  pub offered_full : room < length (bytes_of log) → offered m after log room ≡ record { model = m; written = 0; fits = false }
  unfolding offered
  offered_full h = rw (lt-leb (length (bytes_of log)) room h)

-- what came of a change says what the device is after it, and what is handed back
pub came_once : (m m' : Model) (r r' : Result ℕ Full) → came m r ≡ came m' r' → (m ≡ m') × (r ≡ r')
came_once m m' (Ok n) (Ok n') e = (ap (λ (o : Offered). o.model) e, ap (λ (o : Offered). Ok o.written) e)
came_once m m' (Ok n) (Err full) e = absurd (true≢false (ap (λ (o : Offered). o.fits) e))
came_once m m' (Err full) (Ok n) e = absurd (true≢false (sym (ap (λ (o : Offered). o.fits) e)))
came_once m m' (Err full) (Err full') e = (ap (λ (o : Offered). o.model) e, refl)

-- ---- who is declared
pub known_below : (m : Model) (i : ℕ) → known m i ≡ true → (i < m.declared) × (i < 16)
unfolding known
known_below m i h =
    let p = both (ltb i m.declared) (ltb i 16) h in
    (ltb-true i m.declared p.0, ltb-true i 16 p.1)

pub below_known : (m : Model) (i : ℕ) → i < m.declared → i < 16 → known m i ≡ true
unfolding known
below_known m i h w = rw (lt-ltb i m.declared h, lt-ltb i 16 w)

-- who is declared goes by how many are
pub known_kept : (m m' : Model) (i : ℕ) → m'.declared ≡ m.declared → known m' i ≡ known m i
unfolding known
known_kept m m' i e = rw e

-- `search (rules, long)` finds that an array of structs has its length
pub long : (X Y : Type 0) (f : X → Y) (l : List X) (n : ℕ) → length (map f l) ≡ n → length l ≡ n
long X Y f l n e = sym (length-map l f) ∙ e

-- what `get` lends is what stands there
pub copied : {X : Type 0} (xs : List X) (i : ℕ) (r : Option (Bor X)) → IsItemAt xs i r → option_copied r ≡ slice_get xs i
copied xs i None got = sym (slice_get_past xs i got.3)
copied xs i (Some x) got = sym (slice_get_read xs (length xs) i x.now refl got.3.0 got.1)

-- who is declared, by number
instance_listed_lem : (m : Model) (i : ℕ) → length m.instances ≡ 16 → slice_get (take m.declared m.instances) i ≡ instance_of m i
unfolding instance_of known instance_at
instance_listed_lem m i all = go (dec_lt i m.declared) (dec_lt i 16)
  where
    long : length (take m.declared m.instances) ≡ min m.declared (length m.instances)
    long = length-take m.declared m.instances

    go : Dec (i < m.declared) → Dec (i < 16)
        → slice_get (take m.declared m.instances) i ≡ cond (ltb i m.declared && ltb i 16) (Some (get_or m.instances i sensors.blank)) None
    go (yes h) (yes w) =
        rw (lt-ltb i m.declared h, lt-ltb i 16 w)
        (slice_get-get_or (take m.declared m.instances) i sensors.blank (omega (arith, long)) ∙ ap Some (get_or-take m.declared m.instances i sensors.blank h))
    go (yes h) (no w) = rw (lt-ltb i m.declared h, le-ltb i 16 (omega arith)) (slice_get_past (take m.declared m.instances) i (omega (arith, long)))
    go (no h) w = rw (le-ltb i m.declared (omega arith)) (slice_get_past (take m.declared m.instances) i (omega (arith, long)))

pub instance_listed : (m : Model) (i : ℕ) → length m.instances ≡ 16 → slice_get (declared_instances m) i ≡ instance_of m i
unfolding declared_instances
instance_listed m i all = instance_listed_lem m i all

module _ (m : Model) (i : ℕ) where
  pub instance_some : {x : Instance} → Some x ≡ instance_of m i → (known m i ≡ true) × (x ≡ instance_at m i)
  unfolding instance_of
  instance_some {x} e = go (known m i) refl e
    where
      go : (k : Bool) → known m i ≡ k → ◌≡◌ {A = Option Instance} (Some x) (cond k (Some (instance_at m i)) None) → (known m i ≡ true) × (x ≡ instance_at m i)
      go true k p = (k, cc)
      go false k p = absurd cc

  pub instance_none : None ≡ instance_of m i → known m i ≡ false
  unfolding instance_of
  instance_none e = go (known m i) refl e
    where
      go : (k : Bool) → known m i ≡ k → ◌≡◌ {A = Option Instance} None (cond k (Some (instance_at m i)) None) → known m i ≡ false
      go true k p = absurd cc
      go false k p = k

pub fresh_length : length fresh.instances ≡ 16
unfolding fresh
fresh_length = refl

-- ---- a declaration
-- the model with the next instance
abbrev enlarged : Model → Sensor → Model
enlarged m sensor = with_declared (m.declared + 1) (with_instance m.declared (sensors.declared sensor) m)

module _ (m : Model) (sensor : Sensor) where
  declared_by_lem : (P : Model → Type 0) → P (enlarged m sensor) → P m → P (declared_model m sensor)
  unfolding declared_model
  declared_by_lem P next full = go (ltb m.declared 16)
    where
      go : (b : Bool) → P (cond b (enlarged m sensor) m)
      go true = next
      go false = full

  pub declared_tick : (declared_model m sensor).tick ≡ m.tick
  declared_tick = declared_by_lem (λ (x : Model). x.tick ≡ m.tick) refl refl

  pub declared_last : (declared_model m sensor).last ≡ m.last
  declared_last = declared_by_lem (λ (x : Model). x.last ≡ m.last) refl refl

  pub declared_dtr0 : (declared_model m sensor).dtr0 ≡ m.dtr0
  declared_dtr0 = declared_by_lem (λ (x : Model). x.dtr0 ≡ m.dtr0) refl refl

  pub declared_next : m.declared < 16 → (declared_model m sensor).declared ≡ m.declared + 1
  unfolding declared_model
  declared_next h = rw (lt-ltb m.declared 16 h)

  pub declared_running : (declared_model m sensor).running ≡ m.running
  declared_running = declared_by_lem (λ (x : Model). x.running ≡ m.running) refl refl

  pub declared_remembered : (declared_model m sensor).remembered ≡ m.remembered
  declared_remembered = declared_by_lem (λ (x : Model). x.remembered ≡ m.remembered) refl refl

  pub declared_length : length (declared_model m sensor).instances ≡ length m.instances
  declared_length =
      declared_by_lem (λ (x : Model). length x.instances ≡ length m.instances)
      (length-set m.instances m.declared (sensors.declared sensor)) refl

  -- there is no seventeenth
  pub declared_full : 16 ≤ m.declared → declared_model m sensor ≡ m
  unfolding declared_model
  declared_full h = rw (le-ltb m.declared 16 h)

  -- the next instance is of that type
  pub declared_here : length m.instances ≡ 16 → m.declared < 16
      → instance_at (declared_model m sensor) m.declared ≡ sensors.declared sensor
  unfolding declared_model instance_at
  declared_here all h =
      let w : m.declared < length m.instances = omega arith in
      rw (lt-ltb m.declared 16 h) (get_or-set_same m.instances m.declared (sensors.declared sensor) sensors.blank w)

  -- and every other is as it was
  pub declared_other : (j : ℕ) → j ≢ m.declared → instance_at (declared_model m sensor) j ≡ instance_at m j
  unfolding instance_at
  declared_other j ne =
      declared_by_lem (λ (x : Model). get_or x.instances j sensors.blank ≡ get_or m.instances j sensors.blank)
      (get_or-set_other m.instances m.declared j (sensors.declared sensor) sensors.blank ne) refl

-- ---- SA
module _ (m : Model) (i : ℕ) (sample : Sample) where
  pub held_tick : (held_model m i sample).tick ≡ m.tick
  unfolding held_model
  held_tick = refl

  pub held_dtr0 : (held_model m i sample).dtr0 ≡ m.dtr0
  unfolding held_model
  held_dtr0 = refl

  -- M-105: a sample is no frame
  pub held_remembered : (held_model m i sample).remembered ≡ m.remembered
  unfolding held_model
  held_remembered = refl

  pub held_declared : (held_model m i sample).declared ≡ m.declared
  unfolding held_model
  held_declared = refl

  pub held_running : (held_model m i sample).running ≡ true
  unfolding held_model
  held_running = refl

  pub held_length : length (held_model m i sample).instances ≡ length m.instances
  unfolding held_model
  held_length = length-set m.instances i (holding (instance_at m i) sample)

  -- the instance holds the sample
  pub held_here : length m.instances ≡ 16 → known m i ≡ true
      → instance_at (held_model m i sample) i ≡ holding (instance_at m i) sample
  unfolding held_model instance_at
  held_here all k =
      let w : i < length m.instances = omega (arith, known_below m i k) in
      get_or-set_same m.instances i _ sensors.blank w

  -- and every other is as it was
  pub held_other : (j : ℕ) → j ≢ i → instance_at (held_model m i sample) j ≡ instance_at m j
  unfolding held_model instance_at
  held_other j ne = get_or-set_other m.instances i j _ sensors.blank ne

-- ---- a frame that counts for instance i
module _ (m : Model) (i opcode : ℕ) where
  pub numbered_tick : (numbered_model m i opcode).tick ≡ m.tick
  unfolding numbered_model
  numbered_tick = refl

  pub numbered_dtr0 : (numbered_model m i opcode).dtr0 ≡ (acted_at m i opcode).dtr0
  unfolding numbered_model
  numbered_dtr0 = refl

  pub numbered_declared : (numbered_model m i opcode).declared ≡ m.declared
  unfolding numbered_model
  numbered_declared = refl

  pub numbered_running : (numbered_model m i opcode).running ≡ true
  unfolding numbered_model
  numbered_running = refl

  pub numbered_length : length (numbered_model m i opcode).instances ≡ length m.instances
  unfolding numbered_model
  numbered_length = length-set m.instances i (acted_at m i opcode).instance

  -- the instance is as byte 3 leaves it
  pub numbered_here : length m.instances ≡ 16 → known m i ≡ true
      → instance_at (numbered_model m i opcode) i ≡ (acted_at m i opcode).instance
  unfolding numbered_model instance_at
  numbered_here all k =
      let w : i < length m.instances = omega (arith, known_below m i k) in
      get_or-set_same m.instances i _ sensors.blank w

  -- and every other is as it was
  pub numbered_other : (j : ℕ) → j ≢ i → instance_at (numbered_model m i opcode) j ≡ instance_at m j
  unfolding numbered_model instance_at
  numbered_other j ne = get_or-set_other m.instances i j _ sensors.blank ne

-- a frame that counts, counts for a declared instance
pub counts_known : (m : Model) (first second : ℕ) → counts m first second ≡ true → known m second ≡ true
unfolding counts
counts_known m first second k = (both (eqb first 0x01 || eqb first 0xFF) (known m second) k).1

-- ---- FR: how a frame is judged, and what it leaves
-- a setting command answers nothing
pub numbered_silent : (m : Model) (i opcode : ℕ) → sets m i opcode ≡ true → numbered_log m i opcode ≡ []
unfolding numbered_log answer_log
numbered_silent m i opcode s = ap (λ a. answer_log m.tick i a) (setting_silent (instance_at m i) opcode m.dtr0 s)

module _ (m : Model) (first second third : ℕ) where
  -- the four ways of a frame, and when it goes them
  pub judged_by : (P : Judged → Type 0)
      → (loads first second ≡ true → P Load)
      → (loads first second ≡ false → counts m first second ≡ true → sets m second third ≡ true → P (Sets second))
      → (loads first second ≡ false → counts m first second ≡ true → sets m second third ≡ false → P (Acts second))
      → (loads first second ≡ false → counts m first second ≡ false → P Nobody)
      → P (judged m first second third)
  unfolding judged
  judged_by P load set act nobody = go (loads first second) refl (counts m first second) refl (sets m second third) refl
    where
      go : (l : Bool) → loads first second ≡ l → (k : Bool) → counts m first second ≡ k → (s : Bool) → sets m second third ≡ s
          → P (cond l Load (cond k (cond s (Sets second) (Acts second)) Nobody))
      go true l k c s e = load l
      go false l true c true e = set l c e
      go false l true c false e = act l c e
      go false l false c s e = nobody l c

  -- what it leaves of the device
  pub frame_by : (P : Model → Type 0)
      → P (forgetting (under_way (with_dtr0 third m))) → P (forgetting (numbered_model m second third))
      → P (remembering first second third (under_way m)) → P (forgetting (under_way m))
      → P (frame_model m first second third)
  unfolding frame_model heeded as_repeat
  frame_by P load acts waits ignore =
      judged_by (λ j. P (heeded m first second third (as_repeat j (again m first second third)))) (λ l. load) (λ l c s. go (again m first second third)) (λ l c s. acts) (λ l c. ignore)
    where
      go : (r : Bool) → P (heeded m first second third (cond r (Acts second) (Sets second)))
      go true = acts
      go false = waits

  -- judged so, it leaves this
  heeded_as : {j : Judged} → judged m first second third ≡ j → frame_model m first second third ≡ heeded m first second third (as_repeat j (again m first second third))
  unfolding frame_model
  heeded_as e = ap (λ j. heeded m first second third (as_repeat j (again m first second third))) e

  pub frame_loads : loads first second ≡ true
      → (frame_model m first second third ≡ forgetting (under_way (with_dtr0 third m))) × (frame_log m first second third ≡ [])
  unfolding frame_log judged heeded as_repeat
  frame_loads l = (heeded_as {j = Load} (rw l), rw l)

  pub frame_ignored : loads first second ≡ false → counts m first second ≡ false
      → (frame_model m first second third ≡ forgetting (under_way m)) × (frame_log m first second third ≡ [])
  unfolding frame_log judged heeded as_repeat
  frame_ignored l k = (heeded_as {j = Nobody} (rw (l, k)), rw (l, k))

  module _ (l : loads first second ≡ false) (k : counts m first second ≡ true) where
    pub frame_answers : frame_log m first second third ≡ numbered_log m second third
    unfolding frame_log
    frame_answers = rw (l, k)

    -- what is no setting command acts at once
    pub frame_acts : sets m second third ≡ false → frame_model m first second third ≡ forgetting (numbered_model m second third)
    unfolding judged heeded as_repeat
    frame_acts s = heeded_as {j = Acts second} (rw (l, k, s))

    -- M-105: a setting command acts at its repeat, and is remembered before
    frame_sets : sets m second third ≡ true → {again' : Bool} → again m first second third ≡ again'
        → frame_model m first second third ≡ heeded m first second third (cond again' (Acts second) (Sets second))
    unfolding judged as_repeat
    frame_sets s r = heeded_as {j = Sets second} (rw (l, k, s)) ∙ ap (λ b. heeded m first second third (cond b (Acts second) (Sets second))) r

    pub frame_repeats : sets m second third ≡ true → again m first second third ≡ true
        → frame_model m first second third ≡ forgetting (numbered_model m second third)
    unfolding heeded
    frame_repeats s r = frame_sets s r

    pub frame_first : sets m second third ≡ true → again m first second third ≡ false
        → frame_model m first second third ≡ remembering first second third (under_way m)
    unfolding heeded
    frame_first s r = frame_sets s r

    -- so what counts is as byte 3 leaves it, or only remembered
    pub frame_counts : (P : Model → Type 0) → P (forgetting (numbered_model m second third)) → P (remembering first second third (under_way m))
        → P (frame_model m first second third)
    frame_counts P acts waits = go (sets m second third) refl (again m first second third) refl
      where
        go : (s : Bool) → sets m second third ≡ s → (r : Bool) → again m first second third ≡ r → P (frame_model m first second third)
        go true s true r = rw (frame_repeats s r) acts
        go true s false r = rw (frame_first s r) waits
        go false s b r = rw (frame_acts s) acts

  -- it loads DTR0, which all instances share, whoever is declared
  pub frame_loaded : loads first second ≡ true → (frame_model m first second third).dtr0 ≡ third
  frame_loaded l = ap (λ (x : Model). x.dtr0) (frame_loads l).0

  pub frame_tick : (frame_model m first second third).tick ≡ m.tick
  frame_tick = frame_by (λ (x : Model). x.tick ≡ m.tick) refl (numbered_tick m second third) refl refl

  pub frame_last : (frame_model m first second third).last ≡ m.last
  unfolding numbered_model
  frame_last = frame_by (λ (x : Model). x.last ≡ m.last) refl refl refl refl

  -- DTR0 is changed by C1 30 d, its load, and where a frame counts by what byte 3 leaves, which is another for the colour query alone (M-104)
  pub frame_dtr0 : loads first second ≡ false → counts m first second && counts_up (meant (instance_at m second).kind third) ≡ false
      → (frame_model m first second third).dtr0 ≡ m.dtr0
  frame_dtr0 l none = go (counts m first second) refl none
    where
      go : (k : Bool) → counts m first second ≡ k → k && counts_up (meant (instance_at m second).kind third) ≡ false
          → (frame_model m first second third).dtr0 ≡ m.dtr0
      go true c e =
          frame_counts l c (λ (x : Model). x.dtr0 ≡ m.dtr0)
          (numbered_dtr0 m second third ∙ dtr0_left (instance_at m second) third m.dtr0 e) refl
      go false c e = ap (λ (x : Model). x.dtr0) (frame_ignored l c).0

  -- which counts it up
  pub frame_counted : loads first second ≡ false → counts m first second ≡ true → counts_up (meant (instance_at m second).kind third) ≡ true
      → (frame_model m first second third).dtr0 ≡ counted_up m.dtr0
  frame_counted l c e =
      rw (frame_acts l c (up_sets_nothing (meant (instance_at m second).kind third) e))
      (numbered_dtr0 m second third ∙ dtr0_counted (instance_at m second) third m.dtr0 e)

  pub frame_declared : (frame_model m first second third).declared ≡ m.declared
  frame_declared = frame_by (λ (x : Model). x.declared ≡ m.declared) refl (numbered_declared m second third) refl refl

  pub frame_running : (frame_model m first second third).running ≡ true
  frame_running = frame_by (λ (x : Model). x.running ≡ true) refl (numbered_running m second third) refl refl

  pub frame_length : length (frame_model m first second third).instances ≡ length m.instances
  frame_length = frame_by (λ (x : Model). length x.instances ≡ length m.instances) refl (numbered_length m second third) refl refl

  -- no frame changes an instance but the one that byte 2 names
  pub frame_other : (j : ℕ) → j ≢ second → instance_at (frame_model m first second third) j ≡ instance_at m j
  unfolding instance_at
  frame_other j ne =
      frame_by (λ (x : Model). get_or x.instances j sensors.blank ≡ get_or m.instances j sensors.blank) refl (numbered_other m second third j ne) refl refl

-- DEMAND 2: "Values, answers, triggers, events and priorities are those of IEC 62386-303 and -304 as document 01 fixes them, tick for tick. A
-- command numbered to one instance changes no variable or timer of another." M-104: "Demand 2 holds for type 5 with document 003 as the source."
-- The values are the definitions that the functions' promises cite, in specs/ of sensor, opcode, command, device, ticks, judging and session,
-- each with its section of document 01. Here: that a session is those definitions one after another, that a record which nothing refuses is
-- taken, what each of them leaves alone, and which models are shut out.
-- Assumes nothing.
mod FourKinds
mod FullSessionRead
mod RecordTaken
use Prim.Native.Nat.{ℕ, ◌%◌, ◌+◌, ◌≤◌}
use Rattle.command.proofs.Laws.{acts_so, calm_keeps, changes_nothing, control_changes}
use Rattle.command.proofs.Measured.{act_unread}
use Rattle.command.specs.Answering.{ButLatch, acted, counted_up, leaving}
use Rattle.command.specs.Controlling.{ButControl}
use Rattle.demands.proofs.Demand2.FourKinds.{front_known}
use Rattle.demands.proofs.Demand2.FullSessionRead.{whole}
use Rattle.demands.proofs.Demand2.RecordTaken.{taken_behind}
use Rattle.demands.proofs.Shared.EventsInLog.{events_tick}
use Rattle.demands.proofs.Shared.FullSession.{full, full_log, numbers}
use Rattle.demands.proofs.Shared.OneInstance.{counts_loads, dtr0_counted, dtr0_kept, frame_own, happen_tick, ticked_own}
use Rattle.demands.proofs.Shared.Runs.{session_log, session_model}
use Rattle.demands.specs.Alone.{Present, asks_colour, loads_dtr0, rises}
use Rattle.demands.specs.Happenings.{Happening, carried, frame, happen, log_after, model_after}
use Rattle.demands.specs.Numbers.{Front, NoneGiven}
use Rattle.demands.specs.Stands.{room_after}
use Rattle.demands.specs.Window.{events_of}
use Rattle.device.proofs.Instances.{alike}
use Rattle.device.proofs.Laws.{declared_other, frame_answers, frame_first, frame_ignored, frame_loads, frame_other, held_other, numbered_silent}
use Rattle.device.specs.Device.{declared_model, fresh, held_model, instance_at, under_way, with_dtr0}
use Rattle.device.specs.Frame.{again, counts, forgetting, frame_log, frame_model, loads, remembering, sets}
use Rattle.device.specs.declared.model.Model.{Model}
use Rattle.opcode.specs.Meaning.{is_control, is_setting, meant}
use Rattle.opcode.specs.declared.Control.{Control}
use Rattle.opcode.specs.declared.Meaning.TheVariants.{Act}
use Rattle.record.specs.Log.{AN, AllBytes, EV, bytes_of}
use Rattle.sensor.proofs.Measured.{tick_unread}
use Rattle.sensor.specs.Instance.{with_measured}
use Rattle.sensor.specs.Tick.{is_event, ticked}
use Rattle.sensor.specs.declared.instance.Instance.{Instance}
use Rattle.sensor.specs.declared.sensors.Sensor.{Sensor}
use Rattle.sensor.specs.declared.settings.Sample.{Sample}
use Rattle.session.specs.Session.{End, session, for_c}
use Rattle.ticks.proofs.Ticked.{tick_past}
use Rattle.ticks.specs.Tick.{tick_log, tick_model}
use Rattle.timers.specs.Pace.{noted}
use lib.ListN.{length, take}
use mathlib.Core.Bool.{Bool, false, true}
use mathlib.Core.List.{List, [], ◌++◌, ◌∷◌}
use mathlib.Core.Logic.{◌≢◌}
use mathlib.Core.Path.{refl, ◌∙◌, ◌≡◌}

-- "tick for tick": model and log of a session are those of the declarations, samples, frames and ticks that it carried out, one after
-- another; a TK of n ticks is n ticks, each of every declared instance
pub tick_for_tick : (m : Model) (xs : List ℕ) (room : ℕ)
    → ((session m xs room).model ≡ model_after m (carried m xs room)) × ((session m xs room).log ≡ log_after m (carried m xs room))
tick_for_tick m xs room = (session_model m xs room, session_log m xs room)

-- a record that no row of the table of numbers refuses is one of the four kinds of "Session and log records": `Front` says by its bytes which,
-- of what size, and what it tells of
pub kind_there : (zs : List ℕ) (m : Model) → AllBytes zs → NoneGiven zs m → (size : ℕ) × (hs : List Happening) × Front zs size hs
kind_there = front_known

-- "0: all records taken": where a session stands, in r, it is taken if what it logs fits in the output that is left, and model and log go on by
-- what it tells of. (What is behind it is read from there: `Pieces`. Of a record that a row refuses: `number_there`, demand 1)
module _ (m : Model) (ys zs : List ℕ) (room : ℕ) where
  abbrev r : End
  r = session m ys room

  pub taken_there : r.number ≡ 0 → AllBytes zs → NoneGiven zs r.model
      → (size : ℕ) (hs : List Happening) → Front zs size hs → length (bytes_of (log_after r.model hs)) ≤ room_after room r
      → session m (ys ++ take size zs) room
      ≡ record { model = model_after r.model hs; number = 0; offset = length ys + size; ticks = 0; log = r.log ++ log_after r.model hs }
  taken_there = taken_behind m ys zs room

module _ (m : Model) where
  -- "A command numbered to one instance changes no variable or timer of another": whatever the frame, every instance but the one that its
  -- byte 2 numbers is as it was, its latch too and, of a movement sensor, its hold timer and catching (M-100)
  pub frame_keeps_others : (first second third j : ℕ) → j ≢ second → instance_at (frame_model m first second third) j ≡ instance_at m j
  frame_keeps_others = frame_other m

  -- so it is with a sample, and with a declaration
  pub sample_keeps_others : (i : ℕ) (sample : Sample) (j : ℕ) → j ≢ i → instance_at (held_model m i sample) j ≡ instance_at m j
  sample_keeps_others = held_other m

  pub declaration_keeps_others : (sensor : Sensor) (j : ℕ) → j ≢ m.declared → instance_at (declared_model m sensor) j ≡ instance_at m j
  declaration_keeps_others = declared_other m

  -- "C1 30 d loads DTR0": and changes nothing else, but that declarations are over, and that no frame is remembered
  pub load_alone : (d : ℕ) → frame_model m 0xC1 0x30 d ≡ forgetting (under_way (with_dtr0 d m))
  unfolding loads
  load_alone d = (frame_loads m 0xC1 0x30 d refl).0

  -- "anything else is ignored: taken, no change, no answer": a frame that neither loads DTR0 nor counts, but that no frame is remembered
  pub ignored_alone : (first second third : ℕ) → loads first second ≡ false → counts m first second ≡ false
      → (frame_model m first second third ≡ forgetting (under_way m)) × (frame_log m first second third ≡ [])
  ignored_alone first second third l c = frame_ignored m first second third l c

  -- M-105: "The first of a pair changes nothing but is remembered": a setting command that is no repeat changes no variable and no timer of any
  -- instance, DTR0 neither, and is not answered
  pub first_alone : (first second third : ℕ) → counts m first second ≡ true → sets m second third ≡ true → again m first second third ≡ false
      → (frame_model m first second third ≡ remembering first second third (under_way m)) × (frame_log m first second third ≡ [])
  first_alone first second third c s r =
      let l = counts_loads m first second c in
      (frame_first m first second third l c s r, frame_answers m first second third l c ∙ numbered_silent m second third s)

  -- a frame that means neither a setting command nor a control instruction to its instance (a query, or no opcode of its type) changes at most its
  -- latch
  pub query_alone : (first second third : ℕ) → is_setting (meant (instance_at m second).kind third) ≡ false
      → is_control (meant (instance_at m second).kind third) ≡ false
      → ButLatch (instance_at m second) (instance_at (frame_model m first second third) second)
  query_alone first second third e f =
      frame_own (ButLatch (instance_at m second)) second m first second third (alike refl) (λ n q. calm_keeps (instance_at m second) third m.dtr0 e f)

  -- M-100: a control instruction, catch or cancel, changes at most catching and the hold timer of a movement sensor
  pub control_alone : (first second third : ℕ) (c : Control) → meant (instance_at m second).kind third ≡ Act c
      → ButControl (instance_at m second) (instance_at (frame_model m first second third) second)
  control_alone first second third c e =
      frame_own (ButControl (instance_at m second)) second m first second third (changes_nothing (instance_at m second))
      (λ n q. rw (acts_so (instance_at m second) third m.dtr0 c e) (control_changes (instance_at m second) c))

  -- the tick number is changed by a tick alone, by 1, and DTR0 by its load and by 4B alone
  pub tick_number : (h : Happening) → (happen m h).tick ≡ m.tick + rises h
  tick_number = happen_tick m

  pub dtr0_alone : (h : Happening) → loads_dtr0 h ≡ false → asks_colour m h ≡ false → (happen m h).dtr0 ≡ m.dtr0
  dtr0_alone = dtr0_kept m

  -- M-104: 4B, of an instance of type 5, counts it up by 1, from 255 to 0, with an answer or without. (Where its answer finds no room nothing is
  -- changed: demand 1)
  pub dtr0_counts : (first second third : ℕ) → asks_colour m (frame first second third) ≡ true → (frame_model m first second third).dtr0 ≡ (m.dtr0 + 1) % 256
  unfolding counted_up
  dtr0_counts = dtr0_counted m

  -- a tick is each declared instance's own: what becomes of it, and whether it sends, comes from itself alone
  pub tick_of_each : {i : ℕ} → Present i m
      → (instance_at (tick_model m) i ≡ (ticked (instance_at m i)).instance)
      × (events_of i (tick_log m) ≡ noted (is_event (ticked (instance_at m i)).sent) (m.tick + 1))
  tick_of_each p = (ticked_own p, events_tick p)

  pub tick_keeps_undeclared : (i : ℕ) → m.declared ≤ i → instance_at (tick_model m) i ≡ instance_at m i
  tick_keeps_undeclared = tick_past m

-- M-110: whether an instance has had a valid sample is read by the judging of SA alone. With that put otherwise a tick sends the same and byte 3
-- is answered the same, and what they leave is the same but for that
pub measured_unread : (x : Instance) (b : Bool)
    → (ticked (with_measured b x) ≡ record { instance = with_measured b (ticked x).instance; sent = (ticked x).sent })
    × ((opcode dtr0 : ℕ) → acted (with_measured b x) opcode dtr0
    ≡ leaving (with_measured b (acted x opcode dtr0).instance) (acted x opcode dtr0).dtr0 (acted x opcode dtr0).answer)
measured_unread x b = (tick_unread x b, act_unread x b)

-- ---- THE FOUR MODELS: "Demand 2 shuts out a model that refuses all, one that logs a fixed answer, one that does nothing, and one that works the
-- first tick of a TK and only advances the number in the others"
-- refuses all: by `taken_there` what no row refuses is taken
-- logs a fixed answer: by `taken_there` a frame logs `frame_log` of its own three bytes and of the device as it stands
-- does nothing: by `taken_there` the model and the log after a record are those of what it tells of
-- works the first tick alone: by `taken_there` a TK of n ticks is n ticks, each `tick_model` and `tick_log`
-- and the full session shuts out the first, the third and the fourth by itself: it is taken whole, it logs, and its second event is that of
-- tick 31, the 30th tick of its TK

-- document 01's full session: the numbers given back, and its log, record by record and byte for byte
pub full_session : (for_c (session fresh full 28) ≡ numbers 0 32 28 0)
    × ((session fresh full 28).log ≡ (EV 1 0 4 0x191 ∷ EV 31 0 4 0x179 ∷ AN 41 0 0x5E ∷ []))
    × (bytes_of (session fresh full 28).log ≡ full_log)
full_session = whole

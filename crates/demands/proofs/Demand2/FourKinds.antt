-- A record that no row of the table refuses is one of the four kinds, and what is asked for is what its bytes tell of.
-- Assumes nothing.
use Prim.Native.Nat.{ℕ, ◌+◌, ◌-◌, ◌<◌, ◌≤◌}
use Rattle.demands.proofs.Demand1.{number_exactly}
use Rattle.demands.proofs.Shared.Declarations.{Either, either, named, named_by}
use Rattle.demands.proofs.Shared.Marks.{MarkIs, declaring_asked, fr_asked, mark_is, sa_asked, tk_asked}
use Rattle.demands.specs.Happenings.{Happening, asks_for}
use Rattle.demands.specs.Numbers.{Declaring, Front, Names, NoneGiven, declares, frames, holds, passes}
use Rattle.device.specs.Device.{allowed, instance_at, known}
use Rattle.device.specs.declared.model.Model.{Model}
use Rattle.judging.specs.Asked.{asked, declare_asked, declared_in, frame_asked, sample_asked, sample_in, sensor_asked, size_of, ticks_asked}
use Rattle.judging.specs.declared.asked.Asked.TheVariants.{Declare, Frame, Hold, Ticks}
use Rattle.judging.specs.declared.asked.Asked.{Asked}
use Rattle.judging.specs.declared.asked.Refusal.TheVariants.{BadSample, BeyondTable, Cut, LateOrSkipped, NoSuchSensor, NoTicks, NotReadyAgain, TimeOver, Undeclared, UnknownMark}
use Rattle.judging.specs.declared.asked.Refusal.{Refusal}
use Rattle.record.specs.Log.{AllBytes}
use Rattle.record.specs.Marks.{mark_of, mark_size}
use Rattle.record.specs.Numbers.{byte, word}
use Rattle.record.specs.declared.marks.Mark.TheVariants.{Bus, Declaration, Measurement, Time}
use Rattle.record.specs.declared.marks.Mark.{Mark}
use Rattle.sensor.specs.Tick.{goes_back}
use Rattle.sensor.specs.declared.sensors.Sensor.{Sensor}
use Rattle.std.specs.Prelude.{Err, None, Ok, Option, Result, Some}
use lib.Dec.{eqb, ltb}
use lib.ListN.{length}
use mathlib.Core.Bool.{Bool, cond, false, not, true, ◌||◌}
use mathlib.Core.List.{List}
use mathlib.Core.Logic.{inl, inr}
use mathlib.Core.Path.{ap, ◌∙◌, ◌≡◌}
use native.Mathlib.Decide.{dec_lt}
use native.Mathlib.Omega.{arith}

-- ---- what is asked for is what the bytes tell of
pub record Asks (zs : List ℕ) (m : Model) (size : ℕ) (hs : List Happening) : Type 0 where
  pub some : 0 < size_of (asked zs m)
  pub whole : size_of (asked zs m) ≡ size
  pub tells : asks_for (asked zs m) ≡ hs

module _ (zs : List ℕ) (m : Model) (bytes : AllBytes zs) (none : NoneGiven zs m) where
  -- a declaration names a sensor
  sensor_there : Declaring zs → (sensor : Sensor) × Names zs sensor
  sensor_there k = go (either zs k) (dec_lt (length zs) (mark_size Declaration))
    where
      go : Either zs → Dec (length zs < mark_size Declaration) → (sensor : Sensor) × Names zs sensor
      go (inl there) cut = there
      go (inr gone) (yes h) = absurd (none Cut (inr (inl (k, h))))
      go (inr gone) (no h) = let whole : mark_size Declaration ≤ length zs = omega arith in
          absurd (none NoSuchSensor (k, whole, λ late. none LateOrSkipped (k, whole, late), gone))

  -- its mark is one of the four
  pub front_known : (size : ℕ) × (hs : List Happening) × Front zs size hs
  front_known = go (dec_lt (length zs) 2)
    where
      by : 2 ≤ length zs → (k : Option Mark) → MarkIs k zs → (size : ℕ) × (hs : List Happening) × Front zs size hs
      by l None (a, o, v, b, c, d) = absurd (none UnknownMark (l, a, o, v, b, c, d))
      by l (Some Declaration) k = (_, _, declares (sensor_there k).0 (sensor_there k).1)
      by l (Some Measurement) k = (_, _, holds k)
      by l (Some Bus) k = (_, _, frames k)
      by l (Some Time) k = (_, _, passes k)

      go : Dec (length zs < 2) → (size : ℕ) × (hs : List Happening) × Front zs size hs
      go (yes h) = absurd (none Cut (inl h))
      go (no h) = let l : 2 ≤ length zs = omega arith in by l (mark_of (word zs 0)) (mark_is zs l)

  -- each test that would refuse it fails
  never : (why : Refusal) → asked zs m ≡ Err why → ⊥
  never why e = none why ((number_exactly zs m bytes why).0 e)

  declare_asked_lem : (a b c : Bool)
      → asked zs m ≡ cond a (Err Cut) (cond b (Err LateOrSkipped) (cond c (sensor_asked (declared_in zs)) (Err NoSuchSensor)))
      → asked zs m ≡ sensor_asked (declared_in zs)
  declare_asked_lem true b c e = absurd (never Cut e)
  declare_asked_lem false true c e = absurd (never LateOrSkipped e)
  declare_asked_lem false false true e = e
  declare_asked_lem false false false e = absurd (never NoSuchSensor e)

  hold_asked : (a b c d : Bool)
      → asked zs m
      ≡ cond a (Err Cut) (cond b (cond c (cond d (Err NotReadyAgain) (Ok (Hold (byte zs 2) (sample_in zs)))) (Err BadSample)) (Err Undeclared))
      → asked zs m ≡ Ok (Hold (byte zs 2) (sample_in zs))
  hold_asked true b c d e = absurd (never Cut e)
  hold_asked false false c d e = absurd (never Undeclared e)
  hold_asked false true false d e = absurd (never BadSample e)
  hold_asked false true true true e = absurd (never NotReadyAgain e)
  hold_asked false true true false e = e

  frame_asked_lem : (a : Bool) → asked zs m ≡ cond a (Err Cut) (Ok (Frame (byte zs 2) (byte zs 3) (byte zs 4)))
      → asked zs m ≡ Ok (Frame (byte zs 2) (byte zs 3) (byte zs 4))
  frame_asked_lem true e = absurd (never Cut e)
  frame_asked_lem false e = e

  ticks_asked_lem : (a b c d : Bool)
      → asked zs m ≡ cond a (Err Cut) (cond b (Err NoTicks) (cond c (Err TimeOver) (cond d (Err BeyondTable) (Ok (Ticks (word zs 2))))))
      → asked zs m ≡ Ok (Ticks (word zs 2))
  ticks_asked_lem true b c d e = absurd (never Cut e)
  ticks_asked_lem false true c d e = absurd (never NoTicks e)
  ticks_asked_lem false false true d e = absurd (never TimeOver e)
  ticks_asked_lem false false false true e = absurd (never BeyondTable e)
  ticks_asked_lem false false false false e = e

  asks_for_lem : (a : Result Asked Refusal) → 0 < size_of a → asked zs m ≡ a → Asks zs m (size_of a) (asks_for a)
  asks_for_lem a s e = record { some = rw e s; whole = ap size_of e; tells = ap asks_for e }

  pub asks : {size : ℕ} {hs : List Happening} → Front zs size hs → Asks zs m size hs
  unfolding declare_asked sample_asked frame_asked ticks_asked size_of
  asks (declares sensor names) =
      asks_for_lem (Ok (Declare sensor)) (omega arith)
      (declare_asked_lem (ltb (length zs) (mark_size Declaration)) (m.running || not (eqb (byte zs 2) m.declared))
      (ltb (byte zs 2) 16) (declaring_asked zs m (named_by zs sensor names))
      ∙ ap sensor_asked (named zs sensor names))
  asks (holds k) =
      asks_for_lem (Ok (Hold (byte zs 2) (sample_in zs))) (omega arith)
      (hold_asked (ltb (length zs) (mark_size Measurement)) (known m (byte zs 2)) (allowed m (byte zs 2) (sample_in zs))
      (goes_back (instance_at m (byte zs 2)) (sample_in zs)) (sa_asked zs m k))
  asks (frames k) = asks_for_lem (Ok (Frame (byte zs 2) (byte zs 3) (byte zs 4))) (omega arith) (frame_asked_lem (ltb (length zs) (mark_size Bus)) (fr_asked zs m k))
  asks (passes k) =
      asks_for_lem (Ok (Ticks (word zs 2))) (omega arith)
      (ticks_asked_lem (ltb (length zs) (mark_size Time)) (eqb (word zs 2) 0) (ltb (4294967295 - m.tick) (word zs 2))
      (ltb m.last (m.tick + word zs 2)) (tk_asked zs m k))

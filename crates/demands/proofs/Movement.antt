-- M-100, of a device, whatever other traffic passes: a hold time lasts exactly its time, and a movement that is caught is sent once at most.
-- (That no Occupied trigger arises from 0xAA: `none_occupied` in `Hold` of crate `sensor`.)
-- Assumes nothing.
use Prim.Native.Nat.{ℕ, suc, ◌+◌, ◌-◌, ◌<◌, ◌≤◌}
use Rattle.command.proofs.Moving.{act_area, act_owed}
use Rattle.demands.proofs.Shared.OneInstance.{declared_kind, frame_own, happen_present, held_kind, ticked_own}
use Rattle.demands.specs.Alone.{Present}
use Rattle.demands.specs.Happenings.{Happening, declare, frame, happen, hold, model_after, tick, ticks_in}
use Rattle.demands.specs.Movement.{StillAll, UncaughtAll, movements_sent}
use Rattle.device.specs.Device.{instance_at}
use Rattle.device.specs.declared.model.Model.{Model}
use Rattle.sensor.proofs.Catching.{owed_most, tick_owed}
use Rattle.sensor.proofs.Hold.{tick_expires, tick_holds, tick_stills}
use Rattle.sensor.specs.Movement.{hold_time}
use Rattle.sensor.specs.Moving.{Area, moves, owed}
use Rattle.sensor.specs.Tick.{valid}
use Rattle.ticks.specs.Tick.{tick_model}
use mathlib.Core.Bool.{false, true}
use mathlib.Core.List.{List, [], ◌++◌, ◌∷◌}
use mathlib.Core.Path.{refl, subst, ◌≡◌}
use native.Mathlib.Omega.{arith}

-- ---- THE HOLD TIME
-- it starts at the tick that goes from 0xFF to 0xAA
pub hold_starts : {i : ℕ} {m : Model} → Present i m → valid (instance_at m i) ≡ true → moves (instance_at m i).held ≡ false → {left : ℕ}
    → Area (instance_at m i).kind 3 left → Area (instance_at (tick_model m) i).kind 2 (hold_time (instance_at m i).settings)
hold_starts {i} {m} p ready still a = rw (ticked_own p) (tick_stills (instance_at m i) ready still a)

-- as long as ticks are left of it the instance is at 0xAA
pub hold_lasts : {i : ℕ} (m : Model) → Present i m → (left : ℕ) → Area (instance_at m i).kind 2 left → (hs : List Happening) → StillAll i m hs
    → ticks_in hs < left → Area (instance_at (model_after m hs) i).kind 2 (left - ticks_in hs)
unfolding model_after ticks_in
hold_lasts m p left a [] s h = let whole : left ≡ left - 0 = omega arith in subst (Area _ 2) whole a
hold_lasts m p left a (declare sensor ∷ hs) s h =
    hold_lasts (happen m (declare sensor)) (happen_present m (declare sensor) p) left (rw (declared_kind sensor p) a) hs s.1 h
hold_lasts m p left a (hold j sample ∷ hs) s h =
    hold_lasts (happen m (hold j sample)) (happen_present m (hold j sample) p) left (rw (held_kind j sample p) a) hs s.1 h
hold_lasts {i} m p left a (frame first second third ∷ hs) s h =
    let kept = frame_own (λ x. Area x.kind 2 left) i m first second third a (λ n q. act_area (instance_at m i) third m.dtr0 (s.0 n q) a) in
    hold_lasts (happen m (frame first second third)) (happen_present m (frame first second third) p) left kept hs s.1 h
hold_lasts {i} m p left a (tick ∷ hs) s h =
    let falls = tick_holds (instance_at m i) s.0.0 s.0.1 (omega arith) a in
    let rest : left - 1 - ticks_in hs ≡ left - suc (ticks_in hs) = omega arith in
    subst (Area _ 2) rest (hold_lasts (tick_model m) (happen_present m tick p) (left - 1) (rw (ticked_own p) falls) hs s.1 (omega arith))

-- and with the last of them it is at 0x00
still_before : (i : ℕ) (m : Model) (hs : List Happening) → StillAll i m (hs ++ (tick ∷ [])) → StillAll i m hs × StillAll i (model_after m hs) (tick ∷ [])
unfolding model_after
still_before i m [] s = (tt, s)
still_before i m (h ∷ hs) s = let p = still_before i (happen m h) hs s.1 in ((s.0, p.0), p.1)

run_present : {i : ℕ} (m : Model) (hs : List Happening) → Present i m → Present i (model_after m hs)
unfolding model_after
run_present m [] p = p
run_present m (h ∷ hs) p = run_present (happen m h) hs (happen_present m h p)

run_tick : (m : Model) (hs : List Happening) → model_after m (hs ++ (tick ∷ [])) ≡ tick_model (model_after m hs)
unfolding model_after
run_tick m [] = refl
run_tick m (h ∷ hs) = run_tick (happen m h) hs

pub hold_expires : {i : ℕ} (m : Model) → Present i m → (left : ℕ) → Area (instance_at m i).kind 2 left → (hs : List Happening)
    → StillAll i m (hs ++ (tick ∷ [])) → ticks_in hs + 1 ≡ left → Area (instance_at (model_after m (hs ++ (tick ∷ []))) i).kind 0 0
hold_expires {i} m p left a hs s e =
    let still = still_before i m hs s in
    let last : left - ticks_in hs ≡ 1 = omega arith in
    let before = subst (Area _ 2) last (hold_lasts m p left a hs still.0 (omega arith)) in
    rw (run_tick m hs, ticked_own (run_present m hs p)) (tick_expires (instance_at (model_after m hs) i) still.1.0.0 still.1.0.1 before)

-- ---- CATCHING
-- with Movement out of the filter, and no further catch, no more events have Movement among their causes than are owed for one
owed_sent : {i : ℕ} (m : Model) → Present i m → (hs : List Happening) → UncaughtAll i m hs → movements_sent i m hs ≤ owed (instance_at m i).kind
unfolding movements_sent
owed_sent m p [] s = omega arith
owed_sent m p (declare sensor ∷ hs) s =
    rw (← declared_kind sensor p) (owed_sent (happen m (declare sensor)) (happen_present m (declare sensor) p) hs s.1)
owed_sent m p (hold j sample ∷ hs) s =
    rw (← held_kind j sample p) (owed_sent (happen m (hold j sample)) (happen_present m (hold j sample) p) hs s.1)
owed_sent {i} m p (frame first second third ∷ hs) s =
    let no_more = frame_own (λ x. owed x.kind ≤ owed (instance_at m i).kind) i m first second third (omega arith) (λ n q. act_owed (instance_at m i) third m.dtr0 (s.0 n q)) in
    let rest = owed_sent (happen m (frame first second third)) (happen_present m (frame first second third) p) hs s.1 in
    omega (arith, no_more, rest)
owed_sent {i} m p (tick ∷ hs) s =
    let rest = owed_sent (tick_model m) (happen_present m tick p) hs s.1 in
    let own = rw (ticked_own p) at rest in
    omega (arith, own, tick_owed (instance_at m i) s.0)

-- one at most
pub caught_once : {i : ℕ} (m : Model) → Present i m → (hs : List Happening) → UncaughtAll i m hs → movements_sent i m hs ≤ 1
caught_once {i} m p hs s = omega (arith, owed_sent m p hs s, owed_most (instance_at m i).kind)

-- and none where none is owed: the instance does not catch, and no Movement waits
pub caught_none : {i : ℕ} (m : Model) → Present i m → owed (instance_at m i).kind ≡ 0 → (hs : List Happening) → UncaughtAll i m hs → movements_sent i m hs ≡ 0
caught_none m p e hs s = omega (arith, owed_sent m p hs s)

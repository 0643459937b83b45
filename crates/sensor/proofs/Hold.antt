-- M-100: what a tick makes of a movement sensor's value and of its hold timer.
-- Assumes nothing.
use Prim.Native.Nat.{ℕ, ◌%◌, ◌-◌, ◌<◌}
use Rattle.sensor.specs.Kind.{sent, taken}
use Rattle.sensor.specs.Movement.{area, hold_after, hold_time, letting, movement_sent, movement_taken, seen_after, shown, stilled}
use Rattle.sensor.specs.Moving.{Area, came, moves, new_value}
use Rattle.sensor.specs.Occupancy.{change, occupancy_sent, occupancy_taken, triggers, waits}
use Rattle.sensor.specs.Tick.{closed, decision_at, kind_after, taken_kind, ticked, valid}
use Rattle.sensor.specs.declared.instance.Instance.{Instance}
use Rattle.sensor.specs.declared.kind.Kind.TheVariants as kinds
use Rattle.sensor.specs.declared.kind.Kind.{Kind}
use Rattle.sensor.specs.declared.movement.Movement.{Movement}
use Rattle.sensor.specs.declared.settings.Sample.{Sample}
use Rattle.sensor.specs.declared.settings.Settings.{Settings}
use Rattle.timers.specs.declared.Decision.TheVariants.{Reported, Silent, Triggered}
use Rattle.timers.specs.declared.Decision.{Decision}
use borrow.Author.Tests.{ne_eqb}
use lib.Dec.{eqb}
use mathlib.Core.Bool.{Bool, cond, false, true}
use mathlib.Core.Path.{◌≡◌, refl, ◌∙◌}
use native.Mathlib.Omega.{arith}

-- ---- a tick with a valid sample: what it comes to, and the triggers that wait from then on
area_whole : (old : ℕ) (moves over : Bool) → area old moves over % 4 ≡ area old moves over
unfolding area stilled
area_whole old true over = refl
area_whole old false over = go (eqb old 0) (eqb old 1) (eqb old 2) over
  where
    by : (a b c over : Bool) → ℕ
    by a b c over = cond a 0 (cond b 0 (cond c (cond over 0 2) 2))

    go : (a b c over : Bool) → by a b c over % 4 ≡ by a b c over
    go true b c over = refl
    go false true c over = refl
    go false false true true = refl
    go false false true false = refl
    go false false false over = refl

module _ (m : Movement) (s : Settings) (held : Sample) (ready : eqb held.status 0 ≡ true) where
  pub taken_value : (seen_after m s held).value ≡ new_value m held
  unfolding occupancy_taken shown
  taken_value = rw (ready, area_whole m.seen.value (moves held) (eqb (m.hold - 1) 0))

  pub taken_waiting : (seen_after m s held).waiting ≡ waits (letting m s) m.seen.waiting (came m held)
  unfolding occupancy_taken shown
  taken_waiting = rw (ready, area_whole m.seen.value (moves held) (eqb (m.hold - 1) 0))

  taken_area : {new left : ℕ} → new_value m held ≡ new → hold_after s m.seen.value new (m.hold - 1) ≡ left
      → Area (taken (kinds.Movement m) s held) new left
  unfolding taken movement_taken
  taken_area e h = record { sensor = movement_taken m s held; is = refl; shows = taken_value ∙ e; holds = rw (taken_value, e) h }

-- ---- "no Occupied trigger arises from 0xAA"
pub none_occupied : (m : Movement) (held : Sample) → m.seen.value ≡ 2 → came m held % 2 ≡ 0
unfolding area stilled triggers change
none_occupied m held e = rw e (go (moves held) (eqb (m.hold - 1) 0))
  where
    go : (moves over : Bool) → triggers 2 (area 2 moves over) % 2 ≡ 0
    go true over = refl
    go false true = refl
    go false false = refl

-- ---- without movement
module _ (m : Movement) (s : Settings) (held : Sample) (ready : eqb held.status 0 ≡ true) (still : moves held ≡ false) where
  -- from 0xFF to 0xAA with No movement, and the hold timer starts
  taken_stills : m.seen.value ≡ 3 → Area (taken (kinds.Movement m) s held) 2 (hold_time s) × (came m held ≡ 16)
  unfolding area stilled hold_after triggers change
  taken_stills e = (taken_area m s held ready (rw (still, e)) (rw e), rw (still, e))

  -- at 0xAA it falls
  taken_holds : m.seen.value ≡ 2 → 1 < m.hold → Area (taken (kinds.Movement m) s held) 2 (m.hold - 1) × (came m held ≡ 0)
  unfolding area stilled hold_after triggers change
  taken_holds e h = let lasts : eqb (m.hold - 1) 0 ≡ false = ne_eqb (m.hold - 1) 0 (λ z. omega arith) in
      (taken_area m s held ready (rw (still, e, lasts)) (rw e), rw (still, e, lasts))

  -- and expires: to 0x00 with Vacant
  taken_expires : m.seen.value ≡ 2 → m.hold ≡ 1 → Area (taken (kinds.Movement m) s held) 0 0 × (came m held ≡ 2)
  unfolding area stilled hold_after triggers change
  taken_expires e h = (taken_area m s held ready (rw (still, e, h)) refl, rw (still, e, h))

-- ---- an event leaves both as they are
sent_area : (k : Kind) (s : Settings) {value left : ℕ} → Area k value left → Area (sent k s) value left
unfolding sent movement_sent occupancy_sent
sent_area k s a = record { sensor = movement_sent a.sensor; is = rw a.is; shows = a.shows; holds = a.holds }

tick_area : (x : Instance) {value left : ℕ} → Area (taken_kind x) value left → Area (ticked x).instance.kind value left
unfolding ticked closed kind_after
tick_area x {value} {left} a = go (decision_at x)
  where
    go : (d : Decision) → Area (kind_after d (taken_kind x) x.settings) value left
    go Silent = a
    go Triggered = sent_area (taken_kind x) x.settings a
    go Reported = sent_area (taken_kind x) x.settings a

-- ---- A TICK of an instance with a valid sample without movement
module _ (x : Instance) (ready : valid x ≡ true) (still : moves x.held ≡ false) where
  pub tick_stills : {left : ℕ} → Area x.kind 3 left → Area (ticked x).instance.kind 2 (hold_time x.settings)
  tick_stills a = tick_area x (rw a.is (taken_stills a.sensor x.settings x.held ready still a.shows).0)

  pub tick_holds : {left : ℕ} → 1 < left → Area x.kind 2 left → Area (ticked x).instance.kind 2 (left - 1)
  tick_holds h a =
      let falls = (taken_holds a.sensor x.settings x.held ready still a.shows (rw a.holds h)).0 in
      tick_area x (rw (a.is, ← a.holds) falls)

  pub tick_expires : Area x.kind 2 1 → Area (ticked x).instance.kind 0 0
  tick_expires a = tick_area x (rw a.is (taken_expires a.sensor x.settings x.held ready still a.shows a.holds).0)

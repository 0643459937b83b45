-- Quiet ticks can be passed over: while `quiet_for` lasts, a tick sends nothing and only lets timers fall.
-- Assumes nothing.
use Prim.Native.Nat.{ℕ, suc, ◌%◌, ◌-◌, ◌/◌, ◌<◌}
use Rattle.sensor.proofs.Laws.{both, only_valid, sent_decided}
use Rattle.sensor.specs.Colour.{colour_cause, colour_sent, colour_taken, recalculated}
use Rattle.sensor.specs.Kind.{cause, repeat, rules, sent, taken, units}
use Rattle.sensor.specs.Light.{light_sent, light_taken, with_band, with_shown}
use Rattle.sensor.specs.Movement.{area, hold_after, hold_time, letting, movement_cause, movement_sent, movement_taken, seen_after, shown, stilled, with_hold_left, with_seen}
use Rattle.sensor.specs.Occupancy.{change, occupancy_sent, occupancy_taken, triggers, waits}
use Rattle.sensor.specs.Quiet.{colour_settled, falls_for, light_settled, movement_falls_for, movement_rested, movement_settled, occupancy_settled, quiet_for, rested, rested_kind, settled, steady}
use Rattle.sensor.specs.Tick.{closed, decision_at, kind_after, sent_after, taken_kind, ticked, valid}
use Rattle.sensor.specs.declared.colour.Colour.{Colour}
use Rattle.sensor.specs.declared.instance.Instance.{Instance}
use Rattle.sensor.specs.declared.kind.Kind.TheVariants as kinds
use Rattle.sensor.specs.declared.kind.Kind.{Kind}
use Rattle.sensor.specs.declared.light.Band.{Band}
use Rattle.sensor.specs.declared.light.Light.{Light}
use Rattle.sensor.specs.declared.movement.Movement.{Movement}
use Rattle.sensor.specs.declared.occupancy.Occupancy.{Occupancy}
use Rattle.sensor.specs.declared.settings.Sample.{Sample}
use Rattle.sensor.specs.declared.settings.Settings.{Settings}
use Rattle.std.specs.Prelude.{None, Option, Some, is_none}
use Rattle.timers.proofs.Quiet as gates
use Rattle.timers.specs.Decision.{after, sends}
use Rattle.timers.specs.declared.Decision.TheVariants.{Reported, Silent, Triggered}
use Rattle.timers.specs.declared.Decision.{Decision}
use borrow.Author.Tests.{eq-eqb, eqb-true, le-ltb, ne_eqb}
use lib.Bits.{and_zero_l, bit_and, bit_or, or_zero_r}
use lib.Dec.{eqb}
use mathlib.Core.Bool.{Bool, cond, false, false≢true, not, or-true, true, ◌&&◌, ◌||◌}
use mathlib.Core.Path.{ap, refl, sym, ◌≡◌, ◌∙◌}
use native.Mathlib.Nat.{not-suc-le-zero}
use native.Mathlib.Omega.{arith}

-- ---- of tests
some : (b : Bool) (x n : ℕ) → n < cond b x 0 → (b ≡ true) × (n < x)
some true x n h = (refl, h)
some false x n h = absurd (not-suc-le-zero h)

same_is : (a b : Bool) → cond a b (not b) ≡ true → b ≡ a
same_is true b e = e
same_is false true e = sym e
same_is false false e = refl

same_self : (b : Bool) → cond b b (not b) ≡ true
same_self true = refl
same_self false = refl

-- ---- a settled sensor that takes the held sample again does no more than let its own timer fall
no_band : (b : Option Band) → is_none b ≡ true → b ≡ None
no_band None e = refl
no_band (Some band) e = absurd (false≢true e)

band_stays : (valid : Bool) (b : Option Band) → valid || is_none b ≡ true → cond valid b None ≡ b
band_stays true b e = refl
band_stays false b e = sym (no_band b e)

light_stays : (l : Light) (held : Sample) → light_settled l held ≡ true → light_taken l held ≡ l
unfolding light_settled light_taken
light_stays l held e =
    let p = both _ _ e in
    let q = both _ _ p.0 in
    let value = sym (eqb-true _ _ q.0) in
    let status = sym (eqb-true _ _ q.1) in
    let band = band_stays (eqb held.status 0) l.band p.1 in
    λ i. with_shown (record { status = status i; value = value i }) (with_band (band i) l)

colour_stays : (c : Colour) (held : Sample) → colour_settled c held ≡ true → colour_taken c held ≡ c
unfolding colour_settled colour_taken
colour_stays c held e =
    let p = both _ _ e in
    let value = sym (eqb-true _ _ p.0) in
    let status = sym (eqb-true _ _ p.1) in
    λ i. colour_taken c (record { status = status i; value = value i })

change_none : (x up down : ℕ) → change x x up down ≡ 0
unfolding change
change_none x up down = rw (le-ltb x x (omega arith))

triggers_none : (x : ℕ) → triggers x x ≡ 0
unfolding triggers
triggers_none x = rw (change_none (x / 2 % 2) 1 2, change_none (x % 2) 8 16)

waits_none : (s : Settings) (waiting : ℕ) → s.enabled || eqb waiting 0 ≡ true → waits s waiting 0 ≡ waiting
unfolding waits
waits_none s waiting e = go s.enabled e
  where
    go : (enabled : Bool) → enabled || eqb waiting 0 ≡ true → cond enabled (bit_or waiting (bit_and 0 s.filter)) 0 ≡ waiting
    go true e = rw (and_zero_l s.filter, or_zero_r waiting)
    go false e = sym (eqb-true waiting 0 e)

occupancy_stays : (o : Occupancy) (s : Settings) (held : Sample) → occupancy_settled o s held ≡ true → occupancy_taken o s held ≡ o
unfolding occupancy_settled occupancy_taken
occupancy_stays o s held e = go (eqb held.status 0) e
  where
    go : (valid : Bool)
        → cond valid (eqb o.value (held.value % 4) && (s.enabled || eqb o.waiting 0)) (eqb o.waiting 0) ≡ true
        → cond valid (record { value = held.value % 4; waiting = waits s o.waiting (triggers o.value (held.value % 4)) })
        (record { value = o.value; waiting = 0 })
        ≡ o
    go true e =
        let p = both _ _ e in
        let value = sym (eqb-true o.value (held.value % 4) p.0) in
        let none : waits s o.waiting (triggers o.value (held.value % 4)) ≡ o.waiting =
        rw (value, triggers_none o.value) (waits_none s o.waiting p.1) in
        λ i. record { value = value i; waiting = none i }
    go false e = λ i. record { value = o.value; waiting = sym (eqb-true o.waiting 0 e) i }

-- M-100: whether the hold time is over is asked at 0xAA alone
area_lasts : (old : ℕ) (moves over : Bool) → (eqb old 2 ≡ true → over ≡ false) → area old moves over ≡ area old moves false
unfolding area stilled
area_lasts old true over e = refl
area_lasts old false over e = go (eqb old 2) e
  where
    by : (still over : Bool) → ℕ
    by still over = cond (eqb old 0) 0 (cond (eqb old 1) 0 (cond still (cond over 0 2) 2))

    go : (still : Bool) → (still ≡ true → over ≡ false) → by still over ≡ by still false
    go true e = ap (by true) (e refl)
    go false e = refl

hold_falls : (s : Settings) (value hold n : ℕ) → eqb value 2 || eqb hold 0 ≡ true → hold_after s value value (hold - n - 1) ≡ hold - suc n
unfolding hold_after
hold_falls s value hold n e = go (eqb value 2) e
  where
    go : (still : Bool) → still || eqb hold 0 ≡ true → cond still (cond still (hold - n - 1) (hold_time s)) 0 ≡ hold - suc n
    go true e = omega arith
    go false e = let z = eqb-true hold 0 e in omega arith

module _ (m : Movement) (s : Settings) (held : Sample) (n : ℕ) (e : movement_settled m s held ≡ true) (h : n < movement_falls_for m held) where
  abbrev over : Bool
  over = eqb (m.hold - n - 1) 0

  lasts : eqb held.status 0 ≡ true → eqb m.seen.value 2 ≡ true → over ≡ false
  unfolding movement_falls_for
  lasts valid still = let some : n < m.hold - 1 = rw (valid, still) at h in ne_eqb (m.hold - n - 1) 0 (λ z. omega arith)

  seen_settled : occupancy_settled m.seen s (shown m held over) ≡ true
  unfolding movement_settled occupancy_settled shown
  seen_settled = go (eqb held.status 0) refl (both _ _ e).0
    where
      settled_by : (valid over : Bool) → Bool
      settled_by valid over =
          cond valid (eqb m.seen.value (area m.seen.value (eqb (held.value % 2) 1) over % 4) && (s.enabled || eqb m.seen.waiting 0)) (eqb m.seen.waiting 0)

      go : (valid : Bool) → eqb held.status 0 ≡ valid → settled_by valid false ≡ true → settled_by valid over ≡ true
      go true v t = rw (area_lasts m.seen.value (eqb (held.value % 2) 1) over (lasts v)) t
      go false v t = t

  seen_stays : seen_after (movement_rested m n) s held ≡ m.seen
  unfolding movement_rested letting occupancy_settled shown
  seen_stays = occupancy_stays m.seen (letting m s) (shown m held over) seen_settled

  movement_rests : movement_taken (movement_rested m n) s held ≡ movement_rested m (suc n)
  unfolding movement_taken movement_rested movement_settled
  movement_rests =
      ap (λ o. with_seen o (with_hold_left (hold_after s m.seen.value o.value (m.hold - n - 1)) m)) seen_stays
      ∙ ap (λ left. with_hold_left left m) (hold_falls s m.seen.value m.hold n (both (occupancy_settled m.seen s (shown m held false)) _ e).1)

kind_rests : (k : Kind) (s : Settings) (held : Sample) (n : ℕ) → settled k s held ≡ true → n < falls_for k held
    → taken (rested_kind k n) s held ≡ rested_kind k (suc n)
unfolding settled falls_for rested_kind taken
kind_rests (kinds.Light l) s held n e h = ap kinds.Light (light_stays l held e)
kind_rests (kinds.Occupancy o) s held n e h = ap kinds.Occupancy (occupancy_stays o s held e)
kind_rests (kinds.Movement m) s held n e h = ap kinds.Movement (movement_rests m s held n e h)
kind_rests (kinds.Colour c) s held n e h = ap kinds.Colour (colour_stays c held e)

-- which neither the rules nor a cause ask for
rested_rules : (k : Kind) (s : Settings) (n : ℕ) → rules (rested_kind k n) s ≡ rules k s
unfolding rested_kind rules repeat units
rested_rules (kinds.Light l) s n = refl
rested_rules (kinds.Occupancy o) s n = refl
rested_rules (kinds.Movement m) s n = refl
rested_rules (kinds.Colour c) s n = refl

rested_cause : (k : Kind) (s : Settings) (n : ℕ) → cause (rested_kind k n) s ≡ cause k s
unfolding rested_kind cause movement_cause movement_rested
rested_cause (kinds.Light l) s n = refl
rested_cause (kinds.Occupancy o) s n = refl
rested_cause (kinds.Movement m) s n = refl
rested_cause (kinds.Colour c) s n = refl

kind_rested_none : (k : Kind) → rested_kind k 0 ≡ k
unfolding rested_kind movement_rested
kind_rested_none (kinds.Light l) = refl
kind_rested_none (kinds.Occupancy o) = refl
kind_rested_none (kinds.Movement m) = let whole : m.hold - 0 ≡ m.hold = omega arith in rw whole
kind_rested_none (kinds.Colour c) = refl

-- ---- quiet ticks
pub rested_none : (x : Instance) → rested x 0 ≡ x
unfolding rested
rested_none x = rw (kind_rested_none x.kind, gates.rested_none x.timers)

-- while it is quiet, a tick sends nothing and only lets timers fall
pub quiet_tick : (x : Instance) (n : ℕ) → n < quiet_for x → ticked (rested x n) ≡ record { instance = rested x (suc n); sent = None }
unfolding quiet_for steady rested ticked closed kind_after sent_after after
quiet_tick x n h =
    let p = some _ _ _ h in
    let q = both _ _ p.0 in
    let kind = kind_rests x.kind x.settings x.held n q.0 (omega (arith, p.1)) in
    let failed = same_is x.failed (eqb x.held.status 2) q.1 in
    let timers = gates.rested_next x.timers n in
    let shut = gates.stays_shut (rules x.kind x.settings) (valid x) x.timers (cause x.kind x.settings) n (omega (arith, p.1)) in
    rw (kind, rested_rules x.kind x.settings (suc n), rested_cause x.kind x.settings (suc n), timers, shut, failed)

-- ---- after any tick, and until a sample or a command, an instance is steady: how long it is quiet is then for its timers to say
band_settles : (valid : Bool) (b : Option Band) → valid || is_none (cond valid b None) ≡ true
band_settles true b = refl
band_settles false b = refl

waits_settles : (s : Settings) (waiting came : ℕ) → s.enabled || eqb (waits s waiting came) 0 ≡ true
unfolding waits
waits_settles s waiting came = go s.enabled
  where
    go : (enabled : Bool) → enabled || eqb (cond enabled (bit_or waiting (bit_and came s.filter)) 0) 0 ≡ true
    go true = refl
    go false = refl

-- M-100: the value that a tick came to is the one that the next would come to, while the hold time lasts
area_settles : (old : ℕ) (moves over : Bool) → area (area old moves over % 4) moves false % 4 ≡ area old moves over % 4
unfolding area stilled
area_settles old true over = refl
area_settles old false over = go (eqb old 0) (eqb old 1) (eqb old 2) over
  where
    by : (a b c over : Bool) → ℕ
    by a b c over = cond a 0 (cond b 0 (cond c (cond over 0 2) 2)) % 4

    go : (a b c over : Bool) → area (by a b c over) false false % 4 ≡ by a b c over
    go true b c over = refl
    go false true c over = refl
    go false false true true = refl
    go false false true false = refl
    go false false false over = refl

hold_settles : (s : Settings) (old new left : ℕ) → eqb new 2 || eqb (hold_after s old new left) 0 ≡ true
unfolding hold_after
hold_settles s old new left = go (eqb new 2)
  where
    go : (still : Bool) → still || eqb (cond still (cond (eqb old 2) left (hold_time s)) 0) 0 ≡ true
    go true = refl
    go false = refl

movement_settles : (m : Movement) (s : Settings) (held : Sample) → movement_settled (movement_taken m s held) s held ≡ true
unfolding movement_settled movement_taken occupancy_settled occupancy_taken shown letting
movement_settles m s held = go (eqb held.status 0) refl
  where
    moves : Bool
    moves = eqb (held.value % 2) 1

    over : Bool
    over = eqb (m.hold - 1) 0

    go : (valid : Bool) → eqb held.status 0 ≡ valid → movement_settled (movement_taken m s held) s held ≡ true
    go true v =
        let new = area m.seen.value moves over % 4 in
        rw (
          v,
          area_settles m.seen.value moves over,
          eq-eqb new new refl,
          waits_settles (letting m s) m.seen.waiting (triggers m.seen.value new),
        ) (hold_settles s m.seen.value new (m.hold - 1))
    go false v = rw v (hold_settles s m.seen.value m.seen.value (m.hold - 1))

taken_settles : (k : Kind) (s : Settings) (held : Sample) → settled (taken k s held) s held ≡ true
unfolding settled taken colour_settled colour_taken light_settled light_taken occupancy_settled occupancy_taken
taken_settles (kinds.Light l) s held =
    rw (eq-eqb held.value held.value refl, eq-eqb held.status held.status refl) (band_settles (eqb held.status 0) l.band)
taken_settles (kinds.Movement m) s held = movement_settles m s held
taken_settles (kinds.Colour c) s held = rw (eq-eqb held.value held.value refl, eq-eqb held.status held.status refl)
taken_settles (kinds.Occupancy o) s held = go (eqb held.status 0) refl
  where
    go : (valid : Bool) → eqb held.status 0 ≡ valid → occupancy_settled (occupancy_taken o s held) s held ≡ true
    go true e = rw (e, eq-eqb (held.value % 4) (held.value % 4) refl) (waits_settles s o.waiting (triggers o.value (held.value % 4)))
    go false e = rw e

seen_sent_settles : (o : Occupancy) (s : Settings) (held : Sample) → eqb held.status 0 ≡ true → occupancy_settled o s held ≡ true
    → occupancy_settled (occupancy_sent o) s held ≡ true
unfolding occupancy_settled occupancy_sent
seen_sent_settles o s held v e =
    let p : eqb o.value (held.value % 4) ≡ true = (both _ _ (rw v at e)).0 in
    rw (v, p, or-true s.enabled)

colour_sent_settles : (c : Colour) (s : Settings) (held : Sample) → colour_settled c held ≡ true → colour_settled (colour_sent c s) held ≡ true
unfolding colour_settled colour_sent
colour_sent_settles c s held e = go (colour_cause c s)
  where
    go : (b : Bool) → colour_settled (cond b (recalculated c s) c) held ≡ true
    go true = e
    go false = e

sent_settles : (k : Kind) (s : Settings) (held : Sample) → eqb held.status 0 ≡ true → settled k s held ≡ true
    → settled (sent k s) s held ≡ true
unfolding settled sent light_settled light_sent movement_sent movement_settled occupancy_sent shown
sent_settles (kinds.Light l) s held v e =
    let p : eqb l.shown.value held.value && eqb l.shown.status held.status ≡ true = (both _ _ e).0 in
    rw (p, v)
sent_settles (kinds.Occupancy o) s held v e = seen_sent_settles o s held v e
sent_settles (kinds.Movement m) s held v e =
    let p = both _ _ e in
    rw (seen_sent_settles m.seen s (shown m held false) v p.0) p.1
sent_settles (kinds.Colour c) s held v e = colour_sent_settles c s held e

-- an event needs a valid sample
after_settles : (decision : Decision) (k : Kind) (s : Settings) (held : Sample) → (sends decision ≡ true → eqb held.status 0 ≡ true)
    → settled k s held ≡ true → settled (kind_after decision k s) s held ≡ true
unfolding kind_after sends
after_settles Silent k s held v e = e
after_settles Triggered k s held v e = sent_settles k s held (v refl) e
after_settles Reported k s held v e = sent_settles k s held (v refl) e

pub tick_settles : (x : Instance) → steady (ticked x).instance ≡ true
unfolding steady ticked closed
tick_settles x =
    let taken = taken_settles x.kind x.settings x.held in
    let kind = after_settles (decision_at x) (taken_kind x) x.settings x.held (λ e. only_valid x (sent_decided x ∙ e)) taken in
    rw (kind, same_self (eqb x.held.status 2))

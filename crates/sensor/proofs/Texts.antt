-- M-107: at resolution 8, 16 and 24 a light sensor built to the text of 2017 behaves as any other: the number compared is the same, so a tick
-- sends the same, and leaves the same but for the text.
-- Assumes nothing.
use Prim.Native.Nat.{ℕ, ◌*◌, ◌-◌, ◌<◌, ◌^◌}
use Rattle.sensor.proofs.Laws.{both}
use Rattle.sensor.specs.Fresh.{colour_fresh, declared, fresh, light_fresh, movement_fresh, occupancy_fresh}
use Rattle.sensor.specs.Instance.{with_kind}
use Rattle.sensor.specs.Kind.{allowing, allows, cancelled, catching, caught, cause, information, input, kept, repeat, resolution, rules, sensor_type, sent, taken, units}
use Rattle.sensor.specs.Light.{compared, compared_by, light_allows, light_cause, light_information, light_input, light_repeat, light_sent, light_taken, moved, outside, width, with_band}
use Rattle.sensor.specs.Text.{InRange, Shows, Takes, as_in, kind_as_in, light_as_in, whole_bytes}
use Rattle.sensor.specs.Tick.{closed, decision_at, holding, kind_after, sent_after, taken_kind, ticked}
use Rattle.sensor.specs.declared.instance.Instance.{Instance}
use Rattle.sensor.specs.declared.kind.Kind.TheVariants as kinds
use Rattle.sensor.specs.declared.kind.Kind.{Kind}
use Rattle.sensor.specs.declared.light.Basis.TheVariants.{Measured, Padded}
use Rattle.sensor.specs.declared.light.Basis.{Basis}
use Rattle.sensor.specs.declared.light.Light.{Light}
use Rattle.sensor.specs.declared.sensors.Sensor.TheVariants as sensors
use Rattle.sensor.specs.declared.sensors.Sensor.{Sensor}
use Rattle.sensor.specs.declared.settings.Sample.{Sample}
use Rattle.sensor.specs.declared.settings.Settings.{Settings}
use Rattle.std.specs.Prelude.{Some}
use Rattle.timers.specs.declared.Decision.TheVariants.{Reported, Silent, Triggered}
use Rattle.timers.specs.declared.Decision.{Decision}
use Rattle.widen.proofs.Laws.{whole}
use Rattle.widen.specs.Width.{input_bytes, input_value, widened}
use borrow.Author.Tests.{eqb-true, ltb-true}
use lib.Dec.{eqb, leb, ltb}
use lib.Pow.{pow_pos}
use mathlib.Core.Bool.{Bool, cond, false, false≢true, true, ◌&&◌, ◌||◌}
use mathlib.Core.Path.{ap, refl, sym, ◌∙◌, ◌≡◌}
use native.Mathlib.Nat.{mod-eq_of_lt}
use native.Mathlib.Omega.{arith}

-- ---- THE NUMBER COMPARED: input_value of a value that fills whole bytes is the value
pub whole_padded : (v r : ℕ) → whole_bytes r ≡ true → v < 2 ^ r → input_value v r ≡ v
whole_padded v r w h = go (eqb r 8) refl (eqb r 16) refl (eqb r 24) refl w
  where
    filled : 8 * input_bytes r ≡ r → input_value v r ≡ v
    filled e = ap (widened v r) e ∙ whole v r ∙ mod-eq_of_lt h

    go : (a : Bool) → eqb r 8 ≡ a → (b : Bool) → eqb r 16 ≡ b → (c : Bool) → eqb r 24 ≡ c → a || (b || c) ≡ true → input_value v r ≡ v
    go true e b f c g i = filled (omega (arith, eqb-true r 8 e))
    go false e true f c g i = filled (omega (arith, eqb-true r 16 f))
    go false e false f true g i = filled (omega (arith, eqb-true r 24 g))
    go false e false f false g i = absurd (false≢true i)

compared_as : (l : Light) → Shows (kinds.Light l) → compared (light_as_in l) ≡ compared l
compared_as l h = go l.basis (whole_bytes l.resolution) refl
  where
    go : (b : Basis) (w : Bool) → whole_bytes l.resolution ≡ w
        → compared_by (cond w Measured b) l.shown.value l.resolution ≡ compared_by b l.shown.value l.resolution
    go b false e = refl
    go Measured true e = refl
    go Padded true e = sym (whole_padded l.shown.value l.resolution e h)

-- ---- OF A KIND: what a tick asks of it
pub rules_as : (k : Kind) (s : Settings) → rules (kind_as_in k) s ≡ rules k s
unfolding rules repeat units
rules_as (kinds.Light l) s = refl
rules_as (kinds.Occupancy o) s = refl
rules_as (kinds.Movement m) s = refl
rules_as (kinds.Colour c) s = refl

taken_as : (k : Kind) (s : Settings) (held : Sample) → taken (kind_as_in k) s held ≡ kind_as_in (taken k s held)
unfolding taken light_taken
taken_as (kinds.Light l) s held = refl
taken_as (kinds.Occupancy o) s held = refl
taken_as (kinds.Movement m) s held = refl
taken_as (kinds.Colour c) s held = refl

cause_as : (k : Kind) (s : Settings) → Shows k → cause (kind_as_in k) s ≡ cause k s
unfolding cause light_cause
cause_as (kinds.Light l) s h = ap (λ v. (light_repeat s && ltb 0 s.hysteresis) && outside l.band v) (compared_as l h)
cause_as (kinds.Occupancy o) s h = refl
cause_as (kinds.Movement m) s h = refl
cause_as (kinds.Colour c) s h = refl

sent_as : (k : Kind) (s : Settings) → Shows k → sent (kind_as_in k) s ≡ kind_as_in (sent k s)
unfolding sent light_sent
sent_as (kinds.Light l) s h =
    ap (λ v. kinds.Light (light_as_in (with_band (Some (moved l.band v (width v s.hysteresis s.minimum))) l))) (compared_as l h)
sent_as (kinds.Occupancy o) s h = refl
sent_as (kinds.Movement m) s h = refl
sent_as (kinds.Colour c) s h = refl

information_as : (k : Kind) (repeats : Bool) → information (kind_as_in k) repeats ≡ information k repeats
unfolding information light_information
information_as (kinds.Light l) repeats = refl
information_as (kinds.Occupancy o) repeats = refl
information_as (kinds.Movement m) repeats = refl
information_as (kinds.Colour c) repeats = refl

after_as : (d : Decision) (k : Kind) (s : Settings) → Shows k → kind_after d (kind_as_in k) s ≡ kind_as_in (kind_after d k s)
unfolding kind_after
after_as Silent k s h = refl
after_as Triggered k s h = sent_as k s h
after_as Reported k s h = sent_as k s h

event_as : (d : Decision) (k : Kind) (s : Settings) → sent_after d (kind_as_in k) s ≡ sent_after d k s
unfolding sent_after
event_as Silent k s = refl
event_as Triggered k s = rw (information_as k false)
event_as Reported k s = rw (information_as k true)

-- once it has taken a sample of its resolution, it shows one
taken_shows : (k : Kind) (s : Settings) (held : Sample) → Takes k held → Shows (taken k s held)
unfolding taken light_taken
taken_shows (kinds.Light l) s held h = h
taken_shows (kinds.Occupancy o) s held h = tt
taken_shows (kinds.Movement m) s held h = tt
taken_shows (kinds.Colour c) s held h = tt

-- ---- A TICK sends the same, and leaves the same but for the text
pub tick_as : (x : Instance) → InRange x → ticked (as_in x) ≡ record { instance = as_in (ticked x).instance; sent = (ticked x).sent }
unfolding ticked closed
tick_as x f =
    let k = taken_kind x in
    let shows = taken_shows x.kind x.settings x.held f.holds in
    rw (
      taken_as x.kind x.settings x.held,
      rules_as k x.settings,
      cause_as k x.settings shows,
      after_as (decision_at x) k x.settings shows,
      event_as (decision_at x) k x.settings,
    )

-- ---- OF A KIND: what samples, commands and queries ask of it
pub allows_as : (k : Kind) (sample : Sample) → allows (kind_as_in k) sample ≡ allows k sample
unfolding allows light_allows
allows_as (kinds.Light l) sample = refl
allows_as (kinds.Occupancy o) sample = refl
allows_as (kinds.Movement m) sample = refl
allows_as (kinds.Colour c) sample = refl

pub type_as : (k : Kind) → sensor_type (kind_as_in k) ≡ sensor_type k
unfolding sensor_type
type_as (kinds.Light l) = refl
type_as (kinds.Occupancy o) = refl
type_as (kinds.Movement m) = refl
type_as (kinds.Colour c) = refl

pub resolution_as : (k : Kind) → resolution (kind_as_in k) ≡ resolution k
unfolding resolution
resolution_as (kinds.Light l) = refl
resolution_as (kinds.Occupancy o) = refl
resolution_as (kinds.Movement m) = refl
resolution_as (kinds.Colour c) = refl

pub kept_as : (k : Kind) → kept (kind_as_in k) ≡ kept k
unfolding kept
kept_as (kinds.Light l) = refl
kept_as (kinds.Occupancy o) = refl
kept_as (kinds.Movement m) = refl
kept_as (kinds.Colour c) = refl

pub input_as : (k : Kind) → input (kind_as_in k) ≡ input k
unfolding input light_input
input_as (kinds.Light l) = refl
input_as (kinds.Occupancy o) = refl
input_as (kinds.Movement m) = refl
input_as (kinds.Colour c) = refl

pub allowing_as : (k : Kind) (allowed : ℕ) → allowing (kind_as_in k) allowed ≡ kind_as_in (allowing k allowed)
unfolding allowing
allowing_as (kinds.Light l) allowed = refl
allowing_as (kinds.Occupancy o) allowed = refl
allowing_as (kinds.Movement m) allowed = refl
allowing_as (kinds.Colour c) allowed = refl

pub caught_as : (k : Kind) (s : Settings) → caught (kind_as_in k) s ≡ kind_as_in (caught k s)
unfolding caught
caught_as (kinds.Light l) s = refl
caught_as (kinds.Occupancy o) s = refl
caught_as (kinds.Movement m) s = refl
caught_as (kinds.Colour c) s = refl

pub cancelled_as : (k : Kind) → cancelled (kind_as_in k) ≡ kind_as_in (cancelled k)
unfolding cancelled
cancelled_as (kinds.Light l) = refl
cancelled_as (kinds.Occupancy o) = refl
cancelled_as (kinds.Movement m) = refl
cancelled_as (kinds.Colour c) = refl

pub catching_as : (k : Kind) → catching (kind_as_in k) ≡ catching k
unfolding catching
catching_as (kinds.Light l) = refl
catching_as (kinds.Occupancy o) = refl
catching_as (kinds.Movement m) = refl
catching_as (kinds.Colour c) = refl

-- ---- THE RANGE is kept
sent_shows : (k : Kind) (s : Settings) → Shows k → Shows (sent k s)
unfolding sent light_sent
sent_shows (kinds.Light l) s h = h
sent_shows (kinds.Occupancy o) s h = tt
sent_shows (kinds.Movement m) s h = tt
sent_shows (kinds.Colour c) s h = tt

sent_takes : (k : Kind) (s : Settings) (held : Sample) → Takes k held → Takes (sent k s) held
unfolding sent light_sent
sent_takes (kinds.Light l) s held h = h
sent_takes (kinds.Occupancy o) s held h = tt
sent_takes (kinds.Movement m) s held h = tt
sent_takes (kinds.Colour c) s held h = tt

taken_takes : (k : Kind) (s : Settings) (held : Sample) → Takes k held → Takes (taken k s held) held
unfolding taken light_taken
taken_takes (kinds.Light l) s held h = h
taken_takes (kinds.Occupancy o) s held h = tt
taken_takes (kinds.Movement m) s held h = tt
taken_takes (kinds.Colour c) s held h = tt

pub tick_in_range : (x : Instance) → InRange x → InRange (ticked x).instance
unfolding ticked closed kind_after
tick_in_range x f =
    go (decision_at x) (taken_shows x.kind x.settings x.held f.holds) (taken_takes x.kind x.settings x.held f.holds)
  where
    go : (d : Decision) → Shows (taken_kind x) → Takes (taken_kind x) x.held
        → InRange (with_kind (kind_after d (taken_kind x) x.settings) (ticked x).instance)
    go Silent shows takes = record { shows = shows; holds = takes }
    go Triggered shows takes = record { shows = sent_shows (taken_kind x) x.settings shows; holds = sent_takes (taken_kind x) x.settings x.held takes }
    go Reported shows takes = record { shows = sent_shows (taken_kind x) x.settings shows; holds = sent_takes (taken_kind x) x.settings x.held takes }

-- a sample that the type allows is a value of its resolution
allowed_takes : (k : Kind) (sample : Sample) → allows k sample ≡ true → Takes k sample
unfolding allows light_allows
allowed_takes (kinds.Occupancy o) sample e = tt
allowed_takes (kinds.Movement m) sample e = tt
allowed_takes (kinds.Colour c) sample e = tt
allowed_takes (kinds.Light l) sample e = go (eqb sample.status 0) e
  where
    go : (b : Bool) → cond b (ltb sample.value (2 ^ l.resolution - 1)) (leb sample.status 2 && eqb sample.value 0) ≡ true
        → sample.value < 2 ^ l.resolution
    go true t = omega (arith, ltb-true sample.value (2 ^ l.resolution - 1) t)
    go false t = rw (eqb-true sample.value 0 (both (leb sample.status 2) (eqb sample.value 0) t).1) (pow_pos l.resolution)

pub hold_in_range : (x : Instance) (sample : Sample) → InRange x → allows x.kind sample ≡ true → InRange (holding x sample)
unfolding holding
hold_in_range x sample f e = record { shows = f.shows; holds = allowed_takes x.kind sample e }

pub declared_in_range : (sensor : Sensor) → InRange (declared sensor)
unfolding declared colour_fresh light_fresh movement_fresh occupancy_fresh fresh
declared_in_range sensors.Occupancy = record { shows = tt; holds = tt }
declared_in_range sensors.Movement = record { shows = tt; holds = tt }
declared_in_range sensors.Colour = record { shows = tt; holds = tt }
declared_in_range (sensors.Light r) = record { shows = pow_pos r; holds = pow_pos r }
declared_in_range (sensors.LightOf2017 r) = record { shows = pow_pos r; holds = pow_pos r }

-- ---- LO and IN declare the same but for the text
pub declared_as : (r : ℕ) → whole_bytes r ≡ true → as_in (declared (sensors.LightOf2017 r)) ≡ as_in (declared (sensors.Light r))
unfolding declared light_fresh fresh rules repeat units
declared_as r w = rw w

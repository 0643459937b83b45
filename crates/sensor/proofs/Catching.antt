-- M-100: with Movement out of the filter, an event that has Movement among its causes is one that catching let through, and ends it.
-- Assumes nothing.
use Prim.Native.Nat.{ℕ, max, min, ◌%◌, ◌+◌, ◌/◌, ◌≤◌}
use Rattle.sensor.specs.Kind.{allowing, cancelled, sent, taken}
use Rattle.sensor.specs.Movement.{letting, movement_allowing, movement_cancelled, movement_sent, movement_taken, seen_after, shown}
use Rattle.sensor.specs.Moving.{movement_goes_out, movement_in, movement_waits, owed}
use Rattle.sensor.specs.Occupancy.{occupancy_allowing, occupancy_sent, occupancy_taken, waits}
use Rattle.sensor.specs.Tick.{closed, decision_at, is_event, kind_after, sent_after, taken_kind, ticked}
use Rattle.sensor.specs.declared.instance.Instance.{Instance}
use Rattle.sensor.specs.declared.kind.Kind.TheVariants as kinds
use Rattle.sensor.specs.declared.kind.Kind.{Kind}
use Rattle.sensor.specs.declared.movement.Movement.{Movement}
use Rattle.sensor.specs.declared.settings.Sample.{Sample}
use Rattle.sensor.specs.declared.settings.Settings.{Settings}
use Rattle.timers.specs.declared.Decision.TheVariants.{Reported, Silent, Triggered}
use Rattle.timers.specs.declared.Decision.{Decision}
use borrow.Author.Tests.{eqb-true}
use lib.Bits.{and_shr, and_step, bit_and, bit_or, or_shr, or_step}
use lib.Dec.{eqb}
use mathlib.Core.Bool.{Bool, cond, false, true, ◌&&◌}
use mathlib.Core.Path.{◌≡◌, ap, refl, ◌∙◌}
use native.Mathlib.Omega.{arith}

-- ---- the bit of Movement
in_or : (a b : ℕ) → movement_in (bit_or a b) ≡ max (movement_in a) (movement_in b)
in_or a b = ap (λ n. n % 2) (or_shr a b 3) ∙ omega (arith, or_step (a / 8) (b / 8))

in_and : (a b : ℕ) → movement_in (bit_and a b) ≡ min (movement_in a) (movement_in b)
in_and a b = ap (λ n. n % 2) (and_shr a b 3) ∙ omega (arith, and_step (a / 8) (b / 8))

-- ---- a tick takes a sample: Movement waits only where it did, or is caught
abbrev catches : Bool → ℕ
catches catching = cond catching 1 0

module _ (m : Movement) (s : Settings) (clear : movement_in s.filter ≡ 0) where
  lets : movement_in (letting m s).filter ≤ catches m.catching
  unfolding letting
  lets = go m.catching
    where
      go : (catching : Bool) → movement_in (cond catching (bit_or s.filter 8) s.filter) ≤ catches catching
      go true = omega arith
      go false = omega (arith, clear)

  waits_owed : (came : ℕ) → movement_in (waits (letting m s) m.seen.waiting came) ≤ owed (kinds.Movement m)
  unfolding waits
  waits_owed came = go (letting m s).enabled
    where
      go : (enabled : Bool) → movement_in (cond enabled (bit_or m.seen.waiting (bit_and came (letting m s).filter)) 0) ≤ owed (kinds.Movement m)
      go true = rw (in_or m.seen.waiting (bit_and came (letting m s).filter), in_and came (letting m s).filter) (omega (arith, lets))
      go false = omega arith

  seen_owed : (held : Sample) → movement_in (seen_after m s held).waiting ≤ owed (kinds.Movement m)
  unfolding occupancy_taken shown
  seen_owed held = go (eqb held.status 0) refl
    where
      go : (valid : Bool) → eqb held.status 0 ≡ valid → movement_in (seen_after m s held).waiting ≤ owed (kinds.Movement m)
      go true e = rw e (waits_owed _)
      go false e = rw e (omega arith)

taken_owed : (k : Kind) (s : Settings) (held : Sample) → movement_in s.filter ≡ 0 → owed (taken k s held) ≤ owed k
unfolding taken movement_taken
taken_owed (kinds.Light l) s held clear = omega arith
taken_owed (kinds.Occupancy o) s held clear = omega arith
taken_owed (kinds.Movement m) s held clear = omega (arith, seen_owed m s clear held)
taken_owed (kinds.Colour c) s held clear = omega arith

-- ---- an event clears what waits; one that has Movement among its causes ends catching
caught_sent : (catching : Bool) (n : ℕ) → n + max (catches (catching && eqb n 0)) 0 ≤ max (catches catching) n
caught_sent false n = omega arith
caught_sent true n = go (eqb n 0) refl
  where
    go : (none : Bool) → eqb n 0 ≡ none → n + max (catches none) 0 ≤ max 1 n
    go true e = omega (arith, eqb-true n 0 e)
    go false e = omega arith

sent_owed : (k : Kind) (s : Settings) → movement_waits k + owed (sent k s) ≤ owed k
unfolding sent movement_sent occupancy_sent
sent_owed (kinds.Light l) s = omega arith
sent_owed (kinds.Occupancy o) s = omega arith
sent_owed (kinds.Movement m) s = caught_sent m.catching (movement_in m.seen.waiting)
sent_owed (kinds.Colour c) s = omega arith

-- ---- A TICK, with Movement out of the filter: what it sends for a movement is owed no longer
pub tick_owed : (x : Instance) → movement_in x.settings.filter ≡ 0 → movement_goes_out x + owed (ticked x).instance.kind ≤ owed x.kind
unfolding ticked closed kind_after sent_after
tick_owed x clear = go (decision_at x)
  where
    took : owed (taken_kind x) ≤ owed x.kind
    took = taken_owed x.kind x.settings x.held clear

    go : (d : Decision) → cond (is_event (sent_after d (taken_kind x) x.settings)) (movement_waits (taken_kind x)) 0 + owed (kind_after d (taken_kind x) x.settings) ≤ owed x.kind
    go Silent = omega (arith, took)
    go Triggered = omega (arith, took, sent_owed (taken_kind x) x.settings)
    go Reported = omega (arith, took, sent_owed (taken_kind x) x.settings)

-- ---- a filter and a cancelled hold owe no more
pub allowing_owed : (k : Kind) (allowed : ℕ) → owed (allowing k allowed) ≤ owed k
unfolding allowing movement_allowing occupancy_allowing
allowing_owed (kinds.Light l) allowed = omega arith
allowing_owed (kinds.Occupancy o) allowed = omega arith
allowing_owed (kinds.Movement m) allowed = omega (arith, in_and m.seen.waiting allowed)
allowing_owed (kinds.Colour c) allowed = omega arith

pub cancelled_owed : (k : Kind) → owed (cancelled k) ≡ owed k
unfolding cancelled movement_cancelled
cancelled_owed (kinds.Light l) = refl
cancelled_owed (kinds.Occupancy o) = refl
cancelled_owed (kinds.Movement m) = refl
cancelled_owed (kinds.Colour c) = refl

-- ---- no more than one is ever owed
pub owed_most : (k : Kind) → owed k ≤ 1
owed_most (kinds.Light l) = omega arith
owed_most (kinds.Occupancy o) = omega arith
owed_most (kinds.Colour c) = omega arith
owed_most (kinds.Movement m) = go m.catching
  where
    go : (catching : Bool) → max (catches catching) (movement_in m.seen.waiting) ≤ 1
    go true = omega arith
    go false = omega arith

-- M-107: what byte 3 does asks nothing of the text that a light sensor was built to, and leaves it.
-- Assumes nothing.
use Prim.Native.Nat.{ℕ}
use Rattle.command.proofs.Laws.{command_by, control_changes}
use Rattle.command.proofs.Variables.{value_alike}
use Rattle.command.specs.Answering.{acted, acted_by, answered, leaving, queried, value_of}
use Rattle.command.specs.Controlling.{ButHoldAndCatching, controlled, controlled_kind}
use Rattle.command.specs.Setting.{block_changed, filtered, obeyed}
use Rattle.command.specs.declared.answering.Acted.{Acted}
use Rattle.opcode.specs.Meaning.{meant}
use Rattle.opcode.specs.declared.Command.{Command}
use Rattle.opcode.specs.declared.Control.TheVariants.{CancelHold, CatchMovement}
use Rattle.opcode.specs.declared.Control.{Control}
use Rattle.opcode.specs.declared.Meaning.TheVariants.{Act, Ask, Ignored, Set}
use Rattle.opcode.specs.declared.Meaning.{Meaning}
use Rattle.opcode.specs.declared.Query.TheVariants.{QueryColourSensor, QueryNext, QueryValue, QueryVariable}
use Rattle.opcode.specs.declared.Query.{Query}
use Rattle.opcode.specs.declared.Variable.{Variable}
use Rattle.sensor.proofs.Texts.{allowing_as, cancelled_as, catching_as, caught_as, input_as, kept_as, resolution_as, rules_as, type_as}
use Rattle.sensor.specs.Kind.{allowing}
use Rattle.sensor.specs.Text.{InRange, Shows, Takes, as_in, kind_as_in}
use Rattle.sensor.specs.declared.instance.Instance.{Instance}
use Rattle.sensor.specs.declared.kind.Kind.TheVariants.{Colour, Light, Movement, Occupancy}
use Rattle.sensor.specs.declared.kind.Kind.{Kind}
use Rattle.sensor.specs.declared.movement.Movement.{Movement as MovementState}
use Rattle.sensor.specs.declared.settings.Sample.{Sample}
use Rattle.sensor.specs.declared.settings.Settings.{Settings}
use mathlib.Core.Path.{ap, refl, subst, sym, ◌≡◌}

pub meant_as : (k : Kind) (opcode : ℕ) → meant (kind_as_in k) opcode ≡ meant k opcode
unfolding meant
meant_as (Light l) opcode = refl
meant_as (Occupancy o) opcode = refl
meant_as (Movement m) opcode = refl
meant_as (Colour c) opcode = refl

filtered_as : (k : Kind) (c : Command) (filter : ℕ) → filtered (kind_as_in k) c filter ≡ kind_as_in (filtered k c filter)
filtered_as k c filter = command_by (λ a b. a ≡ kind_as_in b) (kind_as_in k) k c filter refl (allowing_as k)

controlled_as : (k : Kind) (c : Control) (s : Settings) → controlled_kind (kind_as_in k) c s ≡ kind_as_in (controlled_kind k c s)
unfolding controlled_kind
controlled_as k CatchMovement s = caught_as k s
controlled_as k CancelHold s = cancelled_as k

-- the same, but for the text
abbrev like : Acted → Acted
like a = leaving (as_in a.instance) a.dtr0 a.answer

module _ (x : Instance) where
  value_as : (v : Variable) → value_of (as_in x) v ≡ value_of x v
  value_as v = value_alike x (as_in x) (type_as x.kind) (resolution_as x.kind) (catching_as x.kind) refl refl v

  query_as : (q : Query) (d : ℕ) → queried (as_in x) q d ≡ like (queried x q d)
  unfolding answered queried
  query_as (QueryVariable v) d = ap (leaving (as_in x) d) (value_as v)
  query_as QueryValue d = rw (input_as x.kind, resolution_as x.kind)
  query_as QueryNext d = refl
  query_as QueryColourSensor d = refl

  by_as : (m : Meaning) (d : ℕ) → acted_by (as_in x) m d ≡ like (acted_by x m d)
  unfolding acted_by block_changed controlled obeyed
  by_as (Set c) d = rw (kept_as x.kind, rules_as x.kind, filtered_as x.kind c)
  by_as (Act c) d = rw (controlled_as x.kind c x.settings)
  by_as (Ask q) d = query_as q d
  by_as Ignored d = refl

  pub act_as : (opcode dtr0 : ℕ) → acted (as_in x) opcode dtr0 ≡ like (acted x opcode dtr0)
  unfolding acted
  act_as opcode dtr0 = rw (meant_as x.kind opcode) (by_as (meant x.kind opcode) dtr0)

-- ---- the range is kept
allowing_shows : (k : Kind) (allowed : ℕ) → Shows k → Shows (allowing k allowed)
unfolding allowing
allowing_shows (Light l) allowed h = h
allowing_shows (Occupancy o) allowed h = tt
allowing_shows (Movement m) allowed h = tt
allowing_shows (Colour c) allowed h = tt

allowing_takes : (k : Kind) (allowed : ℕ) (sample : Sample) → Takes k sample → Takes (allowing k allowed) sample
unfolding allowing
allowing_takes (Light l) allowed sample h = h
allowing_takes (Occupancy o) allowed sample h = tt
allowing_takes (Movement m) allowed sample h = tt
allowing_takes (Colour c) allowed sample h = tt

-- a control instruction changes a movement sensor alone, whose value has no range
control_by : (P : Kind → Type 0) (k j : Kind) → ButHoldAndCatching k j → P k → ((m : MovementState) → P (Movement m)) → P j
control_by P (Light l) j e was any = subst P (sym e) was
control_by P (Occupancy o) j e was any = subst P (sym e) was
control_by P (Movement m) j (left, catching, e) was any = subst P (sym e) (any _)
control_by P (Colour c) j e was any = subst P (sym e) was

module _ (x : Instance) (f : InRange x) where
  obeyed_in_range : (c : Command) (d : ℕ) → InRange (obeyed x c d)
  unfolding obeyed block_changed
  obeyed_in_range c d = record {
    shows = command_by (λ _ k. Shows k) x.kind x.kind c _ f.shows (λ allowed. allowing_shows x.kind allowed f.shows);
    holds = command_by (λ _ k. Takes k x.held) x.kind x.kind c _ f.holds (λ allowed. allowing_takes x.kind allowed x.held f.holds);
  }

  controlled_in_range : (c : Control) → InRange (controlled x c)
  unfolding controlled
  controlled_in_range c =
      let but = (control_changes x c).0 in
      record { shows = control_by Shows x.kind _ but f.shows (λ m. tt); holds = control_by (λ k. Takes k x.held) x.kind _ but f.holds (λ m. tt) }

  query_in_range : (q : Query) (d : ℕ) → InRange (queried x q d).instance
  unfolding queried answered
  query_in_range (QueryVariable v) d = f
  query_in_range QueryValue d = record { shows = f.shows; holds = f.holds }
  query_in_range QueryNext d = record { shows = f.shows; holds = f.holds }
  query_in_range QueryColourSensor d = f

  pub act_in_range : (opcode dtr0 : ℕ) → InRange (acted x opcode dtr0).instance
  unfolding acted acted_by
  act_in_range opcode dtr0 = go (meant x.kind opcode)
    where
      go : (m : Meaning) → InRange (acted_by x m dtr0).instance
      go (Set c) = obeyed_in_range c dtr0
      go (Act c) = controlled_in_range c
      go (Ask q) = query_in_range q dtr0
      go Ignored = f

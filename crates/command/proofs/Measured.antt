-- M-110: what byte 3 does neither reads nor changes whether a valid sample was taken for the instance.
-- Assumes nothing.
use Prim.Native.Nat.{ℕ}
use Rattle.command.proofs.Variables.{value_alike}
use Rattle.command.specs.Answering.{acted, acted_by, answered, leaving, queried, value_of}
use Rattle.command.specs.Controlling.{controlled}
use Rattle.command.specs.Setting.{block_changed, obeyed}
use Rattle.command.specs.declared.answering.Acted.{Acted}
use Rattle.opcode.specs.Meaning.{meant}
use Rattle.opcode.specs.declared.Meaning.TheVariants.{Act, Ask, Ignored, Set}
use Rattle.opcode.specs.declared.Meaning.{Meaning}
use Rattle.opcode.specs.declared.Query.TheVariants.{QueryColourSensor, QueryNext, QueryValue, QueryVariable}
use Rattle.opcode.specs.declared.Query.{Query}
use Rattle.opcode.specs.declared.Variable.{Variable}
use Rattle.sensor.specs.Instance.{with_measured}
use Rattle.sensor.specs.declared.instance.Instance.{Instance}
use mathlib.Core.Bool.{Bool}
use mathlib.Core.Path.{ap, refl, ◌≡◌}

-- the same, but for what is remembered
abbrev but : Bool → Acted → Acted
but b a = leaving (with_measured b a.instance) a.dtr0 a.answer

module _ (x : Instance) (b : Bool) where
  value_unread : (v : Variable) → value_of (with_measured b x) v ≡ value_of x v
  value_unread v = value_alike x (with_measured b x) refl refl refl refl refl v

  query_unread : (q : Query) (d : ℕ) → queried (with_measured b x) q d ≡ but b (queried x q d)
  unfolding answered queried
  query_unread (QueryVariable v) d = ap (leaving (with_measured b x) d) (value_unread v)
  query_unread QueryValue d = refl
  query_unread QueryNext d = refl
  query_unread QueryColourSensor d = refl

  by_unread : (m : Meaning) (d : ℕ) → acted_by (with_measured b x) m d ≡ but b (acted_by x m d)
  unfolding acted_by block_changed controlled obeyed
  by_unread (Set c) d = refl
  by_unread (Act c) d = refl
  by_unread (Ask q) d = query_unread q d
  by_unread Ignored d = refl

  pub act_unread : (opcode dtr0 : ℕ) → acted (with_measured b x) opcode dtr0 ≡ but b (acted x opcode dtr0)
  unfolding acted
  act_unread opcode dtr0 = by_unread (meant x.kind opcode) dtr0

pub act_measured : (x : Instance) (opcode dtr0 : ℕ) → (acted x opcode dtr0).instance.measured ≡ x.measured
act_measured x opcode dtr0 = ap (λ a. a.instance.measured) (act_unread x x.measured opcode dtr0)

-- M-100: what byte 3 makes of a movement sensor's value, of its hold timer and of what it owes for a movement that is caught.
-- Assumes nothing.
use Prim.Native.Nat.{ℕ, ◌≤◌}
use Rattle.command.proofs.Laws.{command_by, query_keeps}
use Rattle.command.specs.Answering.{acted, acted_by}
use Rattle.command.specs.Controlling.{controlled, controlled_kind}
use Rattle.command.specs.Setting.{block_changed, obeyed}
use Rattle.opcode.specs.Meaning.{meant}
use Rattle.opcode.specs.declared.Control.TheVariants.{CancelHold, CatchMovement}
use Rattle.opcode.specs.declared.Control.{Control}
use Rattle.opcode.specs.declared.Meaning.TheVariants.{Act, Ask, Ignored, Set}
use Rattle.opcode.specs.declared.Meaning.{Meaning}
use Rattle.sensor.proofs.Catching.{allowing_owed, cancelled_owed}
use Rattle.sensor.specs.Kind.{allowing, caught}
use Rattle.sensor.specs.Movement.{movement_allowing, movement_caught}
use Rattle.sensor.specs.Moving.{Area, owed}
use Rattle.sensor.specs.Occupancy.{occupancy_allowing}
use Rattle.sensor.specs.declared.instance.Instance.{Instance}
use Rattle.sensor.specs.declared.kind.Kind.{Kind}
use Rattle.sensor.specs.declared.settings.Settings.{Settings}
use mathlib.Core.Logic.{◌≢◌}
use mathlib.Core.Path.{ap, refl, subst, sym, ◌≡◌}
use native.Mathlib.Omega.{arith}

-- ---- byte 3 leaves the sensor as it is, with fewer triggers waiting, or as a control instruction leaves it
module _ (P : Kind → Type 0) where
  meaning_by : (x : Instance) (m : Meaning) (d : ℕ) → P x.kind → ((allowed : ℕ) → P (allowing x.kind allowed))
      → ((c : Control) → m ≡ Act c → P (controlled_kind x.kind c x.settings)) → P (acted_by x m d).instance.kind
  unfolding acted_by controlled obeyed block_changed
  meaning_by x (Set c) d was fewer acts = command_by (λ _ k. P k) x.kind x.kind c _ was fewer
  meaning_by x (Act c) d was fewer acts = acts c refl
  meaning_by x (Ask q) d was fewer acts = subst P (sym (ap (λ y. y.kind) (query_keeps x q d))) was
  meaning_by x Ignored d was fewer acts = was

-- ---- the value and the hold timer: all but cancel hold leaves them
allowing_area : (k : Kind) (allowed : ℕ) {value left : ℕ} → Area k value left → Area (allowing k allowed) value left
unfolding allowing movement_allowing occupancy_allowing
allowing_area k allowed a = record { sensor = movement_allowing a.sensor allowed; is = rw a.is; shows = a.shows; holds = a.holds }

caught_area : (k : Kind) (s : Settings) {value left : ℕ} → Area k value left → Area (caught k s) value left
unfolding caught movement_caught
caught_area k s a = record { sensor = movement_caught a.sensor s; is = rw a.is; shows = a.shows; holds = a.holds }

pub act_area : (x : Instance) (opcode dtr0 : ℕ) {value left : ℕ} → meant x.kind opcode ≢ Act CancelHold
    → Area x.kind value left → Area (acted x opcode dtr0).instance.kind value left
unfolding acted controlled_kind
act_area x opcode dtr0 {value} {left} none a =
    meaning_by (λ k. Area k value left) x (meant x.kind opcode) dtr0 a (λ allowed. allowing_area x.kind allowed a) acts
  where
    acts : (c : Control) → meant x.kind opcode ≡ Act c → Area (controlled_kind x.kind c x.settings) value left
    acts CatchMovement e = caught_area x.kind x.settings a
    acts CancelHold e = absurd (none e)

-- ---- what is owed: all but catch movement leaves no more
pub act_owed : (x : Instance) (opcode dtr0 : ℕ) → meant x.kind opcode ≢ Act CatchMovement → owed (acted x opcode dtr0).instance.kind ≤ owed x.kind
unfolding acted controlled_kind
act_owed x opcode dtr0 none =
    meaning_by (λ k. owed k ≤ owed x.kind) x (meant x.kind opcode) dtr0 (omega arith) (allowing_owed x.kind) acts
  where
    acts : (c : Control) → meant x.kind opcode ≡ Act c → owed (controlled_kind x.kind c x.settings) ≤ owed x.kind
    acts CatchMovement e = absurd (none e)
    acts CancelHold e = omega (arith, cancelled_owed x.kind)

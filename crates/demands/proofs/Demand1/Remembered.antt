-- M-110: what the model remembers of valid samples is what happened.
-- Assumes nothing.
use Prim.Native.Nat.{ℕ, ◌<◌}
use Rattle.demands.proofs.Shared.OneInstance.{happen_present, held_own, ticked_own}
use Rattle.demands.proofs.Shared.Runs.{session_model}
use Rattle.demands.specs.Alone.{Present}
use Rattle.demands.specs.Happenings.{Happening, carried, declare, frame, happen, hold, model_after, tick}
use Rattle.demands.specs.Numbers.{measured_in, measures}
use Rattle.device.proofs.Instances.{frame_measured}
use Rattle.device.proofs.Laws.{declared_here, declared_other, held_other}
use Rattle.device.specs.Device.{declared_model, held_model, instance_at}
use Rattle.device.specs.declared.model.Model.{Model}
use Rattle.sensor.proofs.Fresh.{fresh}
use Rattle.sensor.proofs.Measured.{sample_measured, tick_measured}
use Rattle.sensor.specs.declared.sensors.Sensor.{Sensor}
use Rattle.sensor.specs.declared.settings.Sample.{Sample}
use Rattle.session.specs.Session.{session}
use borrow.Author.Tests.{eq-eqb, ne_eqb}
use lib.Dec.{eqb}
use lib.ListN.{length}
use mathlib.Core.Bool.{Bool, false, or_assoc, or-false, ◌&&◌, ◌||◌}
use mathlib.Core.List.{List, [], ◌∷◌}
use mathlib.Core.Path.{ap, sym, ◌∙◌, ◌≡◌}
use native.Mathlib.Decide.{ℕ_discrete}
use native.Mathlib.Omega.{arith}

-- as declared it has had no valid sample
pub declared_measured : (m : Model) (sensor : Sensor) → length m.instances ≡ 16 → m.declared < 16
    → (instance_at (declared_model m sensor) m.declared).measured ≡ false
declared_measured m sensor all h = ap (λ x. x.measured) (declared_here m sensor all h) ∙ (fresh sensor).measured

-- what is as it was
kept : {a b : Bool} → b ≡ a → b ≡ (a || false)
kept {a} e = e ∙ sym (or-false a)

module _ {i : ℕ} where
  held_measured : (m : Model) → Present i m → (j : ℕ) (sample : Sample)
      → (instance_at (held_model m j sample) i).measured ≡ ((instance_at m i).measured || (eqb j i && eqb sample.status 0))
  held_measured m p j sample = by (ℕ_discrete i j)
    where
      by : Dec (i ≡ j) → (instance_at (held_model m j sample) i).measured ≡ ((instance_at m i).measured || (eqb j i && eqb sample.status 0))
      by (yes same) = rw (eq-eqb j i (sym same), sym same) (ap (λ x. x.measured) (held_own sample p) ∙ sample_measured (instance_at m i) sample)
      by (no other) = rw (ne_eqb j i (λ e. other (sym e))) (kept (ap (λ x. x.measured) (held_other m j sample i other)))

  happen_measured : (m : Model) → Present i m → (h : Happening) → (instance_at (happen m h) i).measured ≡ ((instance_at m i).measured || measures i h)
  happen_measured m p (declare sensor) = kept (ap (λ x. x.measured) (declared_other m sensor i (λ e. omega (arith, p.declared))))
  happen_measured m p (hold j sample) = held_measured m p j sample
  happen_measured m p (frame first second third) = kept (frame_measured m first second third i)
  happen_measured m p tick = kept (ap (λ x. x.measured) (ticked_own p) ∙ tick_measured (instance_at m i))

  -- after a run it has had one where it had one before, or where one was taken for it
  run_measured : (m : Model) → Present i m → (hs : List Happening)
      → (instance_at (model_after m hs) i).measured ≡ ((instance_at m i).measured || measured_in i hs)
  unfolding measured_in model_after
  run_measured m p [] = sym (or-false (instance_at m i).measured)
  run_measured m p (h ∷ hs) =
      run_measured (happen m h) (happen_present m h p) hs
      ∙ ap (λ b. b || measured_in i hs) (happen_measured m p h)
      ∙ or_assoc (instance_at m i).measured (measures i h) (measured_in i hs)

  pub session_measured : (m : Model) → Present i m → (xs : List ℕ) (room : ℕ)
      → (instance_at (session m xs room).model i).measured ≡ ((instance_at m i).measured || measured_in i (carried m xs room))
  session_measured m p xs room = ap (λ k. (instance_at k i).measured) (session_model m xs room) ∙ run_measured m p (carried m xs room)

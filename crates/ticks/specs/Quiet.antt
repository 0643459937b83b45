-- Ticks at which no instance sends are carried out in one step: how many there are, and the device after them.
-- Assumes nothing.
use Rattle.std.specs.Prelude.{ℕ, max, min, ◌+◌, ◌-◌, eqb, leb, ltb, take, Bool, cond, ◌&&◌, List, [], ◌∷◌, Err, Ok, Result, length, ◌≡◌}
use Rattle.device.specs.Device.{Offered, came, under_way, offered, with_instances, with_tick}
use Rattle.device.specs.declared.model.Full.{Full}
use Rattle.device.specs.declared.model.Model.{Model}
use Rattle.record.specs.Log.{Logged, bytes_of}
use Rattle.record.specs.Put.{Appended}
use Rattle.sensor.specs.Quiet.{quiet_for, rested}
use Rattle.sensor.specs.declared.instance.Instance.{Instance}
use Rattle.ticks.specs.Tick.{sweep, tick_log, tick_model}
use Rattle.ticks.specs.declared.passing.Passed.{Passed}

-- ---- of the next `most` ticks, those up to the first at which an instance may send
unfoldable pub quiet_all : (most : ℕ) → List Instance → ℕ
quiet_all most [] = most
quiet_all most (x ∷ xs) = min (quiet_for x) (quiet_all most xs)

unfoldable pub quiet_ticks : Model → (most : ℕ) → ℕ
quiet_ticks m most = quiet_all most (take m.declared m.instances)

-- the device after n such ticks
unfoldable pub rest_model : Model → (n : ℕ) → Model
rest_model m n = under_way (with_tick (m.tick + n) (with_instances (sweep m.declared (λ (x : Instance). rested x n) m.instances) m))

-- ---- one step: the quiet ticks; or, where the next is none of them, that tick
-- there are ticks left, and numbers for them: no tick number passes 4,294,967,295
unfoldable pub in_time : Model → (most : ℕ) → Bool
in_time m most = ltb 0 most && leb most (4294967295 - m.tick)

unfoldable pub pass_ticks : Model → (most : ℕ) → ℕ
pass_ticks m most = cond (in_time m most) (max 1 (quiet_ticks m most)) 0

unfoldable pub pass_model : Model → (most : ℕ) → Model
pass_model m most = cond (in_time m most) (cond (eqb (quiet_ticks m most) 0) (tick_model m) (rest_model m (quiet_ticks m most))) m

unfoldable pub pass_log : Model → (most : ℕ) → List Logged
pass_log m most = cond (in_time m most) (cond (eqb (quiet_ticks m most) 0) (tick_log m) []) []

-- what came of a step: how many ticks it was, and what they offered
pub record Passing : Type 0 where
  pub ticks : ℕ
  pub offered : Offered

unfoldable pub passed : Model → (most room : ℕ) → Passing
passed m most room = record { ticks = pass_ticks m most; offered = offered m (pass_model m most) (pass_log m most) room }

-- what came of it, by the device after it and what is handed back: a step that does not fit is one tick
abbrev pub stepped : Model → Result Passed Full → Passing
stepped m (Ok p) = record { ticks = p.ticks; offered = came m (Ok p.written) }
stepped m (Err full) = record { ticks = 1; offered = came m (Err full) }

-- a step was offered to the output's tail: the device is m' then, the tail tail', and r is handed back
pub record Steps (m : Model) (most : ℕ) (m' : Model) (r : Result Passed Full) (tail tail' : List ℕ) : Type 0 where
  pub taken : stepped m' r ≡ passed m most (length tail)
  pub appended : Appended 0 (bytes_of (pass_log m most)) tail tail' (stepped m' r).offered.written

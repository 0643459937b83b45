-- Records that do not fit: the test for room, an answer that is refused, and the records of the next tick.
-- Assumes nothing.
use Prim.Native.Nat.{ℕ, ◌-◌}
use Rattle.demands.specs.Happenings.{log_after, model_after}
use Rattle.demands.specs.Numbers.{NoRoom, NoRoomAfter}
use Rattle.device.specs.Frame.{frame_log}
use Rattle.device.specs.declared.model.Model.{Model}
use Rattle.judging.specs.declared.asked.Asked.TheVariants.{Frame}
use Rattle.judging.specs.declared.asked.Refusal.{Refusal}
use Rattle.record.specs.Log.{Logged, bytes_of}
use Rattle.session.proofs.Kept.{taken≢refused}
use Rattle.session.specs.Session.{fits, refused, step}
use Rattle.std.specs.Prelude.{Ok}
use Rattle.ticks.specs.Tick.{tick_log}
use borrow.Author.Tests.{le-leb, leb-false, lt-leb}
use lib.ListN.{length}
use mathlib.Core.Bool.{Bool, false, true, true≢false}
use mathlib.Core.List.{List, append-nil}
use mathlib.Core.Path.{refl, sym, ◌∙◌, ◌≡◌}
use native.Mathlib.Omega.{arith}

-- ---- the test for room
pub no_room : (room : ℕ) (log more : List Logged) → fits room log more ≡ false → NoRoom room log more
unfolding fits
no_room room log more e = leb-false (length (bytes_of more)) (room - length (bytes_of log)) e

pub unfit : (room : ℕ) (log more : List Logged) → NoRoom room log more → fits room log more ≡ false
unfolding fits
unfit room log more h = lt-leb (length (bytes_of more)) (room - length (bytes_of log)) h

pub room_enough : (room : ℕ) (log more : List Logged) → fits room log more ≡ true → NoRoom room log more → ⊥
room_enough room log more e h = true≢false (sym e ∙ unfit room log more h)

pub roomy : (room : ℕ) (log more : List Logged) → (NoRoom room log more → ⊥) → fits room log more ≡ true
unfolding fits
roomy room log more n = le-leb (length (bytes_of more)) (room - length (bytes_of log)) (omega arith)

-- ---- an answer that is refused has no room
pub full_answer : (first second third room : ℕ) (m : Model) (log : List Logged) {why : Refusal} {t : ℕ} {m' : Model} {log' : List Logged}
    → step (Ok (Frame first second third)) room m log ≡ refused why t m' log' → NoRoom room log (frame_log m first second third)
unfolding step
full_answer first second third room m log {why} {t} {m'} {log'} e = go (fits room log (frame_log m first second third)) refl
  where
    go : (b : Bool) → fits room log (frame_log m first second third) ≡ b → NoRoom room log (frame_log m first second third)
    go true f = absurd (taken≢refused (rw (f, step) at e))
    go false f = no_room room log (frame_log m first second third) f

-- ---- the records of the next tick
pub now_full : (room : ℕ) (m : Model) (log : List Logged) → NoRoomAfter 0 room m log → NoRoom room log (tick_log m)
unfolding model_after log_after
now_full room m log h = rw append-nil at h

pub full_now : (room : ℕ) (m : Model) (log : List Logged) → NoRoom room log (tick_log m) → NoRoomAfter 0 room m log
unfolding model_after log_after
full_now room m log h = rw append-nil h

-- Number 9 is given exactly when the records of one answer, or of one tick, do not fit.
-- Assumes nothing.
use Prim.Native.Nat.{ℕ, zero, suc, ◌+◌, ◌<◌}
use Rattle.demands.proofs.Shared.NoRoom.{full_now, no_room, now_full, room_enough, roomy, unfit}
use Rattle.demands.proofs.Shared.Runs.{comes_ticks}
use Rattle.demands.specs.Happenings.{log_after, model_after}
use Rattle.demands.specs.Numbers.{Fitted, NoRoom, NoRoomAfter, ticked_log, ticked_model}
use Rattle.device.specs.Frame.{frame_log}
use Rattle.device.specs.declared.model.Model.{Model}
use Rattle.judging.specs.declared.asked.Asked.TheVariants.{Frame, Ticks}
use Rattle.judging.specs.declared.asked.Refusal.TheVariants.{Full}
use Rattle.judging.specs.declared.asked.Refusal.{Refusal}
use Rattle.record.specs.Log.{Logged}
use Rattle.session.proofs.Kept.{partly, taken≢refused}
use Rattle.session.specs.Session.{fits, refused, step, taken, ticking}
use Rattle.std.specs.Prelude.{Ok}
use Rattle.ticks.specs.Tick.{tick_log, tick_model}
use mathlib.Core.Bool.{Bool, false, true}
use mathlib.Core.List.{List, append_assoc, append-nil, ◌++◌}
use mathlib.Core.Path.{ap, refl, subst, sym, ◌∙◌, ◌≡◌}
use native.Mathlib.Nat.{add-zero, zero-add}
use native.Mathlib.Omega.{arith}

-- ---- one answer
pub answer_full : (first second third room : ℕ) (m : Model) (log : List Logged) → NoRoom room log (frame_log m first second third)
    → step (Ok (Frame first second third)) room m log ≡ refused Full 0 m log
unfolding step
answer_full first second third room m log h = rw (unfit room log (frame_log m first second third) h, step)

-- ---- the records of one tick
-- after one tick and s more
after_one : (s room : ℕ) (m : Model) (log : List Logged) → NoRoomAfter s room (tick_model m) (log ++ tick_log m) → NoRoomAfter (suc s) room m log
unfolding model_after log_after
after_one s room m log h = rw append_assoc at h

one_more_lem : (s room : ℕ) (m : Model) (log : List Logged) → NoRoomAfter (suc s) room m log → NoRoomAfter s room (tick_model m) (log ++ tick_log m)
unfolding model_after log_after
one_more_lem s room m log h = rw append_assoc h

ticks_full : (n t done room : ℕ) (m : Model) (log : List Logged) → t < n → Fitted t room m log → NoRoomAfter t room m log
    → ticking n done room m log ≡ refused Full (done + t) (ticked_model t m) (ticked_log t m log)
unfolding ticking model_after log_after
ticks_full zero t done room m log l f h = absurd (omega arith)
ticks_full (suc n) zero done room m log l f h = rw (unfit room log (tick_log m) (now_full room m log h), ticking) (rw (append-nil, add-zero))
ticks_full (suc n) (suc t) done room m log l f h =
    let fine : fits room log (tick_log m) ≡ true = roomy room log (tick_log m) (λ z. f 0 (omega arith) (full_now room m log z)) in
    let counted : done + 1 + t ≡ done + suc t = omega arith in
    rw (fine, ticking)
    (ticks_full n t (done + 1) room (tick_model m) (log ++ tick_log m) (omega arith)
    (λ s below z. f (suc s) (omega arith) (after_one s room m log z)) (one_more_lem t room m log h)
    ∙ rw (append_assoc, counted))

fitted : (t done room : ℕ) (m : Model) (log : List Logged) (m' : Model) (log' : List Logged) → ticking t done room m log ≡ taken m' log' → Fitted t room m log
unfolding ticking
fitted zero done room m log m' log' e s below h = omega arith
fitted (suc t) done room m log m' log' e s below h =
    go (fits room log (tick_log m)) refl s below h (λ w r l k. fitted t (done + 1) room (tick_model m) (log ++ tick_log m) m' log' w r l k)
  where
    go : (b : Bool) → fits room log (tick_log m) ≡ b → (s : ℕ) → s < suc t → NoRoomAfter s room m log
        → (ticking t (done + 1) room (tick_model m) (log ++ tick_log m) ≡ taken m' log' → Fitted t room (tick_model m) (log ++ tick_log m)) → ⊥
    go false f s below h ih = taken≢refused (sym (rw (f, ticking) at e))
    go true f zero below h ih = room_enough room log (tick_log m) f (now_full room m log h)
    go true f (suc s) below h ih = ih (rw (f, ticking) at e) s (omega arith) (one_more_lem s room m log h)

-- t of the n ticks fit, and the next does not
pub tick_full : (n t room : ℕ) (m : Model) (log : List Logged) → t < n → Fitted t room m log → NoRoomAfter t room m log
    → step (Ok (Ticks n)) room m log ≡ refused Full t (ticked_model t m) (ticked_log t m log)
unfolding step
tick_full n t room m log l f h = ticks_full n t 0 room m log l f h ∙ ap (λ k. refused Full k (ticked_model t m) (ticked_log t m log)) (zero-add t)

-- and so it is wherever a TK is refused
pub full_tick : (n room : ℕ) (m : Model) (log : List Logged) {why : Refusal} {t : ℕ} {m' : Model} {log' : List Logged}
    → step (Ok (Ticks n)) room m log ≡ refused why t m' log'
    → (t < n) × Fitted t room m log × NoRoomAfter t room m log × (why ≡ Full) × (m' ≡ ticked_model t m) × (log' ≡ ticked_log t m log)
unfolding step
full_tick n room m log {why} {t} {m'} {log'} e =
    let (p, only) = partly n 0 room m log why t m' log' e in
    let all : p.ticks ≡ t = omega (arith, p.total) in
    let stand : ticking t 0 room m log ≡ taken m' log' = subst (λ j. ticking j 0 room m log ≡ taken m' log') all p.stand in
    let c = comes_ticks t 0 room m log m' log' stand in (
      omega (arith, p.fewer),
      fitted t 0 room m log m' log' stand,
      rw (c.model, c.logged) (no_room room log' (tick_log m') p.full),
      only,
      sym c.model,
      sym c.logged,
    )

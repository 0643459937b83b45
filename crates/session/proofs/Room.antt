-- Room for the log: what is left of it behind a log, and that a step which is taken is taken with any room that holds its log.
-- Assumes nothing.
use Prim.Native.Nat.{ℕ, zero, suc, ◌+◌, ◌-◌, ◌≤◌}
use Rattle.device.specs.Frame.{frame_log}
use Rattle.device.specs.declared.model.Model.{Model}
use Rattle.judging.specs.declared.asked.Asked.TheVariants.{Declare, Frame, Hold, Ticks}
use Rattle.judging.specs.declared.asked.Asked.{Asked}
use Rattle.judging.specs.declared.asked.Refusal.TheVariants.{Full}
use Rattle.judging.specs.declared.asked.Refusal.{Refusal}
use Rattle.record.proofs.Log.{bytes_append}
use Rattle.record.specs.Log.{Logged, bytes_of}
use Rattle.session.proofs.Kept.{taken≢refused}
use Rattle.session.proofs.Laws.{ticking_taken}
use Rattle.session.specs.Session.{Step, fits, refused, step, taken, ticking}
use Rattle.std.specs.Prelude.{Err, Ok, Result}
use Rattle.ticks.proofs.Laws.{tick_last, tick_tick}
use Rattle.ticks.specs.Tick.{tick_log, tick_model}
use borrow.Author.Tests.{le-leb}
use lib.ListN.{length, length-append}
use mathlib.Core.Bool.{Bool, false, true}
use mathlib.Core.List.{List, [], ◌++◌}
use mathlib.Core.Path.{ap, ap₂, refl, sym, ◌∙◌, ◌≡◌}
use native.Mathlib.Nat.{add-zero, zero-add}
use native.Mathlib.Omega.{arith}

-- the bytes of a log
abbrev pub size : List Logged → ℕ
size log = length (bytes_of log)

-- the room behind two logs, and behind none
pub room_behind : (big : ℕ) (log more : List Logged) → big - size log - size more ≡ big - size (log ++ more)
room_behind big log more = rw (bytes_append, length-append) (omega arith)

pub nothing_left : (room : ℕ) → room - length (bytes_of []) ≡ room
unfolding bytes_of
nothing_left room = omega arith

-- ---- what has room
fits_so : (big : ℕ) (log more : List Logged) → size (log ++ more) ≤ big → fits big log more ≡ true
unfolding fits
fits_so big log more h =
    let l : size (log ++ more) ≡ size log + size more = rw (bytes_append, length-append) in
    le-leb (size more) (big - size log) (omega arith)

-- all of `first` and `more` fits: so does `first`, and `more` behind it
pub both_fit : (room : ℕ) (log first more : List Logged) → length (bytes_of (first ++ more)) ≤ room - length (bytes_of log)
    → (fits room log first ≡ true) × (length (bytes_of more) ≤ room - length (bytes_of (log ++ first)))
unfolding fits
both_fit room log first more h =
    let long : length (bytes_of (first ++ more)) ≡ length (bytes_of first) + length (bytes_of more) = rw (bytes_append, length-append) in
    (le-leb (length (bytes_of first)) (room - length (bytes_of log)) (omega arith), rw (bytes_append, length-append) (omega arith))

-- ---- a step that is taken is taken with any room that holds its log
-- k ticks of a TK, and n more
pub record Ticked (k done big : ℕ) (m : Model) (log : List Logged) (m' : Model) (log' : List Logged) : Type 0 where
  pub longer : size log ≤ size log'
  pub rise : m'.tick ≡ m.tick + k
  pub last : m'.last ≡ m.last
  pub onward : size log' ≤ big → (n : ℕ) → ticking (k + n) done big m log ≡ ticking n (done + k) big m' log'

pub ticked : (k done room big : ℕ) (m : Model) (log : List Logged) (m' : Model) (log' : List Logged) → ticking k done room m log ≡ taken m' log'
    → Ticked k done big m log m' log'
unfolding ticking
ticked zero done room big m log m' log' e =
    let here : m ≡ m' = cc in
    let same : log ≡ log' = cc in
    rw (← here, ← same)
    (record { longer = omega arith; rise = sym (add-zero m.tick); last = refl; onward = λ h n. ap₂ (λ i j. ticking i j big m log) (zero-add n) (sym (add-zero done)) })
ticked (suc k) done room big m log m' log' e =
    go (fits room log (tick_log m)) refl (λ w. ticked k (done + 1) room big (tick_model m) (log ++ tick_log m) m' log' w)
  where
    go : (b : Bool) → fits room log (tick_log m) ≡ b
        → (ticking k (done + 1) room (tick_model m) (log ++ tick_log m) ≡ taken m' log' → Ticked k (done + 1) big (tick_model m) (log ++ tick_log m) m' log')
        → Ticked (suc k) done big m log m' log'
    go false f ih = absurd (taken≢refused (sym (rw (f, ticking) at e)))
    go true f ih =
        let t = ih (rw (f, ticking) at e) in
        let l : size (log ++ tick_log m) ≡ size log + size (tick_log m) = rw (bytes_append, length-append) in
        let more : (n : ℕ) → suc k + n ≡ suc (k + n) = λ n. omega arith in
        let count : done + 1 + k ≡ done + suc k = omega arith in
        record {
          longer = omega (arith, t.longer);
          rise = omega (arith, t.rise, tick_tick m);
          last = t.last ∙ tick_last m;
          onward =
              λ h n.
              ap (λ j. ticking j done big m log) (more n)
              ∙ ticking_taken (k + n) done big m log (fits_so big log (tick_log m) (omega (arith, t.longer)))
              ∙ t.onward h n
              ∙ ap (λ j. ticking n j big m' log') count;
        }

pub roomier : (a : Result Asked Refusal) (room big : ℕ) (m : Model) (log : List Logged) (m' : Model) (log' : List Logged) → step a room m log ≡ taken m' log' → size log' ≤ big
    → step a big m log ≡ taken m' log'
unfolding step ticking
roomier (Err why) room big m log m' log' e h = absurd (taken≢refused (sym e))
roomier (Ok (Declare sensor)) room big m log m' log' e h = e
roomier (Ok (Hold i sample)) room big m log m' log' e h = e
roomier (Ok (Frame first second third)) room big m log m' log' e h = go (fits room log (frame_log m first second third)) refl
  where
    go : (b : Bool) → fits room log (frame_log m first second third) ≡ b → step (Ok (Frame first second third)) big m log ≡ taken m' log'
    go false f = absurd (taken≢refused (sym (rw (f, step) at e)))
    go true f =
        let w = rw (f, step) at e in
        let same : log ++ frame_log m first second third ≡ log' = cc in
        rw (fits_so big log (frame_log m first second third) (rw same h), step) w
roomier (Ok (Ticks n)) room big m log m' log' e h =
    ap (λ j. ticking j 0 big m log) (sym (add-zero n)) ∙ (ticked n 0 room big m log m' log' e).onward h 0

-- ---- the ticks carried out before count in the ticks alone
-- a step some ticks later
abbrev pub later : ℕ → Step → Step
later k (taken m log) = taken m log
later k (refused why t m log) = refused why (k + t) m log

pub ticking_later : (k n done room : ℕ) (m : Model) (log : List Logged) → ticking n (k + done) room m log ≡ later k (ticking n done room m log)
unfolding ticking
ticking_later k zero done room m log = refl
ticking_later k (suc n) done room m log =
    go (fits room log (tick_log m)) (ticking_later k n (done + 1) room (tick_model m) (log ++ tick_log m))
  where
    count : k + (done + 1) ≡ k + done + 1
    count = omega arith

    go : (b : Bool) → ticking n (k + (done + 1)) room (tick_model m) (log ++ tick_log m) ≡ later k (ticking n (done + 1) room (tick_model m) (log ++ tick_log m))
        → elim b [ true ↦ ticking n (k + done + 1) room (tick_model m) (log ++ tick_log m) | false ↦ refused Full (k + done) m log ]
        ≡ later k (elim b [ true ↦ ticking n (done + 1) room (tick_model m) (log ++ tick_log m) | false ↦ refused Full done m log ])
    go true ih = rw count at ih
    go false ih = refl

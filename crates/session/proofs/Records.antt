-- A reading, record by record: a step behind a log that is there already, where a reading goes from its first record, and that fuel for each
-- byte is enough.
-- Assumes nothing.
use Prim.Native.Nat.{ℕ, zero, suc, ◌+◌, ◌-◌, ◌<◌, ◌≤◌}
use Rattle.device.specs.Frame.{frame_log, frame_model}
use Rattle.device.specs.declared.model.Model.{Model}
use Rattle.judging.specs.Asked.{asked, size_of}
use Rattle.judging.specs.Refusals.{number_of}
use Rattle.judging.specs.declared.asked.Asked.TheVariants.{Declare, Frame, Hold, Ticks}
use Rattle.judging.specs.declared.asked.Asked.{Asked}
use Rattle.judging.specs.declared.asked.Refusal.TheVariants.{Full}
use Rattle.judging.specs.declared.asked.Refusal.{Refusal}
use Rattle.record.proofs.Log.{bytes_append}
use Rattle.record.specs.Log.{Logged, bytes_of}
use Rattle.session.proofs.Kept.{taken_size}
use Rattle.session.proofs.Laws.{reading_done, reading_refused, reading_taken}
use Rattle.session.specs.Session.{End, Step, fits, reading, refused, step, taken, ticking}
use Rattle.std.specs.Prelude.{Err, Ok, Result}
use Rattle.ticks.specs.Tick.{tick_log, tick_model}
use lib.Dec.{leb}
use lib.ListN.{drop, length, length-append, length-drop}
use mathlib.Core.Bool.{Bool, false, true}
use mathlib.Core.List.{List, [], append_assoc, ◌++◌, ◌∷◌}
use mathlib.Core.Path.{ap, refl, sym, ◌∙◌, ◌≡◌}
use native.Mathlib.Omega.{arith}

-- ---- a step behind a log that is there already
-- what it comes to
abbrev pub after_log : List Logged → Step → Step
after_log pre (taken m log) = taken m (pre ++ log)
after_log pre (refused why t m log) = refused why t m (pre ++ log)

module _ (room : ℕ) (pre : List Logged) where
  abbrev left : ℕ
  left = room - length (bytes_of pre)

  fits_behind : (log more : List Logged) → fits room (pre ++ log) more ≡ fits left log more
  unfolding fits
  fits_behind log more =
      rw (bytes_append, length-append)
      (ap (leb (length (bytes_of more))) (omega arith))

  ticking_behind : (n done : ℕ) (m : Model) (log : List Logged) → ticking n done room m (pre ++ log) ≡ after_log pre (ticking n done left m log)
  unfolding ticking
  ticking_behind zero done m log = refl
  ticking_behind (suc n) done m log =
      rw (fits_behind log (tick_log m), ticking) (go (fits left log (tick_log m)) (ticking_behind n (done + 1) (tick_model m) (log ++ tick_log m)))
    where
      go : (b : Bool)
          → ticking n (done + 1) room (tick_model m) (pre ++ (log ++ tick_log m)) ≡ after_log pre (ticking n (done + 1) left (tick_model m) (log ++ tick_log m))
          → elim b [ true ↦ ticking n (done + 1) room (tick_model m) ((pre ++ log) ++ tick_log m) | false ↦ refused Full done m (pre ++ log) ]
          ≡ after_log pre (elim b [ true ↦ ticking n (done + 1) left (tick_model m) (log ++ tick_log m) | false ↦ refused Full done m log ])
      go true ih = rw append_assoc ih
      go false ih = refl

  pub step_behind : (a : Result Asked Refusal) (m : Model) (log : List Logged) → step a room m (pre ++ log) ≡ after_log pre (step a left m log)
  unfolding step
  step_behind (Err why) m log = refl
  step_behind (Ok (Declare sensor)) m log = refl
  step_behind (Ok (Hold i sample)) m log = refl
  step_behind (Ok (Frame first second third)) m log = rw (fits_behind log (frame_log m first second third), step) (go (fits left log (frame_log m first second third)))
    where
      go : (b : Bool)
          → elim b [ true ↦ taken (frame_model m first second third) ((pre ++ log) ++ frame_log m first second third) | false ↦ refused Full 0 m (pre ++ log) ]
          ≡ after_log pre (elim b [ true ↦ taken (frame_model m first second third) (log ++ frame_log m first second third) | false ↦ refused Full 0 m log ])
      go true = rw append_assoc
      go false = refl
  step_behind (Ok (Ticks n)) m log = ticking_behind n 0 m log

-- ---- a reading goes on by one record
abbrev pub ended : (number at t : ℕ) → Model → List Logged → End
ended number at t m log = record { model = m; number = number; offset = at; ticks = t; log = log }

-- where a reading with so much fuel goes from what its first record comes to
abbrev pub next : (n : ℕ) → List ℕ → (size room at : ℕ) → Step → End
next n rest size room at (taken m log) = reading n (drop size rest) room (at + size) m log
next n rest size room at (refused why t m log) = ended (number_of why) at t m log

pub read_next : (n : ℕ) (rest : List ℕ) (room at : ℕ) (m : Model) (log : List Logged) → 0 < length rest
    → reading (suc n) rest room at m log ≡ next n rest (size_of (asked rest m)) room at (step (asked rest m) room m log)
read_next n rest room at m log h = go (step (asked rest m) room m log) refl
  where
    go : (o : Step) → step (asked rest m) room m log ≡ o → reading (suc n) rest room at m log ≡ next n rest (size_of (asked rest m)) room at o
    go (taken m' log') e = reading_taken n room at m log rest h refl e
    go (refused why t m' log') e = reading_refused n room at m log rest h refl e

-- fuel for each byte is enough
pub enough : (n k : ℕ) (rest : List ℕ) (room at : ℕ) (m : Model) (log : List Logged) → length rest ≤ n → length rest ≤ k
    → reading n rest room at m log ≡ reading k rest room at m log
unfolding reading
enough zero k [] room at m log h g = sym (reading_done k [] room at m log refl)
enough zero k (b ∷ rest) room at m log h g = absurd (omega arith)
enough (suc n) k [] room at m log h g = sym (reading_done k [] room at m log refl)
enough (suc n) zero (b ∷ rest) room at m log h g = absurd (omega arith)
enough (suc n) (suc k) (b ∷ rest) room at m log h g =
    read_next n (b ∷ rest) room at m log (omega arith)
    ∙ go (step (asked (b ∷ rest) m) room m log) refl (λ at' m' log' h' g'. enough n k (drop (size_of (asked (b ∷ rest) m)) (b ∷ rest)) room at' m' log' h' g')
    ∙ sym (read_next k (b ∷ rest) room at m log (omega arith))
  where
    s : ℕ
    s = size_of (asked (b ∷ rest) m)

    go : (o : Step) → step (asked (b ∷ rest) m) room m log ≡ o
        → ((at : ℕ) (m : Model) (log : List Logged) → length (drop s (b ∷ rest)) ≤ n → length (drop s (b ∷ rest)) ≤ k
        → reading n (drop s (b ∷ rest)) room at m log ≡ reading k (drop s (b ∷ rest)) room at m log)
        → next n (b ∷ rest) s room at o ≡ next k (b ∷ rest) s room at o
    go (taken m' log') e ih =
        let z = taken_size (asked (b ∷ rest) m) room m log e in
        ih (at + s) m' log' (rw length-drop (omega (arith, z))) (rw length-drop (omega (arith, z)))
    go (refused why t m' log') e ih = refl

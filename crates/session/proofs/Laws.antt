-- How a reading goes on by one record, and a TK by one tick.
-- Assumes nothing.
use Prim.Native.Nat.{ℕ, zero, suc, ◌+◌, ◌<◌}
use Rattle.device.specs.declared.model.Model.{Model}
use Rattle.judging.specs.Asked.{asked, size_of}
use Rattle.judging.specs.Refusals.{number_of}
use Rattle.judging.specs.declared.asked.Asked.{Asked}
use Rattle.judging.specs.declared.asked.Refusal.TheVariants.{Full}
use Rattle.judging.specs.declared.asked.Refusal.{Refusal}
use Rattle.record.specs.Log.{Logged}
use Rattle.session.specs.Session.{fits, reading, refused, step, taken, ticking}
use Rattle.std.specs.Prelude.{Result}
use Rattle.ticks.specs.Tick.{tick_log, tick_model}
use lib.ListN.{drop, length}
use mathlib.Core.Bool.{false, true}
use mathlib.Core.List.{List, [], ◌++◌, ◌∷◌}
use mathlib.Core.Path.{refl, ◌≡◌}
use native.Mathlib.Nat.{not-suc-le-zero, suc-ne-zero}

-- nothing is left
pub reading_done : (most : ℕ) (rest : List ℕ) (room at : ℕ) (m : Model) (log : List Logged) → length rest ≡ 0
    → reading most rest room at m log ≡ record { model = m; number = 0; offset = at; ticks = 0; log = log }
unfolding reading
reading_done zero rest room at m log e = refl
reading_done (suc most) [] room at m log e = refl
reading_done (suc most) (b ∷ rest) room at m log e = absurd (suc-ne-zero (length rest) e)

module _ (most room at : ℕ) (m : Model) (log : List Logged) {a : Result Asked Refusal} where
  -- the record is taken
  pub reading_taken : (rest : List ℕ) → 0 < length rest → asked rest m ≡ a → {m' : Model} {log' : List Logged} → step a room m log ≡ taken m' log'
      → reading (suc most) rest room at m log ≡ reading most (drop (size_of a) rest) room (at + size_of a) m' log'
  unfolding reading
  reading_taken [] some e s = absurd (not-suc-le-zero some)
  reading_taken (b ∷ rest) some e s = rw (e, s, reading, e)

  -- the record is refused
  pub reading_refused : (rest : List ℕ) → 0 < length rest → asked rest m ≡ a → {why : Refusal} {k : ℕ} {m' : Model} {log' : List Logged}
      → step a room m log ≡ refused why k m' log'
      → reading (suc most) rest room at m log ≡ record { model = m'; number = number_of why; offset = at; ticks = k; log = log' }
  unfolding reading
  reading_refused [] some e s = absurd (not-suc-le-zero some)
  reading_refused (b ∷ rest) some e s = rw (e, s, reading)

-- the tick is taken, or refused
module _ (n done room : ℕ) (m : Model) (log : List Logged) where
  pub ticking_taken : fits room log (tick_log m) ≡ true
      → ticking (suc n) done room m log ≡ ticking n (done + 1) room (tick_model m) (log ++ tick_log m)
  unfolding ticking
  ticking_taken e = rw (e, ticking)

  pub ticking_refused : fits room log (tick_log m) ≡ false → ticking (suc n) done room m log ≡ refused Full done m log
  unfolding ticking
  ticking_refused e = rw (e, ticking)

-- A reading behind another: nothing behind, two behind, and a reading that goes on where another left a log.
-- Assumes nothing.
use Prim.Native.Nat.{ℕ, zero, suc, ◌+◌, ◌-◌}
use Rattle.demands.specs.Stands.{behind}
use Rattle.device.specs.declared.model.Model.{Model}
use Rattle.judging.specs.Asked.{asked, size_of}
use Rattle.record.specs.Log.{Logged, bytes_of}
use Rattle.session.proofs.Records.{after_log, next, read_next, step_behind}
use Rattle.session.specs.Session.{End, Step, reading, refused, step, taken}
use lib.ListN.{drop, length}
use mathlib.Core.List.{List, [], append_assoc, append-nil, ◌++◌, ◌∷◌}
use mathlib.Core.Path.{ap, ap₂, refl, sym, ◌∙◌, ◌≡◌}
use native.Mathlib.Nat.{add_assoc, add-zero, zero-add}
use native.Mathlib.Omega.{arith}

-- ---- one behind another
pub behind_nothing : (e : End) → behind 0 [] e ≡ e
behind_nothing e = λ i. record { model = e.model; number = e.number; offset = zero-add e.offset i; ticks = e.ticks; log = e.log }

pub behind_behind : (a b : ℕ) (k l : List Logged) (e : End) → behind a k (behind b l e) ≡ behind (a + b) (k ++ l) e
behind_behind a b k l e =
    λ i. record {
      model = e.model;
      number = e.number;
      offset = sym (add_assoc a b e.offset) i;
      ticks = e.ticks;
      log = sym (append_assoc k l e.log) i;
    }

-- ---- a reading goes on where another left off
reading_behind : (n : ℕ) (rest : List ℕ) (room size at : ℕ) (m : Model) (pre log : List Logged)
    → reading n rest room (size + at) m (pre ++ log) ≡ behind size pre (reading n rest (room - length (bytes_of pre)) at m log)
unfolding reading
reading_behind zero rest room size at m pre log = refl
reading_behind (suc n) [] room size at m pre log = refl
reading_behind (suc n) (b ∷ rest) room size at m pre log =
    read_next n (b ∷ rest) room (size + at) m (pre ++ log) (omega arith)
    ∙ ap (next n (b ∷ rest) s room (size + at)) (step_behind room pre (asked (b ∷ rest) m) m log)
    ∙ go (step (asked (b ∷ rest) m) left m log)
    (λ m' log'. reading_behind n (drop (size_of (asked (b ∷ rest) m)) (b ∷ rest)) room size (at + size_of (asked (b ∷ rest) m)) m' pre log')
    ∙ ap (behind size pre) (sym (read_next n (b ∷ rest) left at m log (omega arith)))
  where
    s : ℕ
    s = size_of (asked (b ∷ rest) m)

    left : ℕ
    left = room - length (bytes_of pre)

    go : (o : Step)
        → ((m' : Model) (log' : List Logged)
        → reading n (drop s (b ∷ rest)) room (size + (at + s)) m' (pre ++ log') ≡ behind size pre (reading n (drop s (b ∷ rest)) left (at + s) m' log'))
        → next n (b ∷ rest) s room (size + at) (after_log pre o) ≡ behind size pre (next n (b ∷ rest) s left at o)
    go (taken m' log') ih = rw add_assoc (ih m' log')
    go (refused why t m' log') ih = refl

-- where it left a log, and nothing since
pub reading_onward : (n : ℕ) (rest : List ℕ) (room at : ℕ) (m : Model) (log : List Logged)
    → reading n rest room at m log ≡ behind at log (reading n rest (room - length (bytes_of log)) 0 m [])
reading_onward n rest room at m log =
    ap₂ (λ k l. reading n rest room k m l) (sym (add-zero at)) (sym (append-nil log)) ∙ reading_behind n rest room at 0 m log []

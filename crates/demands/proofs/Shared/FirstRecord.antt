-- A session whose first record is taken, whatever follows that record.
-- Assumes nothing.
use Prim.Native.Nat.{ℕ, ◌-◌, ◌<◌}
use Rattle.demands.proofs.Shared.ByRecords.{session_taken}
use Rattle.demands.specs.Stands.{behind}
use Rattle.device.specs.declared.model.Model.{Model}
use Rattle.judging.proofs.Asking.{Agree, alone, asked_size, extended}
use Rattle.judging.specs.Asked.{asked, size_of}
use Rattle.record.specs.Log.{Logged, bytes_of}
use Rattle.session.proofs.Kept.{taken_size}
use Rattle.session.specs.Session.{session, step, taken}
use lib.ListN.{drop, length}
use lib.Seq.{drop-append-le}
use mathlib.Core.List.{List, [], ◌++◌}
use mathlib.Core.Path.{ap, ◌∙◌, ◌≡◌}
use native.Mathlib.Omega.{arith}

module _ (m : Model) (xs ys : List ℕ) (room : ℕ) (some : 0 < length xs) {m' : Model} {log : List Logged} (e : step (asked xs m) room m [] ≡ taken m' log) where
  -- the rest is read from where that record left
  pub first_same : (zs : List ℕ) → Agree (size_of (asked xs m)) xs zs
      → session m zs room
      ≡ behind (size_of (asked xs m)) log (session m' (drop (size_of (asked xs m)) zs) (room - length (bytes_of log)))
  first_same zs a =
      let same : asked zs m ≡ asked xs m = alone xs m (taken_size (asked xs m) room m [] e) zs a in
      session_taken m zs room (omega (arith, a.long', taken_size (asked xs m) room m [] e)) (rw same e)
      ∙ ap (λ a. behind (size_of a) log (session m' (drop (size_of a) zs) (room - length (bytes_of log)))) same

  -- so it is with bytes behind xs
  pub first_extended : session m (xs ++ ys) room
      ≡ behind (size_of (asked xs m)) log (session m' (drop (size_of (asked xs m)) xs ++ ys) (room - length (bytes_of log)))
  first_extended =
      first_same (xs ++ ys) (extended (size_of (asked xs m)) xs ys (asked_size xs m))
      ∙ ap (λ l. behind (size_of (asked xs m)) log (session m' l (room - length (bytes_of log)))) (drop-append-le (size_of (asked xs m)) xs ys (asked_size xs m))

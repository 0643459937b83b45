-- Where the first bytes of a session are taken whole, the others are read from where those left off.
-- Assumes nothing.
use Prim.Native.Nat.{ℕ, ◌+◌, ◌-◌}
use Rattle.demands.proofs.Shared.Behind.{behind_behind, behind_nothing}
use Rattle.demands.proofs.Shared.ByRecords.{by_records}
use Rattle.demands.proofs.Shared.FirstRecord.{first_extended}
use Rattle.demands.specs.Stands.{behind, room_after}
use Rattle.device.specs.declared.model.Model.{Model}
use Rattle.judging.proofs.Asking.{asked_size, refused_some}
use Rattle.judging.specs.Asked.{asked, size_of}
use Rattle.record.specs.Log.{Logged, bytes_of}
use Rattle.session.proofs.Room.{nothing_left, room_behind}
use Rattle.session.specs.Session.{End, session}
use lib.ListN.{drop, length, length-drop}
use mathlib.Core.List.{List, [], ◌++◌}
use mathlib.Core.Path.{ap, ap₂, sym, ◌∙◌, ◌≡◌}
use native.Mathlib.Omega.{arith}

-- what ys comes to behind r, the reading of xs
abbrev Then : (room : ℕ) → (xs ys : List ℕ) → End → End
Then room xs ys r = behind (length xs) r.log (session r.model ys (room_after room r))

-- behind the first record of xs
module _ (m : Model) (xs ys : List ℕ) (room : ℕ) (log : List Logged) where
  then_behind : (r : End)
      → behind (size_of (asked xs m)) log (Then (room - length (bytes_of log)) (drop (size_of (asked xs m)) xs) ys r)
      ≡ Then room xs ys (behind (size_of (asked xs m)) log r)
  then_behind r =
      behind_behind (size_of (asked xs m)) (length (drop (size_of (asked xs m)) xs)) log r.log _
      ∙ ap₂ (λ n k. behind n (log ++ r.log) (session r.model ys k)) long (room_behind room log r.log)
    where
      long : size_of (asked xs m) + length (drop (size_of (asked xs m)) xs) ≡ length xs
      long = rw length-drop (omega (arith, asked_size xs m))

-- where xs is taken whole, ys is read from where it left
pub in_turn : (m : Model) (xs ys : List ℕ) (room : ℕ) → (session m xs room).number ≡ 0 → session m (xs ++ ys) room ≡ Then room xs ys (session m xs room)
in_turn m xs ys room whole =
    by_records (λ m xs room r. r.number ≡ 0 → session m (xs ++ ys) room ≡ Then room xs ys r)
    (λ m room z. ap (session m ys) (sym (nothing_left room)) ∙ sym (behind_nothing (session m ys (room - length (bytes_of [])))))
    (λ m xs room m' log some e r ih z. first_extended m xs ys room some e ∙ ap (behind (size_of (asked xs m)) log) (ih z) ∙ then_behind m xs ys room log r)
    (λ m xs room why t m' log some e z. absurd (omega (arith, refused_some why)))
    m xs room whole

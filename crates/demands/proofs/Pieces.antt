-- PIECES: a session may be read in several calls. "It goes on from the state an earlier call left" (document 01, "The bench model").
-- Assumes nothing.
mod InTurn
use Prim.Native.Nat.{ℕ}
use Rattle.demands.proofs.Pieces.InTurn.{in_turn}
use Rattle.demands.specs.Stands.{behind, room_after}
use Rattle.device.specs.declared.model.Model.{Model}
use Rattle.session.specs.Session.{End, session}
use lib.ListN.{length}
use mathlib.Core.List.{List, ◌++◌}
use mathlib.Core.Path.{◌≡◌}

module _ (m : Model) (xs ys : List ℕ) (room : ℕ) where
  abbrev first : End
  first = session m xs room

  -- where xs is taken whole, reading xs and ys as one is reading xs, and then ys from the model that it left with the room that it left: the
  -- same model, number and ticks, its offset counted on from the end of xs, its log behind the first
  pub pieces : first.number ≡ 0 → session m (xs ++ ys) room ≡ behind (length xs) first.log (session first.model ys (room_after room first))
  pieces = in_turn m xs ys room

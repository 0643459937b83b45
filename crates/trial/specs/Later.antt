-- A fresh model, but for its tick number; and a session read from it.
-- Assumes nothing.
use Rattle.std.specs.Prelude.{ℕ, List}
use Rattle.device.specs.Device.{fresh, with_tick}
use Rattle.device.specs.declared.model.Model.{Model}
use Rattle.session.specs.Session.{End, session}

unfoldable pub later : (tick : ℕ) → Model
later tick = with_tick tick fresh

-- what is read first, into so much room
unfoldable pub first : (tick : ℕ) → (before : List ℕ) → (room : ℕ) → End
first tick before room = session (later tick) before room

-- TEXTS (M-107): "Band, width and comparison use the padded number for LO, all else is common." At resolution 8, 16 and 24 the padded number is the
-- measured one, so that there LO declares what IN does.
-- Assumes nothing.
mod AlikeDevices
mod AlikeSessions
mod FirstDeclaration
use Prim.Native.Nat.{ℕ, ◌<◌, ◌^◌}
use Rattle.demands.proofs.Pieces.{pieces}
use Rattle.demands.proofs.Texts.AlikeDevices.{fresh_range}
use Rattle.demands.proofs.Texts.AlikeSessions.{same_behind, session_alike}
use Rattle.demands.proofs.Texts.FirstDeclaration.{first_same}
use Rattle.demands.specs.Texts.{Alike, AllInRange, Same, declaration}
use Rattle.device.specs.Device.{fresh}
use Rattle.device.specs.declared.model.Model.{Model}
use Rattle.record.specs.Marks.{IN, LO}
use Rattle.sensor.proofs.Texts.{whole_padded}
use Rattle.sensor.specs.Text.{whole_bytes}
use Rattle.session.specs.Session.{session}
use Rattle.widen.specs.Width.{input_value}
use lib.ListN.{length}
use mathlib.Core.Bool.{true}
use mathlib.Core.List.{List, ◌++◌}
use mathlib.Core.Logic.{◌≢◌}
use mathlib.Core.Path.{refl, subst₂, sym, ◌≡◌}

-- the number that is compared
pub same_number : (v r : ℕ) → whole_bytes r ≡ true → v < 2 ^ r → input_value v r ≡ v
same_number = whole_padded

-- two devices that differ in the text alone: whatever is read from them, it comes to the same number at the same offset, with the same ticks and
-- the same log, and leaves two such devices
pub same_read : (xs : List ℕ) (room : ℕ) {m m' : Model} → Alike m m' → Same (session m xs room) (session m' xs room)
same_read = session_alike

-- AS IN: behind records that are taken, whatever follows, LO may be written IN; both are refused alike, or log the same, but for type 5, which IN
-- declares with resolution 24 (M-104) and LO does not. (And so again with a further one behind it)
pub as_in_lem : (ys zs : List ℕ) (i type r room : ℕ) → whole_bytes r ≡ true → type ≢ 5 → (session fresh ys room).number ≡ 0
    → Same (session fresh (ys ++ (declaration LO i type r ++ zs)) room) (session fresh (ys ++ (declaration IN i type r ++ zs)) room)
as_in_lem ys zs i type r room whole other taken =
    subst₂ Same (sym (pieces fresh ys (declaration LO i type r ++ zs) room taken)) (sym (pieces fresh ys (declaration IN i type r ++ zs) room taken))
    (same_behind (length ys) (session fresh ys room).log (first_same r whole (session fresh ys room).model i type other zs left _))
  where
    left : AllInRange (session fresh ys room).model.instances
    left = (session_alike ys room {m = fresh} {m' = fresh} (record { same = refl; range = fresh_range; range' = fresh_range })).models.range

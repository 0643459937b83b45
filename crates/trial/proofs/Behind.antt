-- One session read behind another, into the same output.
-- Assumes nothing.
use Prim.Native.Nat.{ℕ}
use Rattle.device.specs.declared.model.Model.{Model}
use Rattle.record.proofs.Laws.{length_put}
use Rattle.record.specs.Log.{bytes_of}
use Rattle.record.specs.Put.{put}
use Rattle.session.proofs.Bounds.{session_within}
use Rattle.session.specs.Session.{End, for_c, outcome, session}
use Rattle.session.specs.declared.reading.Outcome.{Outcome}
use Rattle.session.specs.declared.reading.Reading.{Reading}
use lib.ListN.{length}
use mathlib.Core.List.{List}
use mathlib.Core.Path.{ap, ◌∙◌, ◌≡◌}
use native.Mathlib.Omega.{arith}

-- the output as a reading leaves it
abbrev output : End → (out : List ℕ) → List ℕ
output e out = put 0 (bytes_of e.log) out

-- where the second call goes on from the model and the output that the first one left, it promises the second reading of those
pub behind : (m : Model) (before input out out' out'' : List ℕ) (left : Outcome) (r : Reading)
    → (left ≡ outcome (session m before (length out))) × (out' ≡ output (session m before (length out)) out)
    → (r ≡ for_c (session left.model input (length out'))) × (out'' ≡ output (session left.model input (length out')) out')
    → (r ≡ for_c (session (session m before (length out)).model input (length out)))
    × (out'' ≡ output (session (session m before (length out)).model input (length out)) (output (session m before (length out)) out))
unfolding outcome
behind m before input out out' out'' left r (e, written) later =
    let fits = session_within m before (length out) in
    let long : length out' ≡ length out = ap length written ∙ length_put 0 (bytes_of (session m before (length out)).log) out (omega (arith, fits)) in
    rw (ap (λ (o : Outcome). o.model) e, long, written) at later

-- The table of numbers, of a whole session: a refusal's number but 9 is its row's, and a row that holds where a session stands gives its number.
-- Assumes nothing.
use Prim.Native.Nat.{ℕ, ◌<◌}
use Rattle.demands.proofs.Demand1.RefusedRecord.{left_off}
use Rattle.demands.proofs.Demand1.TableOfNumbers.{given, holds_given}
use Rattle.demands.proofs.Pieces.{pieces}
use Rattle.demands.proofs.Shared.ByRecords.{session_refused}
use Rattle.demands.specs.Numbers.{Given, LeftOff}
use Rattle.demands.specs.Stands.{behind, room_after}
use Rattle.device.specs.declared.model.Model.{Model}
use Rattle.judging.specs.Asked.{asked}
use Rattle.judging.specs.Refusals.{number_of}
use Rattle.judging.specs.declared.asked.Refusal.TheVariants.{Full}
use Rattle.judging.specs.declared.asked.Refusal.{Refusal}
use Rattle.record.proofs.Bytes.{all_dropped}
use Rattle.record.specs.Log.{AllBytes}
use Rattle.session.proofs.Kept.{refused_by}
use Rattle.session.specs.Session.{End, refused, session, step}
use Rattle.std.specs.Prelude.{Err}
use lib.ListN.{drop, length}
use mathlib.Core.List.{List, [], append-nil, ◌++◌}
use mathlib.Core.Logic.{inl, inr, ◌≢◌, ◌⊎◌}
use mathlib.Core.Path.{ap, ap₂, subst, sym, ◌∙◌, ◌≡◌}
use native.Mathlib.Nat.{add-zero}

-- a refusal's number but 9 is its row's
pub by_table : (m : Model) (xs : List ℕ) (room : ℕ) → AllBytes xs → 0 < (session m xs room).number → (session m xs room).number ≢ 9
    → (why : Refusal) × ((session m xs room).number ≡ number_of why) × Given why (drop (session m xs room).offset xs) (session m xs room).model
unfolding number_of
by_table m xs room bytes some other = go (left_off m xs room some)
  where
    r : End
    r = session m xs room

    rest : List ℕ
    rest = drop (session m xs room).offset xs

    go : LeftOff m xs room r → (why : Refusal) × (r.number ≡ number_of why) × Given why rest r.model
    go l = by (refused_by (asked rest l.model) room l.model l.log l.why r.ticks r.model r.log l.refuses)
      where
        by : ((asked rest l.model ≡ Err l.why) × (r.model ≡ l.model)) ⊎ (l.why ≡ Full)
            → (why : Refusal) × (r.number ≡ number_of why) × Given why rest r.model
        by (inl (e, same)) =
            (l.why, l.numbered, subst (Given l.why rest) (sym same) (holds_given rest l.model (all_dropped r.offset xs bytes) l.why e))
        by (inr full) = absurd (other (l.numbered ∙ ap number_of full))

-- bytes behind a session that was taken whole
module _ (m : Model) (ys zs : List ℕ) (room : ℕ) (whole : (session m ys room).number ≡ 0) (some : 0 < length zs) (bytes : AllBytes zs) where
  pub refused_there : (why : Refusal) → Given why zs (session m ys room).model
      → session m (ys ++ zs) room
      ≡ record { model = (session m ys room).model; number = number_of why; offset = length ys; ticks = 0; log = (session m ys room).log }
  unfolding step
  refused_there why g =
      let r = session m ys room in
      let left = room_after room r in
      let e : step (asked zs r.model) left r.model [] ≡ refused why 0 r.model []
      = ap (λ a. step a left r.model []) (given zs r.model bytes why g) in
      pieces m ys zs room whole
      ∙ ap (behind (length ys) r.log) (session_refused r.model zs left some e)
      ∙ ap₂ (λ at log. record { model = r.model; number = number_of why; offset = at; ticks = 0; log = log })
      (add-zero (length ys)) (append-nil r.log)

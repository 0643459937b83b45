-- After a turn with another number than 9, what is unread is refused again, and nothing is carried out.
-- Assumes nothing.
use Prim.Native.Nat.{ℕ, ◌<◌, ◌≤◌}
use Rattle.demands.proofs.Demand1.{offset_refused, offset_whole, refused_at_lem, ticks_by_9}
use Rattle.demands.proofs.Shared.ByRecords.{session_none, session_refused}
use Rattle.demands.specs.Numbers.{LeftOff}
use Rattle.device.specs.declared.model.Model.{Model}
use Rattle.judging.proofs.Asking.{refused_still}
use Rattle.judging.specs.Asked.{asked}
use Rattle.judging.specs.Refusals.{number_of}
use Rattle.judging.specs.declared.asked.Refusal.TheVariants.{Full}
use Rattle.judging.specs.declared.asked.Refusal.{Refusal}
use Rattle.session.proofs.Kept.{refused_by}
use Rattle.session.proofs.Records.{ended}
use Rattle.session.specs.Session.{End, session, step}
use Rattle.std.specs.Prelude.{Err}
use Rattle.stream.proofs.AfterNumber.{not_after}
use Rattle.stream.specs.Stream.{next_after, remaining, unread}
use Rattle.stream.specs.declared.Next.TheVariants.{Over}
use lib.ListN.{drop, length, length-append, length-drop}
use lib.Seq.{drop-length}
use mathlib.Core.List.{List, [], append-nil, ◌++◌}
use mathlib.Core.Logic.{inl, inr, ◌≢◌, ◌⊎◌}
use mathlib.Core.Path.{ap, refl, sym, ◌∙◌, ◌≡◌}
use native.Mathlib.Decide.{dec_le, ℕ_discrete}
use native.Mathlib.Omega.{arith}

pub record Still (m : Model) (xs : List ℕ) (number : ℕ) : Type 0 where
  -- with nothing behind it
  pub alone : number ≢ 9 → (room : ℕ) → session m xs room ≡ ended number 0 0 m []
  -- and where it is refused for good, whatever comes behind it
  pub final : next_after number ≡ Over → (ys : List ℕ) (room : ℕ) → session m (xs ++ ys) room ≡ ended number 0 0 m []

-- a record that is refused, and not by 9
module _ (m : Model) (rest : List ℕ) (why : Refusal) (some : 0 < length rest) (e : asked rest m ≡ Err why) where
  refused_again : (ys : List ℕ) → asked (rest ++ ys) m ≡ Err why → (room : ℕ) → session m (rest ++ ys) room ≡ ended (number_of why) 0 0 m []
  unfolding step
  refused_again ys f room = session_refused m (rest ++ ys) room (rw length-append (omega arith)) (ap (λ a. step a room m []) f)

  still_refused : Still m rest (number_of why)
  unfolding next_after number_of
  still_refused =
      record {
        alone = λ n room. ap (λ l. session m l room) (sym (append-nil rest)) ∙ refused_again [] (ap (λ l. asked l m) (append-nil rest) ∙ e) room;
        final = λ o ys room. refused_again ys (refused_still rest m why (λ cut. not_after 2 (number_of why) o (λ z. omega arith) (ap number_of cut)) e ys) room;
      }

-- all is read
pub still_none : (m : Model) → Still m [] 0
unfolding next_after
still_none m = record { alone = λ n room. session_none m room; final = λ o. absurd (not_after 0 0 o (λ z. omega arith) refl) }

module _ (m : Model) (xs : List ℕ) (room : ℕ) where
  abbrev e : End
  e = session m xs room

  -- no ticks of a refused record were carried out
  pub no_ticks : e.number ≢ 9 → e.ticks ≡ 0
  no_ticks n = by (dec_le 1 e.ticks)
    where
      by : Dec (1 ≤ e.ticks) → e.ticks ≡ 0
      by (yes h) = absurd (n (ticks_by_9 m xs room h))
      by (no h) = omega arith

  unread_there : e.number ≢ 9 → unread e xs ≡ drop e.offset xs
  unfolding unread remaining
  unread_there n = rw (no_ticks n)

  -- what a reading leaves unread
  pub still : Still e.model (unread e xs) e.number
  unfolding next_after number_of
  still = by (dec_le 1 e.number) (ℕ_discrete e.number 9)
    where
      by : Dec (1 ≤ e.number) → Dec (e.number ≡ 9) → Still e.model (unread e xs) e.number
      by h (yes nine) = record { alone = λ n. absurd (n nine); final = λ o. absurd (not_after 9 e.number o (λ z. omega arith) nine) }
      by (no h) (no k) =
          let zero : e.number ≡ 0 = omega arith in
          rw (unread_there (λ n. omega arith), offset_whole m xs room zero, drop-length xs, zero) (still_none e.model)
      by (yes h) (no k) = go (refused_at_lem m xs room h)
        where
          rest : List ℕ
          rest = drop e.offset xs

          go : LeftOff m xs room e → Still e.model (unread e xs) e.number
          go l = at (refused_by (asked rest l.model) room l.model l.log l.why e.ticks e.model e.log l.refuses)
            where
              at : ((asked rest l.model ≡ Err l.why) × (e.model ≡ l.model)) ⊎ (l.why ≡ Full) → Still e.model (unread e xs) e.number
              at (inl (a, same)) =
                  rw (unread_there (λ n. omega arith), l.numbered)
                  (still_refused e.model rest l.why (rw length-drop (omega (arith, offset_refused m xs room h))) (ap (asked rest) same ∙ a))
              at (inr full) = absurd (k (l.numbered ∙ ap number_of full))

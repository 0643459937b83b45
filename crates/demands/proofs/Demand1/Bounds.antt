-- The bounds on what a reading gives back: its number, its offset and its ticks.
-- Assumes nothing.
use Prim.Native.Nat.{ℕ, zero, suc, ◌<◌, ◌≤◌}
use Rattle.demands.proofs.Shared.ByRecords.{by_records}
use Rattle.demands.specs.Stands.{behind}
use Rattle.device.specs.declared.model.Model.{Model}
use Rattle.judging.proofs.Asking.{asked_size, refused_number, refused_some, two_bytes}
use Rattle.judging.specs.Asked.{asked, size_of}
use Rattle.judging.specs.Refusals.{every_number, number_of}
use Rattle.judging.specs.declared.asked.Refusal.{Refusal}
use Rattle.record.proofs.Bytes.{all_dropped}
use Rattle.record.specs.Log.{AllBytes, Logged}
use Rattle.session.proofs.Kept.{Kept, part_left, refused_kept}
use Rattle.session.proofs.Records.{ended}
use Rattle.session.specs.Session.{End, refused, session, step, taken}
use lib.ListN.{drop, length, length-drop}
use mathlib.Core.List.{List, []}
use mathlib.Core.Logic.{inl, inr}
use mathlib.Core.Path.{ap, refl, ◌≡◌}
use native.Mathlib.Omega.{arith}
use types.Run.{OneOf}

-- what is said of a reading's numbers
pub record Bounded (xs : List ℕ) (r : End) : Type 0 where
  pub numbered : OneOf every_number r.number
  pub ticked : 0 < r.ticks → r.number ≡ 9
  pub whole : r.number ≡ 0 → r.offset ≡ length xs
  pub before : 0 < r.number → r.offset < length xs
  pub counted : AllBytes xs → r.ticks ≤ 65535

-- behind a record that is taken
bounded_took : (m : Model) (xs : List ℕ) (room : ℕ) (m' : Model) (log : List Logged) → 0 < length xs → step (asked xs m) room m [] ≡ taken m' log → (r : End)
    → Bounded (drop (size_of (asked xs m)) xs) r → Bounded xs (behind (size_of (asked xs m)) log r)
bounded_took m xs room m' log some e r b =
    let within = asked_size xs m in
    let long = length-drop (size_of (asked xs m)) xs in
    record {
      numbered = b.numbered;
      ticked = b.ticked;
      whole = λ z. omega (arith, b.whole z);
      before = λ z. omega (arith, b.before z);
      counted = λ a. b.counted (all_dropped (size_of (asked xs m)) xs a);
    }

-- a record that is refused
bounded_left : (m : Model) (xs : List ℕ) (room : ℕ) (why : Refusal) (t : ℕ) (m' : Model) (log : List Logged) → 0 < length xs
    → Kept (asked xs m) room m [] (refused why t m' log) → Bounded xs (ended (number_of why) 0 t m' log)
unfolding number_of
bounded_left m xs room why t m' log some k =
    let n = refused_some why in
    record { numbered = inr (refused_number why); ticked = nine t k; whole = λ z. absurd (omega arith); before = λ z. some; counted = λ a. few t k a }
  where
    nine : (t : ℕ) → Kept (asked xs m) room m [] (refused why t m' log) → 0 < t → number_of why ≡ 9
    nine zero k h = absurd (omega arith)
    nine (suc t) k h = ap number_of (part_left k).2

    few : (t : ℕ) → Kept (asked xs m) room m [] (refused why t m' log) → AllBytes xs → t ≤ 65535
    few zero k a = omega arith
    few (suc t) k a = let fewer = (part_left k).0 in omega (arith, two_bytes xs m a)

pub bounded : (m : Model) (xs : List ℕ) (room : ℕ) → Bounded xs (session m xs room)
bounded m xs room =
    by_records (λ m xs room r. Bounded xs r)
    (λ m room. record {
      numbered = inl refl;
      ticked = λ z. absurd (omega arith);
      whole = λ z. refl;
      before = λ z. absurd (omega arith);
      counted = λ a. omega arith;
    })
    bounded_took
    (λ m xs room why t m' log some e. bounded_left m xs room why t m' log some (refused_kept (asked xs m) room m [] e))
    m xs room

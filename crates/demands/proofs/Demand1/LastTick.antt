-- M-106: the last tick that may be reached. A session keeps it and does not pass it, and where it is the last of all none is refused by 10.
-- Assumes nothing.
use Prim.Native.Nat.{ℕ, zero, suc, ◌+◌, ◌≤◌}
use Rattle.demands.proofs.Demand1.TableInSessions.{by_table}
use Rattle.demands.proofs.Shared.ByRecords.{by_records}
use Rattle.demands.proofs.Shared.LogTicks.{every_as, session_upto}
use Rattle.demands.proofs.Shared.OneInstance.{happen_tick, run_last}
use Rattle.demands.proofs.Shared.Runs.{comes_refused, comes_taken, session_model}
use Rattle.demands.specs.Happenings.{asks_for, carried, declare, frame, hold, model_after, tick}
use Rattle.demands.specs.Numbers.{Given}
use Rattle.demands.specs.Stands.{behind}
use Rattle.device.specs.declared.model.Model.{Model}
use Rattle.judging.proofs.Asking.{last_left, ticks_of}
use Rattle.judging.specs.Asked.{asked, size_of}
use Rattle.judging.specs.Refusals.{number_of}
use Rattle.judging.specs.declared.asked.Asked.TheVariants.{Declare, Frame, Hold, Ticks}
use Rattle.judging.specs.declared.asked.Asked.{Asked}
use Rattle.judging.specs.declared.asked.Refusal.TheVariants.{BadSample, BeyondTable, Cut, Full, LateOrSkipped, NoSuchSensor, NoTicks, NotReadyAgain, TimeOver, Undeclared, UnknownMark}
use Rattle.judging.specs.declared.asked.Refusal.{Refusal}
use Rattle.record.specs.Log.{AllBytes, Logged, UpTo}
use Rattle.session.proofs.Kept.{Kept, part_left, refused_kept}
use Rattle.session.proofs.Records.{ended}
use Rattle.session.specs.Session.{End, refused, session, step, taken}
use Rattle.std.specs.Prelude.{Err, Ok, Result}
use Rattle.ticks.proofs.Laws.{tick_tick}
use Rattle.ticks.specs.Tick.{tick_model}
use lib.ListN.{drop, replicate}
use mathlib.Core.List.{List, []}
use mathlib.Core.Logic.{◌≢◌}
use mathlib.Core.Path.{ap, sym, ◌∙◌, ◌≡◌}
use native.Mathlib.Decide.{dec_le}
use native.Mathlib.Nat.{add-zero}
use native.Mathlib.Omega.{arith}

pub session_last : (m : Model) (xs : List ℕ) (room : ℕ) → (session m xs room).model.last ≡ m.last
session_last m xs room = ap (λ k. k.last) (session_model m xs room) ∙ run_last m (carried m xs room)

-- ---- the tick number rises by the ticks that a record asks for
ticks_rise : (n : ℕ) (m : Model) → (model_after m (replicate n tick)).tick ≡ m.tick + n
unfolding model_after
ticks_rise zero m = sym (add-zero m.tick)
ticks_rise (suc n) m = omega (arith, ticks_rise n (tick_model m), tick_tick m)

asked_rise : (a : Result Asked Refusal) (m : Model) → (model_after m (asks_for a)).tick ≡ m.tick + ticks_of a
unfolding model_after
asked_rise (Err why) m = sym (add-zero m.tick)
asked_rise (Ok (Declare sensor)) m = happen_tick m (declare sensor)
asked_rise (Ok (Hold i sample)) m = happen_tick m (hold i sample)
asked_rise (Ok (Frame first second third)) m = happen_tick m (frame first second third)
asked_rise (Ok (Ticks n)) m = ticks_rise n m

-- and that is not beyond the last
asked_within : (xs : List ℕ) (m : Model) → m.tick ≤ m.last → m.tick + ticks_of (asked xs m) ≤ m.last
asked_within xs m h = by (dec_le 1 (ticks_of (asked xs m)))
  where
    by : Dec (1 ≤ ticks_of (asked xs m)) → m.tick + ticks_of (asked xs m) ≤ m.last
    by (yes some) = last_left xs m some
    by (no none) = omega arith

-- ---- a session
abbrev Reaches : Model → End → Type 0
Reaches m r = m.tick ≤ m.last → r.model.tick ≤ m.last

reaches_took : (m : Model) (xs : List ℕ) (room : ℕ) (m' : Model) (log : List Logged) → step (asked xs m) room m [] ≡ taken m' log → (r : End)
    → Reaches m' r → Reaches m (behind (size_of (asked xs m)) log r)
reaches_took m xs room m' log e r ih h =
    let is = (comes_taken (asked xs m) room m [] m' log e).model in
    let rise : m'.tick ≡ m.tick + ticks_of (asked xs m) = ap (λ k. k.tick) (sym is) ∙ asked_rise (asked xs m) m in
    let same : m'.last ≡ m.last = ap (λ k. k.last) (sym is) ∙ run_last m (asks_for (asked xs m)) in
    omega (arith, ih (omega (arith, asked_within xs m h)))

reaches_left : (m : Model) (xs : List ℕ) (room : ℕ) (why : Refusal) (t : ℕ) (m' : Model) (log : List Logged)
    → step (asked xs m) room m [] ≡ refused why t m' log → Reaches m (ended (number_of why) 0 t m' log)
reaches_left m xs room why t m' log e h =
    let is = (comes_refused (asked xs m) room m [] why t m' log e).model in
    let rise : m'.tick ≡ m.tick + t = ap (λ k. k.tick) (sym is) ∙ ticks_rise t m in
    omega (arith, asked_within xs m h, few t (refused_kept (asked xs m) room m [] e))
  where
    few : (t : ℕ) → Kept (asked xs m) room m [] (refused why t m' log) → t ≤ ticks_of (asked xs m)
    few zero k = omega arith
    few (suc t) k = let fewer = (part_left k).0 in omega arith

pub session_reaches : (m : Model) (xs : List ℕ) (room : ℕ) → m.tick ≤ m.last → (session m xs room).model.tick ≤ m.last
session_reaches m xs room =
    by_records (λ m xs room r. Reaches m r) (λ m room h. h) (λ m xs room m' log some e. reaches_took m xs room m' log e)
    (λ m xs room why t m' log some e. reaches_left m xs room why t m' log e)
    m xs room

-- nor does a record of its log
pub log_within : (m : Model) (xs : List ℕ) (room : ℕ) → m.tick ≤ m.last → UpTo m.last (session m xs room).log
log_within m xs room h =
    let end = session_reaches m xs room h in
    every_as (λ r u. omega arith) (session m xs room).log (session_upto m xs room)

-- ---- where it is the last tick of all, 8 is given before 10 could be
pub never_10 : (m : Model) (xs : List ℕ) (room : ℕ) → AllBytes xs → m.last ≡ 4294967295 → (session m xs room).number ≢ 10
unfolding number_of
never_10 m xs room bytes all ten = by (by_table m xs room bytes (omega arith) (λ nine. omega arith))
  where
    not : (why : Refusal) → number_of why ≡ 10 → Given why (drop (session m xs room).offset xs) (session m xs room).model → ⊥
    not UnknownMark n g = omega arith
    not Cut n g = omega arith
    not LateOrSkipped n g = omega arith
    not NoSuchSensor n g = omega arith
    not Undeclared n g = omega arith
    not BadSample n g = omega arith
    not NoTicks n g = omega arith
    not TimeOver n g = omega arith
    not Full n g = omega arith
    not BeyondTable n (k, h, some, timely, beyond) = let same = session_last m xs room in omega arith
    not NotReadyAgain n g = omega arith

    by : (why : Refusal) × ((session m xs room).number ≡ number_of why) × Given why (drop (session m xs room).offset xs) (session m xs room).model → ⊥
    by (why, n, g) = not why (sym n ∙ ten) g

-- M-106, THE HOUR TABLE OF A SESSION: what is logged with the table in use is in it, each event once. Demand 3 read off it is in Demand3.
-- No clock is known to any definition here, so none can move an event into another hour.
-- Assumes nothing.
use Prim.Native.Nat.{ℕ, zero, suc, ◌*◌, ◌+◌, ◌<◌, ◌≤◌, max}
use Rattle.demands.proofs.Demand1.{logged_within}
use Rattle.demands.proofs.Shared.LogTicks.{session_climbs, session_events, session_rises}
use Rattle.demands.specs.Window.{Climbs, between, events_of}
use Rattle.device.specs.Device.{fresh}
use Rattle.hours.proofs.InHours.{events_entry, hours_sum_all}
use Rattle.hours.proofs.InParts.{not_refused_whole}
use Rattle.hours.specs.Table.{before, event_table, events_in, last_tick, sum_over}
use Rattle.hours.specs.Tallies.{tally, tally_of}
use Rattle.record.specs.Log.{EventAbove, Every, Logged, UpTo, bytes_of}
use Rattle.session.specs.Session.{session}
use Rattle.tabled.specs.InUse.{in_use}
use Rattle.timers.specs.Pace.{noted}
use borrow.Author.Tests.{leb-false, leb-true, ltb-false, ltb-true}
use lib.Dec.{leb, ltb}
use lib.ListN.{get_or, length}
use mathlib.Core.Bool.{Bool, false, true, ◌&&◌}
use mathlib.Core.List.{List, [], ◌++◌, ◌∷◌}
use mathlib.Core.Path.{refl, ◌≡◌, ◌∙◌}
use native.Mathlib.Omega.{arith}

-- ticks that rise strictly are not more than there are numbers for them
few_between : (last low high : ℕ) (ticks : List ℕ) → Climbs last ticks → low ≤ high → length (between low high ticks) + max low last ≤ max high last
unfolding between
few_between last low high [] c h = omega arith
few_between last low high (t ∷ ticks) c h = by (ltb low t) refl (leb t high) refl (few_between t low high ticks c.1 h)
  where
    by : (a : Bool) → ltb low t ≡ a → (b : Bool) → leb t high ≡ b → length (between low high ticks) + max low t ≤ max high t → length (noted (a && b) t ++ between low high ticks) + max low last ≤ max high last
    by true p true q rest = let l = ltb-true low t p in let u = leb-true t high q in omega (arith, c.0)
    by true p false q rest = let l = ltb-true low t p in let u = leb-false t high q in omega (arith, c.0)
    by false p b q rest = let l = ltb-false low t p in omega (arith, c.0)

sum_same : (n : ℕ) (f g : ℕ → ℕ) → ((k : ℕ) → k < n → f k ≡ g k) → sum_over n f ≡ sum_over n g
unfolding sum_over
sum_same zero f g same = refl
sum_same (suc n) f g same = omega (arith, sum_same n f g (λ k h. same k (omega arith)), same n (omega arith))

module _ (input : List ℕ) (room : ℕ) where
  abbrev log : List Logged
  log = (session in_use input room).log

  -- an EV of tick 0 cannot be there, nor a record beyond the table
  pub some : Every (EventAbove 0) log
  unfolding in_use fresh
  some = session_events in_use input room

  pub within : UpTo last_tick log
  unfolding in_use fresh
  within = logged_within in_use input room (omega arith)

  -- "The sum over hours equals the EV records of that instance in the log"
  pub sum_is_all : (i : ℕ) → sum_over 48 (λ k. events_in i k log) ≡ length (events_of i log)
  sum_is_all i = hours_sum_all i log some within

  -- no hour has more of an instance's events than ticks
  pub hour_few : (i k : ℕ) → events_in i k log ≤ 72000
  unfolding events_in in_use fresh
  hour_few i k = omega (arith, few_between 0 (before k) (before (suc k)) (events_of i log) (session_climbs in_use input room i) (omega arith))

  -- so that its entry is their number, and the entries of an instance come to the number of its EV records
  module _ (i : ℕ) (row : i < 16) (entries : List ℕ) (there : 768 ≤ length entries) where
    pub entry_is : (k : ℕ) → k < 48 → get_or (event_table log entries) (i * 48 + k) 0 ≡ events_in i k log
    entry_is k h = events_entry i k log entries row h (omega arith) ∙ omega (arith, hour_few i k)

    pub entries_sum : sum_over 48 (λ k. get_or (event_table log entries) (i * 48 + k) 0) ≡ length (events_of i log)
    entries_sum = sum_same 48 (λ k. get_or (event_table log entries) (i * 48 + k) 0) (λ k. events_in i k log) entry_is ∙ sum_is_all i

  -- and no call refuses the log that it wrote
  pub log_not_refused : tally_of (bytes_of log) ≡ tally 0 (length (bytes_of log))
  unfolding in_use fresh
  log_not_refused = not_refused_whole log (session_rises in_use input room) within

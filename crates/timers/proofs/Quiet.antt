-- While `silent_for` lasts no event goes out, and each tick only lets the timers fall.
-- Assumes nothing.
use Prim.Native.Nat.{ℕ, suc, ◌-◌, ◌<◌, ◌≤◌}
use Rattle.std.specs.Prelude.{None, Option, Some}
use Rattle.timers.specs.Decision.{decided}
use Rattle.timers.specs.Quiet.{forever, held_for, rested, rested_report, silent_for}
use Rattle.timers.specs.Timers.{due, fallen, fallen_report}
use Rattle.timers.specs.declared.Decision.TheVariants.{Reported, Silent, Triggered}
use Rattle.timers.specs.declared.Rules.{Rules}
use Rattle.timers.specs.declared.Timers.{Timers}
use borrow.Author.Tests.{ne_eqb}
use lib.Dec.{eqb}
use mathlib.Core.Bool.{Bool, and-false, cond, false, true, ◌&&◌}
use mathlib.Core.Path.{ap, refl, ◌≡◌}
use native.Mathlib.Decide.{dec_le}
use native.Mathlib.Omega.{arith}

-- ---- the timers
none_report : (t : Option ℕ) → rested_report t 0 ≡ t
unfolding rested_report
none_report None = refl
none_report (Some m) = ap Some (omega arith)

pub rested_none : (t : Timers) → rested t 0 ≡ t
unfolding rested
rested_none t =
    let dead : t.dead - 0 ≡ t.dead = omega arith in
    rw (none_report t.report, dead)

next_report : (t : Option ℕ) (n : ℕ) → fallen_report (rested_report t n) ≡ rested_report t (suc n)
unfolding fallen_report rested_report
next_report None n = refl
next_report (Some m) n = ap Some (omega arith)

pub rested_next : (t : Timers) (n : ℕ) → fallen (rested t n) ≡ rested t (suc n)
unfolding fallen rested
rested_next t n =
    let dead : t.dead - n - 1 ≡ t.dead - suc n = omega arith in
    rw (next_report t.report n, dead)

-- ---- the decision
either : (b : Bool) → cond b Silent Silent ≡ Silent
either true = refl
either false = refl

-- with no cause of the sensor's own, the later of the two timers holds the report back
holds : (dead : ℕ) (t : Option ℕ) (n : ℕ) → n < held_for t dead
    → cond (eqb (dead - suc n) 0) (cond (due (rested_report t (suc n)) && true) Reported Silent) Silent ≡ Silent
unfolding held_for rested_report due
holds dead None n h = either (eqb (dead - suc n) 0)
holds dead (Some m) n h = go (dec_le dead (suc n))
  where
    go : Dec (dead ≤ suc n) → cond (eqb (dead - suc n) 0) (cond (eqb (m - suc n) 0 && true) Reported Silent) Silent ≡ Silent
    go (yes p) =
        let left : eqb (m - suc n) 0 ≡ false = ne_eqb (m - suc n) 0 (λ z. omega arith) in
        rw left (either (eqb (dead - suc n) 0))
    go (no p) =
        let left : eqb (dead - suc n) 0 ≡ false = ne_eqb (dead - suc n) 0 (λ z. omega arith) in
        rw left

pub stays_shut : (r : Rules) (valid : Bool) (t : Timers) (cause : Bool) (n : ℕ)
    → n < silent_for r valid t cause → decided r valid (rested t (suc n)) cause ≡ Silent
unfolding silent_for decided rested
stays_shut r valid t cause n h = go r.enabled valid cause r.repeat h
  where
    go : (enabled valid cause repeat : Bool)
        → n < cond (enabled && valid) (cond cause (t.dead - 1) (cond repeat (held_for t.report t.dead) forever)) forever
        → cond ((enabled && valid) && eqb (t.dead - suc n) 0)
        (cond cause Triggered (cond (due (rested_report t.report (suc n)) && repeat) Reported Silent)) Silent ≡ Silent
    go false valid cause repeat h = refl
    go true false cause repeat h = refl
    go true true true repeat h =
        let left : eqb (t.dead - suc n) 0 ≡ false = ne_eqb (t.dead - suc n) 0 (λ z. omega arith) in
        rw left
    go true true false true h = holds t.dead t.report n h
    go true true false false h = rw (and-false (due (rested_report t.report (suc n)))) (either (eqb (t.dead - suc n) 0))

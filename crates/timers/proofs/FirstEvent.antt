-- THE FIRST EVENT of an enabled instance whose filter lets the report out: by the first due report at the latest.
-- Assumes nothing.
use Prim.Native.Nat.{ℕ, zero, suc, max, ◌+◌, ◌-◌, ◌<◌, ◌≤◌}
use Rattle.std.specs.Prelude.{Some}
use Rattle.timers.specs.Decision.{after, decided, sends}
use Rattle.timers.specs.Pace.{noted, sendings}
use Rattle.timers.specs.Timers.{due, fallen, fallen_report}
use Rattle.timers.specs.declared.Decision.TheVariants.{Reported, Silent, Triggered}
use Rattle.timers.specs.declared.Decision.{Decision}
use Rattle.timers.specs.declared.Rules.{Rules}
use Rattle.timers.specs.declared.Timers.{Timers}
use borrow.Author.Tests.{ne_eqb}
use lib.Dec.{eqb}
use lib.ListN.{length}
use mathlib.Core.Bool.{Bool, cond, false, true, ◌&&◌}
use mathlib.Core.List.{List, Memᴰ, [], ◌++◌, ◌∷◌}
use mathlib.Core.Logic.{inl, inr, ◌⊎◌}
use mathlib.Core.Path.{refl, ◌≡◌}
use native.Mathlib.Omega.{arith}

-- one of the events comes within k ticks, one at least
abbrev pub Soon : (now k : ℕ) → List ℕ → Type 0
Soon now k events = (e : ℕ) × Memᴰ e events × (now < e) × (e ≤ now + max k 1)

module _ (r : Rules) (on : r.enabled ≡ true) (lets : r.repeat ≡ true) where
  abbrev running : (d k : ℕ) → Timers
  running d k = record { dead = d; report = Some k }

  decided_so : (d k : ℕ) (c : Bool) → decided r true (running d k) c ≡ cond (eqb d 0) (cond c Triggered (cond (eqb k 0 && true) Reported Silent)) Silent
  unfolding decided due
  decided_so d k c = rw (on, lets)

  -- the next tick sends; or it does not, and the report is not yet due
  next : (d k : ℕ) (c : Bool) → d ≤ k
      → (sends (decided r true (running d k) c) ≡ true)
      ⊎ ((sends (decided r true (running d k) c) ≡ false) × (after (decided r true (running d k) c) r (running d k) ≡ running d k) × (0 < k))
  unfolding sends after
  next d k c h = rw (decided_so d k c) (go d k c h)
    where
      decision : (d k : ℕ) → Bool → Decision
      decision d k c = cond (eqb d 0) (cond c Triggered (cond (eqb k 0 && true) Reported Silent)) Silent

      go : (d k : ℕ) (c : Bool) → d ≤ k
          → (sends (decision d k c) ≡ true) ⊎ ((sends (decision d k c) ≡ false) × (after (decision d k c) r (running d k) ≡ running d k) × (0 < k))
      go zero zero true h = inl refl
      go zero zero false h = inl refl
      go zero (suc k) true h = inl refl
      go zero (suc k) false h = rw (ne_eqb (suc k) 0 (λ e. omega arith)) (inr (refl, refl, omega arith))
      go (suc d) k c h = rw (ne_eqb (suc d) 0 (λ e. omega arith)) (inr (refl, refl, omega arith))

  fell : (d k : ℕ) → fallen (running d k) ≡ running (d - 1) (k - 1)
  unfolding fallen fallen_report
  fell d k = refl

  -- the report is due in k ticks, and dead time is over by then
  pub first_sent : (d k now : ℕ) (cs : List Bool) → d ≤ k → max k 1 ≤ length cs → Soon now k (sendings r (running d k) now cs)
  unfolding sendings
  first_sent d k now [] h l = absurd (omega arith)
  first_sent d k now (c ∷ cs) h l = rw (fell d k) (go (next (d - 1) (k - 1) c (omega arith)) (λ a b. first_sent (d - 1) (k - 1) (suc now) cs a b))
    where
      decision : Decision
      decision = decided r true (running (d - 1) (k - 1)) c

      go : (sends decision ≡ true) ⊎ ((sends decision ≡ false) × (after decision r (running (d - 1) (k - 1)) ≡ running (d - 1) (k - 1)) × (0 < k - 1))
          → (d - 1 ≤ k - 1 → max (k - 1) 1 ≤ length cs → Soon (suc now) (k - 1) (sendings r (running (d - 1) (k - 1)) (suc now) cs))
          → Soon now k (noted (sends decision) (suc now) ++ sendings r (after decision r (running (d - 1) (k - 1))) (suc now) cs)
      go (inl sent) later = rw sent (suc now, Memᴰ.head refl, omega arith, omega arith)
      go (inr (silent, same, more)) later =
          let (e, mem, low, high) = later (omega arith) (omega arith) in
          rw (silent, same) (e, mem, omega arith, omega arith)

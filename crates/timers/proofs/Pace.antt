-- DEMAND 3 of the timers alone: just after an event, over any list of causes, the events are paced; and document 01's two hours.
-- The two counts and the gap are those of events so far apart: `Pace/UpperCount`, `Pace/LowerCount`, `Pace/Gap`.
-- Assumes nothing.
pub mod Apart
mod Gap
mod LowerCount
mod UpperCount
use Prim.Native.Nat.{ℕ, zero, suc, ◌+◌, ◌-◌, ◌<◌, ◌≤◌, max}
use Rattle.std.specs.Prelude.{Some}
use Rattle.timers.proofs.Pace.Apart.{Spaced}
use Rattle.timers.proofs.Pace.Gap.{no_gap}
use Rattle.timers.proofs.Pace.LowerCount.{lower_count}
use Rattle.timers.proofs.Pace.UpperCount.{upper_count}
use Rattle.timers.specs.Decision.{after, decided, sends}
use Rattle.timers.specs.Pace.{Paced, Reporting, noted, sendings}
use Rattle.timers.specs.Timers.{dead_time, due, fallen, fallen_report, report_time, started, started_report}
use Rattle.timers.specs.declared.Decision.TheVariants.{Reported, Silent, Triggered}
use Rattle.timers.specs.declared.Decision.{Decision}
use Rattle.timers.specs.declared.Rules.{Rules}
use Rattle.timers.specs.declared.Timers.{Timers}
use borrow.Author.Tests.{ne_eqb}
use lib.Dec.{eqb, lit<}
use lib.ListN.{length}
use mathlib.Core.Bool.{Bool, cond, false, true, ◌&&◌}
use mathlib.Core.List.{List, [], ◌++◌, ◌∷◌}
use mathlib.Core.Logic.{◌⊎◌, inl, inr}
use mathlib.Core.Path.{◌≡◌, refl, subst₃, sym, ◌∙◌}
use native.Mathlib.Nat.{add-zero, mul-pos}
use native.Mathlib.Omega.{arith}

-- events so far apart are paced
paced : (D R last n : ℕ) (es : List ℕ) → 0 < R → Spaced (max D 1) R last es (last + n) → Paced D R last n es
paced D R last n es h s =
    record {
      at_least = omega (arith, lower_count (max D 1) R last n es h s);
      at_most = omega (arith, upper_count (max D 1) R last n es (omega arith) s);
      gapless = λ a l u. let (e, m, above, up) = no_gap (max D 1) R last es (last + n) a s l u in (e, m, omega arith, omega arith);
    }

-- what is decided of an enabled instance whose filter lets the report out, with so much of dead time and of the report time left
abbrev decision : (dead report : ℕ) → (cause : Bool) → Decision
decision dead report cause = cond (eqb dead 0) (cond cause Triggered (cond (eqb report 0 && true) Reported Silent)) Silent

-- the timers k ticks after an event, if none came since
abbrev pub since : Rules → ℕ → Timers
since r k = record { dead = dead_time r - k; report = Some (report_time r - k) }

whole : (n : ℕ) → n ≡ n - 0
whole n = omega arith

module _ (r : Rules) (g : Reporting r) where
  -- R is above 0
  positive : 0 < report_time r
  unfolding report_time
  positive = omega (arith, mul-pos g.set g.unit)

  pub started_since : started r ≡ since r 0
  unfolding started started_report
  started_since = rw (ne_eqb r.report 0 (λ e. omega (arith, g.set))) (λ i. record { dead = whole (dead_time r) i; report = Some (whole (report_time r) i) })

  fallen_since : (k : ℕ) → fallen (since r k) ≡ since r (suc k)
  unfolding fallen fallen_report
  fallen_since k = λ i. record { dead = p i; report = Some (q i) }
    where
      p : dead_time r - k - 1 ≡ dead_time r - suc k
      p = omega arith

      q : report_time r - k - 1 ≡ report_time r - suc k
      q = omega arith

  above : dead_time r ≤ report_time r
  unfolding report_time
  above = omega arith

  -- the next tick sends, not too early; or it does not, and the report is not yet due
  Next : ℕ → Decision → Type 0
  Next k decision = ((sends decision ≡ true) × (after decision r (since r (suc k)) ≡ started r) × (dead_time r ≤ suc k)) ⊎ ((sends decision ≡ false) × (after decision r (since r (suc k)) ≡ since r (suc k)) × (suc k < report_time r))

  decides : (k : ℕ) (c : Bool) → decided r true (since r k) c ≡ decision (dead_time r - k) (report_time r - k) c
  unfolding decided due
  decides k c = rw (g.on, g.lets)

  next : (k : ℕ) (c : Bool) → Next k (decided r true (since r (suc k)) c)
  unfolding Next sends after
  next k c = rw (decides (suc k) c) (go (dead_time r - suc k) (report_time r - suc k) c refl refl)
    where
      go : (x y : ℕ) (c : Bool) → dead_time r - suc k ≡ x → report_time r - suc k ≡ y → Next k (decision x y c)
      go zero zero true p q = inl (refl, refl, omega arith)
      go zero zero false p q = inl (refl, refl, omega arith)
      go zero (suc y) true p q = inl (refl, refl, omega arith)
      go zero (suc y) false p q = rw (ne_eqb (suc y) 0 (λ e. omega arith)) (inr (refl, refl, omega arith))
      go (suc x) y c p q = rw (ne_eqb (suc x) 0 (λ e. omega arith)) (inr (refl, refl, omega (arith, above)))

  -- the events from k ticks after one at `last`
  abbrev SpacedOver : List Bool → Type 0
  SpacedOver cs = (k last : ℕ) → k < report_time r → Spaced (max (dead_time r) 1) (report_time r) last (sendings r (since r k) (last + k) cs) (last + k + length cs)

  one_more_lem : (c : Bool) (cs : List Bool) → SpacedOver cs → SpacedOver (c ∷ cs)
  unfolding Next sendings
  one_more_lem c cs ih k last h = go (fallen (since r k)) (fallen_since k)
    where
      moved : (l : ℕ) {n n' m m' : ℕ} {t t' : Timers} → t ≡ t' → n ≡ n' → m ≡ m' → Spaced (max (dead_time r) 1) (report_time r) l (sendings r t n cs) m → Spaced (max (dead_time r) 1) (report_time r) l (sendings r t' n' cs) m'
      moved l p q e s = subst₃ (λ t n m. Spaced (max (dead_time r) 1) (report_time r) l (sendings r t n cs) m) p q e s

      Goal : Decision → Timers → Type 0
      Goal decision t = Spaced (max (dead_time r) 1) (report_time r) last (noted (sends decision) (suc (last + k)) ++ sendings r (after decision r t) (suc (last + k)) cs) (last + k + suc (length cs))

      by : (decision : Decision) → Next k decision → Goal decision (since r (suc k))
      by decision (inl (sent, restarted, over)) =
          rw sent
          (omega arith, omega arith, moved (suc (last + k)) (sym (restarted ∙ started_since)) (omega arith) (omega arith) (ih 0 (suc (last + k)) positive))
      by decision (inr (silent, fell, early)) = rw silent (moved last (sym fell) (omega arith) (omega arith) (ih (suc k) last early))

      go : (t : Timers) → t ≡ since r (suc k) → Goal (decided r true t c) t
      go t p = rw p (by (decided r true (since r (suc k)) c) (next k c))

  spaced : (cs : List Bool) → SpacedOver cs
  unfolding sendings
  spaced [] k last h = omega arith
  spaced (c ∷ cs) k last h = one_more_lem c cs (spaced cs) k last h

  -- from the timers as an event at tick `last` starts them, over any list of causes: events so far apart
  pub timers_spaced : (cs : List Bool) (last : ℕ) → Spaced (max (dead_time r) 1) (report_time r) last (sendings r (started r) last cs) (last + length cs)
  timers_spaced cs last = rw started_since (rw add-zero at (spaced cs 0 last positive))

  -- DEMAND 3 of the timers
  pub timers_paced : (cs : List Bool) (last : ℕ) → Paced (dead_time r) (report_time r) last (length cs) (sendings r (started r) last cs)
  timers_paced cs last = paced (dead_time r) (report_time r) last (length cs) _ positive (timers_spaced cs last)

-- ---- document 01's hours: 72,000 ticks from an event on
pub hour_30_600 : (last : ℕ) (events : List ℕ) → Paced 30 600 last 72000 events → (120 ≤ length events) × (length events ≤ 2400)
hour_30_600 last events p = (p.at_least, p.at_most)

pub hour_255_255 : (last : ℕ) (events : List ℕ) → Paced 255 255 last 72000 events → length events ≡ 282
hour_255_255 last events p = omega arith

-- a light sensor with these multipliers, whose filter lets the report out
abbrev pub light : (report deadtime : ℕ) → Rules
light report deadtime = record { enabled = true; repeat = true; deadtime = deadtime; report = report; units = record { dead = 1; report = 20 } }

reporting : (report deadtime : ℕ) → 0 < report → Reporting (light report deadtime)
reporting report deadtime h = record { on = refl; lets = refl; set = h; unit = lit< tt }

hour_of : (report deadtime : ℕ) → 0 < report → (cs : List Bool) (last : ℕ) → length cs ≡ 72000 → Paced (dead_time (light report deadtime)) (report_time (light report deadtime)) last 72000 (sendings (light report deadtime) (started (light report deadtime)) last cs)
hour_of report deadtime h cs last e = rw e at (timers_paced (light report deadtime) (reporting report deadtime h) cs last)

-- at its defaults it sends 120 to 2,400 events, whatever the causes
pub hour_light : (cs : List Bool) (last : ℕ) → length cs ≡ 72000 → let sent = length (sendings (light 30 30) (started (light 30 30)) last cs) in (120 ≤ sent) × (sent ≤ 2400)
unfolding dead_time report_time
hour_light cs last e = hour_30_600 last _ (hour_of 30 30 (lit< tt) cs last e)

-- with report 1 and deadtime 255 exactly 282
pub hour_exact : (cs : List Bool) (last : ℕ) → length cs ≡ 72000 → length (sendings (light 1 255) (started (light 1 255)) last cs) ≡ 282
unfolding dead_time report_time
hour_exact cs last e = hour_255_255 last _ (hour_of 1 255 (lit< tt) cs last e)

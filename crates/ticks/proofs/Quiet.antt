-- Quiet ticks in one step: each of them logs nothing and lets timers fall, so that all come to the rested device.
-- Assumes nothing.
use Prim.Native.Nat.{ℕ, min, suc, zero, ◌+◌, ◌-◌, ◌<◌, ◌^◌, ◌≤◌}
use Rattle.device.specs.Device.{declared_instances, under_way, with_instances, with_tick}
use Rattle.device.specs.declared.model.Model.{Model}
use Rattle.sensor.proofs.Laws.{both}
use Rattle.sensor.proofs.Quiet.{quiet_tick, rested_none}
use Rattle.sensor.specs.Quiet.{quiet_for, rested}
use Rattle.sensor.specs.declared.instance.Instance.{Instance}
use Rattle.sensor.specs.declared.instance.Ticked.{Ticked}
use Rattle.ticks.proofs.Sweep.{sweep_first_of, sweep_more}
use Rattle.ticks.specs.Quiet.{in_time, pass_log, pass_model, pass_ticks, quiet_all, quiet_ticks, rest_model}
use Rattle.ticks.specs.Tick.{on_tick, sent_log, sweep, sweep_log, tick_log, tick_model}
use borrow.Author.Tests.{le-leb, leb-true, lt-ltb, ltb-true, ne_eqb}
use lib.Dec.{eqb}
use lib.ListN.{drop, get_or, length, set, take}
use lib.Seq.{take_all}
use mathlib.Core.Bool.{false, true}
use mathlib.Core.List.{List, [], map, ◌++◌, ◌∷◌}
use mathlib.Core.Path.{ap, refl, sym, ◌≡◌, ◌∙◌}
use native.Mathlib.Decide.{dec_le}
use native.Mathlib.Nat.{le_of_suc-le-suc, not-suc-le-zero}
use native.Mathlib.Numerals.{add-one}
use native.Mathlib.Omega.{arith}

-- an instance after n quiet ticks
abbrev pub resting : (n : ℕ) → Instance → Instance
resting n x = rested x n

-- ---- a quiet tick
none_rested : (k : ℕ) (xs : List Instance) → sweep k (resting 0) xs ≡ xs
unfolding sweep
none_rested zero xs = refl
none_rested (suc k) [] = refl
none_rested (suc k) (x ∷ xs) = rw (rested_none x, none_rested k xs)

tick_rested : (most k n : ℕ) (xs : List Instance) → n < quiet_all most (take k xs) → sweep k on_tick (sweep k (resting n) xs) ≡ sweep k (resting (suc n)) xs
unfolding sweep quiet_all
tick_rested most zero n xs h = refl
tick_rested most (suc k) n [] h = refl
tick_rested most (suc k) n (x ∷ xs) h =
    ap (λ (t : Ticked). t.instance ∷ sweep k on_tick (sweep k (resting n) xs)) (quiet_tick x n (omega arith))
    ∙ ap (λ (r : List Instance). rested x (suc n) ∷ r) (tick_rested most k n xs (omega arith))

log_rested : (most tick i k n : ℕ) (xs : List Instance) → n < quiet_all most (take k xs) → sweep_log tick i (take k (sweep k (resting n) xs)) ≡ []
unfolding sent_log sweep_log sweep quiet_all
log_rested most tick i zero n xs h = refl
log_rested most tick i (suc k) n [] h = refl
log_rested most tick i (suc k) n (x ∷ xs) h = rw (quiet_tick x n (omega arith), log_rested most tick (suc i) k n xs (omega arith))

-- while it is quiet, a tick logs nothing and leaves the rested device
module _ (m : Model) (most : ℕ) where
  pub quiet_first : 0 < quiet_ticks m most → (tick_model m ≡ rest_model m 1) × (tick_log m ≡ [])
  unfolding quiet_ticks rest_model tick_log tick_model
  quiet_first h =
      let same = none_rested m.declared m.instances in
      let model : sweep m.declared on_tick m.instances ≡ sweep m.declared (resting 1) m.instances =
      rw same at (tick_rested most m.declared 0 m.instances h) in
      let log : sweep_log (m.tick + 1) 0 (take m.declared m.instances) ≡ [] =
      rw same at (log_rested most (m.tick + 1) 0 m.declared 0 m.instances h) in
      (rw model, log)

  pub quiet_next : (n : ℕ) → n < quiet_ticks m most → (tick_model (rest_model m n) ≡ rest_model m (suc n)) × (tick_log (rest_model m n) ≡ [])
  unfolding quiet_ticks rest_model tick_log tick_model
  quiet_next n h =
      let now : m.tick + n + 1 ≡ m.tick + suc n = omega arith in
      (rw (tick_rested most m.declared n m.instances h, now), log_rested most (m.tick + n + 1) 0 m.declared n m.instances h)

-- ---- one step
all_most : (most : ℕ) (xs : List Instance) → quiet_all most xs ≤ most
unfolding quiet_all
all_most most [] = omega arith
all_most most (x ∷ xs) = let p = all_most most xs in omega arith

pub quiet_most : (m : Model) (most : ℕ) → quiet_ticks m most ≤ most
unfolding quiet_ticks
quiet_most m most = all_most most (take m.declared m.instances)

pub in_time_lem : (m : Model) (most : ℕ) → 0 < most → m.tick + most < 2 ^ 32 → in_time m most ≡ true
unfolding in_time
in_time_lem m most some h = rw (lt-ltb 0 most some, le-leb most (4294967295 - m.tick) (omega arith))

pub time_left : (m : Model) (most : ℕ) → in_time m most ≡ true → (0 < most) × (most ≤ 4294967295 - m.tick)
unfolding in_time
time_left m most e = let p = both _ _ e in (ltb-true _ _ p.0, leb-true _ _ p.1)

-- without a number for each, no tick
pub pass_none : (m : Model) (most : ℕ) → in_time m most ≡ false → (pass_ticks m most ≡ 0) × (pass_model m most ≡ m) × (pass_log m most ≡ [])
unfolding pass_ticks pass_model pass_log
pass_none m most e = (rw e, rw e, rw e)

module _ (m : Model) (most : ℕ) (time : in_time m most ≡ true) where
  -- a step is a tick at least, and no more than are left
  pub pass_some : 0 < pass_ticks m most
  unfolding pass_ticks
  pass_some = rw time (omega arith)

  pub pass_most : pass_ticks m most ≤ most
  unfolding pass_ticks
  pass_most = rw time (omega (arith, quiet_most m most, (time_left m most time).0))

  -- it is the next tick
  pub pass_tick : quiet_ticks m most ≡ 0 → (pass_ticks m most ≡ 1) × (pass_model m most ≡ tick_model m) × (pass_log m most ≡ tick_log m)
  unfolding pass_ticks pass_model pass_log
  pass_tick e = (rw (time, e), rw (time, e), rw (time, e))

  -- or the quiet ticks
  pub pass_rest : 0 < quiet_ticks m most
      → (pass_ticks m most ≡ quiet_ticks m most) × (pass_model m most ≡ rest_model m (quiet_ticks m most)) × (pass_log m most ≡ [])
  unfolding pass_ticks pass_model pass_log
  pass_rest h =
      let some : eqb (quiet_ticks m most) 0 ≡ false = ne_eqb (quiet_ticks m most) 0 (λ e. omega arith) in
      (rw time (omega arith), rw (time, some), rw (time, some))

  -- the tick number rises by as many
  pub pass_time : (pass_model m most).tick ≡ m.tick + pass_ticks m most
  unfolding rest_model tick_model
  pass_time = by (dec_le (quiet_ticks m most) 0)
    where
      by : Dec (quiet_ticks m most ≤ 0) → (pass_model m most).tick ≡ m.tick + pass_ticks m most
      by (yes h) = let one = pass_tick (omega arith) in rw (one.0, one.1)
      by (no h) = let rests = pass_rest (omega arith) in rw (rests.0, rests.1)

-- ---- the loop of `quiet`
quiet_more : (most k : ℕ) (xs : List Instance) (d : Instance) → k < length xs
    → quiet_all most (take (suc k) xs) ≡ min (quiet_all most (take k xs)) (quiet_for (get_or xs k d))
unfolding quiet_all
quiet_more most k [] d h = absurd (not-suc-le-zero h)
quiet_more most zero (x ∷ xs) d h = omega arith
quiet_more most (suc k) (x ∷ xs) d h = let p = quiet_more most k xs d (le_of_suc-le-suc h) in rw p (omega arith)

-- one more instance is asked
pub quiet_turn : (most k : ℕ) (xs : List Instance) (d : Instance) {t q r : ℕ} → k < length xs → t ≡ quiet_all most (take k xs)
    → q ≡ quiet_for (get_or xs k d) → r ≡ min t q → r ≡ quiet_all most (take (k + 1) xs)
quiet_turn most k xs d h p q e = rw (add-one, quiet_more most k xs d h, e, p, q)

-- one that may send is enough
quiet_none : (most k : ℕ) (xs : List Instance) (d : Instance) → k < length xs → quiet_for (get_or xs k d) ≡ 0 → quiet_all most xs ≡ 0
unfolding quiet_all
quiet_none most k [] d h e = absurd (not-suc-le-zero h)
quiet_none most zero (x ∷ xs) d h e = rw e (omega arith)
quiet_none most (suc k) (x ∷ xs) d h e = rw (quiet_none most k xs d (le_of_suc-le-suc h) e) (omega arith)

module _ (m : Model) (most i : ℕ) {xs : List Instance} (e : xs ≡ declared_instances m) where
  pub quiet_stop : (d : Instance) {q : ℕ} → i < length xs → q ≡ quiet_for (get_or xs i d) → q ≡ 0 → 0 ≡ quiet_ticks m most
  unfolding quiet_ticks declared_instances
  quiet_stop d h p z = sym (ap (quiet_all most) (sym e) ∙ quiet_none most i xs d h (sym p ∙ z))

  pub quiet_asked : {t : ℕ} → length xs ≤ i → t ≡ quiet_all most (take i xs) → t ≡ quiet_ticks m most
  unfolding quiet_ticks declared_instances
  quiet_asked past p = p ∙ ap (quiet_all most) (take_all i xs past ∙ e)

-- ---- the loop of `rest_all`
-- one more instance rests
pub rest_turn : (n i : ℕ) (xs₀ xs : List Instance) (d y : Instance) → xs ≡ sweep i (resting n) xs₀ → i < length xs₀ → y ≡ rested (get_or xs i d) n
    → set xs i y ≡ sweep (i + 1) (resting n) xs₀
rest_turn n i xs₀ xs d y e h p = rw e (sweep_more (resting n) i xs₀ d y h (rw e at p))

-- the device after n quiet ticks, of which the first k instances are declared
pub rested_model : (m : Model) (n k : ℕ) {ys : List Instance} → k ≡ length (declared_instances m) → ys ≡ map (resting n) (take k m.instances)
    → under_way (with_tick (m.tick + n) (with_instances (ys ++ drop k m.instances) m)) ≡ rest_model m n
unfolding rest_model declared_instances
rested_model m n k {ys} e p = rw (sweep_first_of (resting n) m.declared k m.instances ys e p)

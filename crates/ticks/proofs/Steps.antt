-- What a step comes to: nothing, one tick, or the quiet ones.
-- Assumes nothing.
use Prim.Native.Nat.{ℕ, ◌<◌}
use Rattle.device.proofs.Laws.{came_once}
use Rattle.device.proofs.Tail.{quiet}
use Rattle.device.specs.Device.{Comes}
use Rattle.device.specs.declared.model.Full.{Full}
use Rattle.device.specs.declared.model.Model.{Model}
use Rattle.std.specs.Prelude.{Err, IsErr, Ok, Result}
use Rattle.ticks.proofs.Quiet.{pass_none, pass_rest, pass_tick}
use Rattle.ticks.specs.Quiet.{Passing, Steps, in_time, passed, quiet_ticks, rest_model, stepped}
use Rattle.ticks.specs.Tick.{tick_log, tick_model}
use Rattle.ticks.specs.declared.passing.Passed.{Passed}
use mathlib.Core.Bool.{false, true, true≢false}
use mathlib.Core.List.{List}
use mathlib.Core.Path.{ap, ap₂, refl, sym, ◌≡◌}

-- what came of a step says what the device is after it, and what is handed back
pub stepped_once : (m m' : Model) (r r' : Result Passed Full) → stepped m r ≡ stepped m' r' → (m ≡ m') × (r ≡ r')
stepped_once m m' (Ok p) (Ok p') e =
    let same = came_once m m' (Ok p.written) (Ok p'.written) (ap (λ (x : Passing). x.offered) e) in
    (same.0, ap₂ (λ t n. Ok (record { ticks = t; written = n })) (ap (λ (x : Passing). x.ticks) e) (ap (λ (x : Passing). x.offered.written) e))
stepped_once m m' (Ok p) (Err full) e = absurd (true≢false (ap (λ (x : Passing). x.offered.fits) e))
stepped_once m m' (Err full) (Ok p) e = absurd (true≢false (sym (ap (λ (x : Passing). x.offered.fits) e)))
stepped_once m m' (Err full) (Err full') e = (ap (λ (x : Passing). x.offered.model) e, refl)

module _ (m : Model) (most : ℕ) (tail : List ℕ) where
  pub steps_none : in_time m most ≡ false → Steps m most m (Ok (record { ticks = 0; written = 0 })) tail tail
  unfolding passed
  steps_none late =
      let none = pass_none m most late in
      let same = quiet m m tail in
      record { taken = rw (none.0, none.1, none.2, ← same.taken); appended = rw none.2 same.appended }

  module _ (time : in_time m most ≡ true) where
    pub steps_rest : 0 < quiet_ticks m most → {m' : Model} {n : ℕ} → m' ≡ rest_model m n → n ≡ quiet_ticks m most
        → Steps m most m' (Ok (record { ticks = n; written = 0 })) tail tail
    unfolding passed
    steps_rest some p e =
        let rests = pass_rest m most time some in
        let same = quiet m (rest_model m (quiet_ticks m most)) tail in
        record { taken = rw (rests.0, rests.1, rests.2, p, e, ← same.taken); appended = rw rests.2 same.appended }

    module _ (none : quiet_ticks m most ≡ 0) {m' : Model} {w : Result ℕ Full} {tail' : List ℕ} (c : Comes m (tick_model m) (tick_log m) m' w tail tail') where
      pub steps_tick : {n : ℕ} → w ≡ Ok n → Steps m most m' (Ok (record { ticks = 1; written = n })) tail tail'
      unfolding passed
      steps_tick e =
          let one = pass_tick m most time none in
          let d = rw e at c in
          record { taken = rw (one.0, one.1, one.2, ← d.taken); appended = rw one.2 d.appended }

      pub steps_full : {full : Full} → w ≡ Err full → (r : Result Passed Full) → IsErr r → Steps m most m' r tail tail'
      unfolding passed
      steps_full e (Ok p) h = absurd cc
      steps_full e (Err same) h =
          let one = pass_tick m most time none in
          let d = rw e at c in
          record { taken = rw (one.0, one.1, one.2, ← d.taken); appended = rw one.2 d.appended }

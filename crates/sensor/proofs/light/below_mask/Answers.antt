-- `sensor::light::below_mask` meets its contract: up to 33 the power fits, and from 33 on it is above every value.
-- Assumes nothing.
use Prim.Native.Nat.{ℕ, ◌-◌, ◌<◌, ◌≤◌, ◌^◌, min}
use Rattle.widen.proofs.Laws.{one_shl}
use borrow.Author.Tests.{lt-ltb}
use lib.Dec.{ltb}
use lib.Pow.{pow_mono}
use mathlib.Core.Path.{ap, ◌∙◌, ◌≡◌}
use native.Mathlib.Decide.{dec_le}
use native.Mathlib.Omega.{arith}
use Rattle.sensor.proofs.light.below_mask.Goals as goal

capped : (value r : ℕ) → value < 2 ^ 32 → ltb value (2 ^ min r 33 - 1) ≡ ltb value (2 ^ r - 1)
capped value r fits = go (dec_le r 33)
  where
    go : Dec (r ≤ 33) → ltb value (2 ^ min r 33 - 1) ≡ ltb value (2 ^ r - 1)
    go (yes h) = let same : min r 33 ≡ r = omega arith in ap (λ (k : ℕ). ltb value (2 ^ k - 1)) same
    go (no h) =
        let large : 2 ^ 33 ≤ 2 ^ r = pow_mono {i = 33} (omega arith) in
        let same : min r 33 ≡ 33 = omega arith in
        rw (same, lt-ltb value (2 ^ 33 - 1) (omega arith), lt-ltb value (2 ^ r - 1) (omega (arith, large)))

pub returns : goal.returns
returns c =
    let a = c.args in
    ap (λ (x : ℕ). ltb a.value (x - 1)) (one_shl c.min.result (omega arith) ∙ ap (λ (k : ℕ). 2 ^ k) c.min.ensures)
    ∙ capped a.value a.resolution c.ranges.value.fits

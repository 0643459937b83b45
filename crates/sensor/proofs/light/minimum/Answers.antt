-- `sensor::light::minimum` meets its contract: up to 15 the power fits, and from 15 on its hundredth is above 255.
-- Assumes nothing.
use Prim.Native.Nat.{ℕ, ◌%◌, ◌*◌, ◌/◌, ◌≤◌, ◌^◌, min}
use Rattle.sensor.specs.Light.{minimum}
use lib.Pow.{pow_mono}
use mathlib.Core.Path.{◌≡◌}
use native.Mathlib.Decide.{dec_le}
use native.Mathlib.Omega.{arith}
use Rattle.sensor.proofs.light.minimum.Goals as goal

capped : (r : ℕ) → min (1 * 2 ^ min r 15 % 2 ^ 32 / 100) 255 ≡ min 255 (2 ^ r / 100)
capped r = go (dec_le r 15)
  where
    go : Dec (r ≤ 15) → min (1 * 2 ^ min r 15 % 2 ^ 32 / 100) 255 ≡ min 255 (2 ^ r / 100)
    go (yes h) =
        let small : 2 ^ r ≤ 2 ^ 15 = pow_mono {j = 15} h in
        let same : min r 15 ≡ r = omega arith in
        rw same (omega (arith, small))
    go (no h) =
        let large : 2 ^ 15 ≤ 2 ^ r = pow_mono {i = 15} (omega arith) in
        let same : min r 15 ≡ 15 = omega arith in
        rw same (omega (arith, large))

pub returns : goal.returns
unfolding minimum
returns c = rw (c.min-2.ensures, c.min.ensures) (capped c.args.resolution)

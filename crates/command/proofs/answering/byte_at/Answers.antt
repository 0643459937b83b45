-- `command::answering::byte_at` meets its contract: a u32 has no byte past its fourth.
-- Assumes nothing.
use Rattle.std.proofs.Common.{◌≡◌, ℕ, zero, suc, ◌/◌, ◌%◌, ◌^◌, ◌<◌, get_or, arith, refl, ◌∙◌}
use Rattle.std.specs.Int.{to_le_bytes, w32}
use Rattle.command.specs.Answering.{byte_at}
use native.Mathlib.Nat.{div-eq_of_lt, div-one, lt_of_lt_of_le, pow-le-pow_right}
use Rattle.command.proofs.answering.byte_at.Goals as goal

nth : (v k : ℕ) → v < 2 ^ 32 → get_or (to_le_bytes w32 v) k 0 ≡ v / 256 ^ k % 256
nth v zero h = rw div-one
nth v (suc zero) h = refl
nth v (suc (suc zero)) h = refl
nth v (suc (suc (suc zero))) h = refl
nth v (suc (suc (suc (suc k)))) h =
    rw (div-eq_of_lt (lt_of_lt_of_le h (pow-le-pow_right {n = 256} (omega arith) {i = 4} {j = suc (suc (suc (suc k)))} (omega arith))))

pub returns : goal.returns
unfolding byte_at
returns c =
    let a = c.args in
    rw (c.unwrap_or.ensures, c.copied.ensures) (c.get.ensures.lookup.4 (omega arith) 0
    ∙ rw (c.to_le_bytes.ensures, c.from.ensures) (nth a.v a.k c.ranges.v.fits))

-- `widen::bits` meets its contract. Above place 63 there is nothing, and a count of 64 or more cuts nothing.
-- Assumes nothing.
use Prim.Native.Nat.{ℕ, ◌/◌, ◌%◌, ◌^◌, ◌≤◌, ◌<◌}
use Rattle.std.specs.Option.{SomeIff}
use Rattle.std.specs.Prelude.{None, Option, Some, unwrap_or}
use Rattle.widen.proofs.Laws.{one_shl}
use lib.Pow.{pow_mono, pow_pos}
use mathlib.Core.Path.{sym, ap, ◌∙◌, ◌≡◌}
use native.Mathlib.Nat.{div-eq_of_lt, div-le_self, lt_of_le_of_lt, lt_of_lt_of_le, mod-eq_of_lt}
use native.Mathlib.Omega.{arith}
use Rattle.widen.proofs.bits.Goals as goal

-- a shift by 64 places or more leaves nothing
shifted : (x place : ℕ) (o : Option ℕ) → x < 2 ^ 64 → SomeIff o (place < 64) (x / 2 ^ place) → unwrap_or o 0 ≡ x / 2 ^ place
shifted x place None fits out = let far : 64 ≤ place = omega (arith, out) in sym (div-eq_of_lt (lt_of_lt_of_le fits (pow_mono far)))
shifted x place (Some y) fits in_range = in_range.1

pub returns-in-Some : goal.returns-in-Some
returns-in-Some c =
    let a = c.args in
    let above = shifted a.x _ _ c.ranges.x.fits c.checked_shr.ensures in
    let end = c.in-Some.ensures.1 ∙ one_shl a.count (omega arith) in
    rw (c.unwrap_or-above.ensures, above) (ap (λ (m : ℕ). a.x / 2 ^ a.place % m) end)

pub returns-in-None : goal.returns-in-None
returns-in-None c =
    let a = c.args in
    let small = lt_of_le_of_lt (div-le_self a.x (2 ^ a.place)) c.ranges.x.fits in
    let wide : 64 ≤ a.count = omega (arith, c.in-None.ensures) in
    let above = shifted a.x _ _ c.ranges.x.fits c.checked_shr.ensures in
    c.unwrap_or-above.ensures ∙ above ∙ sym (mod-eq_of_lt (lt_of_lt_of_le small (pow_mono wide)))

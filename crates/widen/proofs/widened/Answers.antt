-- `widen::widened` meets its contract. The loop's invariant: `out` is the filling to the width `have`, which is a number of whole copies.
-- Assumes nothing.
use Prim.Native.Nat.{ℕ, ◌%◌, ◌^◌, ◌≤◌, ◌<◌, max}
use Rattle.widen.proofs.Laws.{cut_off, still_whole, twice, twice_fits, whole}
use Rattle.widen.specs.Width.{widened}
use lib.Pow.{pow_mono, pow_pos}
use mathlib.Core.Path.{ap, ◌∙◌, ◌≡◌}
use native.Mathlib.Nat.{div-one, mod-lt, mod_self}
use native.Mathlib.Omega.{arith}
use Rattle.widen.proofs.widened.Goals as goal

pub loop-have-init : goal.loop-have-init
loop-have-init c =
    let v = c.args.value in
    let r = c.max-size.result in
    (omega (arith, c.bits-out.ensures, whole v r, ap (λ (x : ℕ). x % 2 ^ r) (div-one v)), mod_self r, omega arith)

pub overflow_add-out : goal.overflow_add-out
overflow_add-out c =
    let l = c.loop-have in
    omega (arith, twice_fits _ _ l.have l.out l.invariant.0 l.invariant.1 (omega arith))

pub loop-have-preserved : goal.loop-have-preserved
loop-have-preserved c =
    let l = c.loop-have in
    (omega (arith, twice _ _ l.have l.out l.invariant.0 l.invariant.1 (omega arith)), still_whole _ _ l.invariant.1, omega arith)

pub returns : goal.returns
returns c =
    let a = c.args in
    let l = c.loop-have in
    let n = c.min-n in
    let size : c.max-size.result ≡ max 1 a.resolution = omega arith in
    let copies = l.invariant.0 ∙ ap (λ (r : ℕ). widened a.value r l.have) size in
    let filled = cut_off _ _ l.have n.result l.out copies (omega arith) in
    omega (arith, c.bits.ensures, filled, ap (widened a.value a.resolution) n.ensures)

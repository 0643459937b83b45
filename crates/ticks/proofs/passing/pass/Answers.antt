-- `ticks::passing::pass` meets its contract.
-- Assumes nothing.
use Prim.Native.Nat.{◌<◌}
use Rattle.ticks.proofs.Steps.{steps_full, steps_none, steps_rest, steps_tick}
use Rattle.ticks.proofs.Quiet.{quiet_most, time_left}
use Rattle.ticks.specs.Quiet.{quiet_ticks}
use mathlib.Core.Path.{sym, ◌∙◌}
use native.Mathlib.Omega.{arith}
use Rattle.ticks.proofs.passing.pass.Goals as goal

pub returns-then-not-in_time : goal.returns-then-not-in_time
returns-then-not-in_time c = let a = c.args in steps_none a.model.now a.most a.tail.now (sym c.in_time.ensures ∙ c.if-not-in_time.true)

pub tick-requires : goal.tick-requires
tick-requires c =
    let a = c.args in
    let time = sym c.in_time.ensures ∙ c.if-not-in_time.false in
    let left = time_left a.model.now a.most time in
    omega (arith, left.0, left.1)

pub returns-in_err-written : goal.returns-in_err-written
returns-in_err-written c =
    let a = c.args in
    let time = sym c.in_time.ensures ∙ c.if-not-in_time.false in
    let none = sym c.quiet-ticks.ensures ∙ c.if-ticks-eq0.true in
    steps_full a.model.now a.most a.tail.now time none c.tick.ensures c.in_err-written.was _ c.from_residual.ensures.0

pub returns-then-ticks-eq0 : goal.returns-then-ticks-eq0
returns-then-ticks-eq0 c =
    let a = c.args in
    let time = sym c.in_time.ensures ∙ c.if-not-in_time.false in
    let none = sym c.quiet-ticks.ensures ∙ c.if-ticks-eq0.true in
    steps_tick a.model.now a.most a.tail.now time none c.tick.ensures c.in_ok-written.was

pub rest-requires : goal.rest-requires
rest-requires c =
    let a = c.args in
    let time = sym c.in_time.ensures ∙ c.if-not-in_time.false in
    let left = time_left a.model.now a.most time in
    omega (arith, quiet_most a.model.now a.most, c.quiet-ticks.ensures, left.0, left.1)

pub returns : goal.returns
returns c =
    let a = c.args in
    let time = sym c.in_time.ensures ∙ c.if-not-in_time.false in
    let n = c.quiet-ticks.ensures in
    let some : 0 < quiet_ticks a.model.now a.most = omega (arith, n, c.if-ticks-eq0.false) in
    steps_rest a.model.now a.most a.tail.now time some c.rest.ensures n

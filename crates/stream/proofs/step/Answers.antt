-- `stream::step` meets its contract: each part of the promise is what one call gives.
-- Assumes nothing.
use Rattle.std.proofs.Common.{◌≤◌, length, refl, rules}
use Rattle.stream.proofs.Turns.{step_kept, step_logged, step_comes, within}
use Rattle.stream.proofs.step.Goals as goal

pub slice_bounds-records_in-end-2 : goal.slice_bounds-records_in-end-2
slice_bounds-records_in-end-2 c =
    let a = c.args in
    let inside : c.read-o.result.offset ≤ c.held-end.result = within a.p.model c.held-end.result a.input.now (length a.output.now) c.read-o.ensures.0 in
    search rules

pub returns : goal.returns
returns c =
    let a = c.args in (
      step_comes a.p a.came a.input.now a.output.now c.held-end.ensures c.read-o.ensures.0 c.records_in-taken.ensures refl refl refl,
      step_kept a.p a.came a.input.now a.output.now c.held-end.ensures c.read-o.ensures.0 c.keep.ensures,
      step_logged a.p a.came a.input.now a.output.now c.held-end.ensures c.read-o.ensures.0 c.read-o.ensures.1,
    )

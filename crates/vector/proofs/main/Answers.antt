-- `vector::main` is safe: what was written has room in the log.
-- Assumes nothing.
use Rattle.session.proofs.Bounds.{for_c_within}
use Rattle.std.proofs.Common.{◌≤◌, rules}
use Rattle.vector.proofs.main.Goals as goal

pub slice_bounds-write_all-end : goal.slice_bounds-write_all-end
slice_bounds-write_all-end c =
    let s = c.potmeander_session-r in
    let w : s.result.written ≤ 400 = rw s.ensures.0 (for_c_within _ _ _) in
    search rules

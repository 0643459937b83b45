-- `Unique` bites: a promise that leaves its result open is not unique.
-- Assumes nothing.
use Rattle.promise.specs.Unique.{Unique}
use borrow.Fn.Kinds.{r_bool}
use mathlib.Core.Bool.{false, true, true≢false}
use mathlib.Core.List.{[]}

-- of a function with no parameter whose result is a truth value, which promises nothing
pub open_result : Unique 0 [] r_bool (λ κs a x s. Unit {0}) → ⊥
open_result u = true≢false (u tt tt true false tt tt tt tt)

-- UNIQUENESS: any two results, with all that was lent, that satisfy an exported function's promise for the same arguments are equal. `Post` is
-- the promise itself, as the checker reads the function's `ensures`.
-- Assumes nothing.
use Prim.Native.Nat.{ℕ}
use Rattle.promise.specs.Unique.{UniqueLent}
use Rattle.trial.proofs.trial_session.Kinds as trial-session-kinds
use Rattle.trial.proofs.trial_session.Reads as trial-session
use mathlib.Core.List.{List}
use mathlib.Core.Path.{sym, ◌∙◌}

pub trial_session_unique : UniqueLent 3 trial-session-kinds.ps trial-session-kinds.r trial-session.Post (List ℕ) (λ κs s. s.1.1.1.0.now)
trial_session_unique κs a x y s t p q = (p.0 ∙ sym q.0, p.1 ∙ sym q.1)

-- UNIQUENESS: any two results, with all that was lent, that satisfy an exported function's promise for the same arguments are equal. `Post` is
-- the promise itself, as the checker reads the function's `ensures`.
-- Assumes nothing.
use Prim.Native.Nat.{ℕ}
use Rattle.promise.specs.Unique.{UniqueLent}
use Rattle.session.proofs.potmeander_session.Kinds as potmeander-session-kinds
use Rattle.session.proofs.potmeander_session.Reads as potmeander-session
use Rattle.session.proofs.read.Kinds as read-kinds
use Rattle.session.proofs.read.Reads as read
use Rattle.session.proofs.read_for_c.Kinds as read-for-c-kinds
use Rattle.session.proofs.read_for_c.Reads as read-for-c
use mathlib.Core.List.{List}
use mathlib.Core.Path.{sym, ◌∙◌}

pub read_unique : UniqueLent 2 read-kinds.ps read-kinds.r read.Post (List ℕ) (λ κs s. s.1.1.0.now)
read_unique κs a x y s t p q = (p.0 ∙ sym q.0, p.1 ∙ sym q.1)

pub read_for_c_unique : UniqueLent 2 read-for-c-kinds.ps read-for-c-kinds.r read-for-c.Post (List ℕ) (λ κs s. s.1.1.0.now)
read_for_c_unique κs a x y s t p q = (p.0 ∙ sym q.0, p.1 ∙ sym q.1)

pub potmeander_session_unique : UniqueLent 2 potmeander-session-kinds.ps potmeander-session-kinds.r potmeander-session.Post (List ℕ) (λ κs s. s.1.0.now)
potmeander_session_unique κs a x y s t p q = (p.0 ∙ sym q.0, p.1 ∙ sym q.1)

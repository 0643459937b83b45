-- UNIQUENESS: any two results, with all that was lent, that satisfy an exported function's promise for the same arguments are equal. `Post` is
-- the promise itself, as the checker reads the function's `ensures`.
-- Assumes nothing.
use Prim.Native.Nat.{ℕ}
use Rattle.promise.specs.Unique.{Unique, UniqueLent}
use Rattle.tabled.proofs.in_use.Kinds as in-use-kinds
use Rattle.tabled.proofs.in_use.Reads as in_use
use Rattle.tabled.proofs.potmeander_session_hours.Kinds as potmeander-session-hours-kinds
use Rattle.tabled.proofs.potmeander_session_hours.Reads as potmeander-session-hours
use mathlib.Core.List.{List}
use mathlib.Core.Path.{ap₂, sym, ◌∙◌}

pub in_use_unique : Unique 0 in-use-kinds.ps in-use-kinds.r in_use.Post
in_use_unique κs a x y s t p q = p ∙ sym q

pub potmeander_session_hours_unique : UniqueLent 4 potmeander-session-hours-kinds.ps potmeander-session-hours-kinds.r potmeander-session-hours.Post (List ℕ × List ℕ × List ℕ) (λ κs s. (s.1.0.now, s.1.1.0.now, s.1.1.1.0.now))
potmeander_session_hours_unique κs a x y s t p q = (p.0 ∙ sym q.0, ap₂ (λ (u : List ℕ) (v : List ℕ × List ℕ). (u, v.0, v.1)) (p.1 ∙ sym q.1) (ap₂ (λ u v. (u, v)) (p.2 ∙ sym q.2) (p.3 ∙ sym q.3)))

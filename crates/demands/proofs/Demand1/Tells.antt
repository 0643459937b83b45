-- A test tells whether a condition holds: the tests that refusals go by, and how they are put together.
-- Assumes nothing.
use Prim.Native.Nat.{ℕ, ◌<◌, ◌≤◌}
use borrow.Author.Tests.{eqb-false, eqb-true, leb-false, leb-true, ltb-false, ltb-true}
use lib.Dec.{eqb, leb, ltb}
use mathlib.Core.Bool.{Bool, cond, false, false≢true, not, true, true≢false, ◌&&◌, ◌||◌}
use mathlib.Core.Logic.{inl, inr, ◌⊎◌}
use mathlib.Core.Path.{refl, ◌≡◌}
use native.Mathlib.Omega.{arith}

pub record Tells (b : Bool) (P : Type 0) : Type 0 where
  pub yes : b ≡ true → P
  pub no : b ≡ false → P → ⊥

pub holds : {b : Bool} {P : Type 0} → Tells b P → P → b ≡ true
holds {b} {P} t p = go b t
  where
    go : (b : Bool) → Tells b P → b ≡ true
    go true t = refl
    go false t = absurd (t.no refl p)

pub fails : {b : Bool} {P : Type 0} → Tells b P → (P → ⊥) → b ≡ false
fails {b} {P} t n = go b t
  where
    go : (b : Bool) → Tells b P → b ≡ false
    go true t = absurd (n (t.yes refl))
    go false t = refl

pub tells_bool : (b : Bool) → Tells b (b ≡ true)
tells_bool true = record { yes = λ e. refl; no = λ e p. absurd (true≢false e) }
tells_bool false = record { yes = λ e. e; no = λ e p. absurd (false≢true p) }

pub tells_eqb : (a b : ℕ) → Tells (eqb a b) (a ≡ b)
tells_eqb a b = record { yes = eqb-true a b; no = eqb-false a b }

pub tells_ltb : (a b : ℕ) → Tells (ltb a b) (a < b)
tells_ltb a b = record { yes = ltb-true a b; no = λ e p. omega (arith, ltb-false a b e) }

pub tells_leb : (a b : ℕ) → Tells (leb a b) (a ≤ b)
tells_leb a b = record { yes = leb-true a b; no = λ e p. omega (arith, leb-false a b e) }

pub tells_and : {a b : Bool} {P Q : Type 0} → Tells a P → Tells b Q → Tells (a && b) (P × Q)
tells_and {a} {b} {P} {Q} s t = go a s
  where
    go : (a : Bool) → Tells a P → Tells (a && b) (P × Q)
    go true s = record { yes = λ e. (s.yes refl, t.yes e); no = λ e p. t.no e p.1 }
    go false s = record { yes = λ e. absurd (false≢true e); no = λ e p. s.no refl p.0 }

pub tells_or : {a b : Bool} {P Q : Type 0} → Tells a P → Tells b Q → Tells (a || b) (P ⊎ Q)
tells_or {a} {b} {P} {Q} s t = go a s
  where
    neither : Tells false P → b ≡ false → P ⊎ Q → ⊥
    neither s e (inl p) = s.no refl p
    neither s e (inr q) = t.no e q

    go : (a : Bool) → Tells a P → Tells (a || b) (P ⊎ Q)
    go true s = record { yes = λ e. inl (s.yes refl); no = λ e p. absurd (true≢false e) }
    go false s = record { yes = λ e. inr (t.yes e); no = λ e p. neither s e p }

pub tells_not : {a : Bool} {P : Type 0} → Tells a P → Tells (not a) (P → ⊥)
tells_not {a} {P} s = go a s
  where
    go : (a : Bool) → Tells a P → Tells (not a) (P → ⊥)
    go true s = record { yes = λ e p. absurd (false≢true e); no = λ e n. n (s.yes refl) }
    go false s = record { yes = λ e p. s.no refl p; no = λ e n. absurd (true≢false e) }

-- the same in other words
pub tells_as : {b : Bool} {P Q : Type 0} → (P → Q) → (Q → P) → Tells b P → Tells b Q
tells_as f g t = record { yes = λ e. f (t.yes e); no = λ e q. t.no e (g q) }

pub tells_cond : {c a b : Bool} {P A B : Type 0} → Tells c P → Tells a A → Tells b B → Tells (cond c a b) ((P × A) ⊎ ((P → ⊥) × B))
tells_cond {c} {a} {b} {P} {A} {B} s t u = go c s
  where
    not_a : (Tells true P) → a ≡ false → (P × A) ⊎ ((P → ⊥) × B) → ⊥
    not_a s e (inl x) = t.no e x.1
    not_a s e (inr x) = x.0 (s.yes refl)

    not_b : (Tells false P) → b ≡ false → (P × A) ⊎ ((P → ⊥) × B) → ⊥
    not_b s e (inl x) = s.no refl x.0
    not_b s e (inr x) = u.no e x.1

    go : (c : Bool) → Tells c P → Tells (cond c a b) ((P × A) ⊎ ((P → ⊥) × B))
    go true s = record { yes = λ e. inl (s.yes refl, t.yes e); no = λ e x. not_a s e x }
    go false s = record { yes = λ e. inr (λ p. s.no refl p, u.yes e); no = λ e x. not_b s e x }

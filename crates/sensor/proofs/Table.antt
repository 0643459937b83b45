-- A test that is computed over a whole list holds of each of its members.
-- Assumes nothing.
use lib.Dec.{T}
use mathlib.Core.Bool.{Bool, false, true, ◌&&◌}
use mathlib.Core.List.Memᴰ
use mathlib.Core.List.{List, Memᴰ, [], ◌∷◌}
use mathlib.Core.Path.{subst, sym}

abbrev pub every : {A : Type 0} → (A → Bool) → List A → Bool
every test [] = true
every test (x ∷ xs) = test x && every test xs

pub both : (a b : Bool) → T (a && b) → T a × T b
both true b t = (tt, t)
both false b t = absurd t

pub each : {A : Type 0} (test : A → Bool) (xs : List A) → T (every test xs) → (x : A) → Memᴰ x xs → T (test x)
each test [] t a m = absurd (Memᴰ.not-nil m)
each test (x ∷ xs) t a (Memᴰ.head e) = subst (λ y. T (test y)) (sym e) (both (test x) (every test xs) t).0
each test (x ∷ xs) t a (Memᴰ.tail m) = each test xs (both (test x) (every test xs) t).1 a m

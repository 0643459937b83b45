-- What must come after a number tells the number: the output is emptied after 9 alone.
-- Assumes nothing.
use Rattle.std.proofs.Common.{◌≡◌, ℕ, Bool, true, false, cond, eqb, ◌≢◌, sym, refl, ap, ◌∙◌, arith, eqb-true}
use Rattle.stream.specs.Stream.{next_after}
use Rattle.stream.specs.declared.Next.TheVariants.{EmptiedOutput, MoreInput, Over}
use Rattle.stream.specs.declared.Next.{Next}

-- ---- a number tells what must come next; where that differs, so do the numbers
abbrev place : Next → ℕ
place MoreInput = 0
place EmptiedOutput = 1
place Over = 2

pub not_after : {n : Next} (k number : ℕ) → next_after number ≡ n → (place (next_after k) ≡ place n → ⊥) → number ≢ k
not_after k number e differ same = differ (ap (λ j. place (next_after j)) (sym same) ∙ ap place e)

pub after_nine : (number : ℕ) → next_after number ≡ MoreInput → number ≢ 9
unfolding next_after
after_nine number e = not_after 9 number e (λ z. omega arith)

-- the output is emptied after 9 alone
pub after_emptied : (number : ℕ) → next_after number ≡ EmptiedOutput → number ≡ 9
unfolding next_after
after_emptied number e = go (eqb number 0) (eqb number 2) (eqb number 9) refl e
  where
    go : (a b c : Bool) → eqb number 9 ≡ c → cond a MoreInput (cond b MoreInput (cond c EmptiedOutput Over)) ≡ EmptiedOutput → number ≡ 9
    go a b true t e = eqb-true number 9 t
    go true b false t e = absurd (omega (arith, ap place e))
    go false true false t e = absurd (omega (arith, ap place e))
    go false false false t e = absurd (omega (arith, ap place e))

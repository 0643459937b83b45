-- How records are records_in one by one.
-- Assumes nothing.
use Rattle.std.proofs.Common.{◌≡◌, ℕ, zero, suc, ◌+◌, ◌-◌, ◌<◌, ◌≤◌, List, [], ◌∷◌, length, take, drop, sym, refl, ap, ◌∙◌, not-suc-le-zero, add_assoc, zero-add, suc-ne-zero, arith, length-drop, le-ltb, lt-ltb, None, Option, Some}
use Rattle.record.proofs.Laws.{tail_whole}
use Rattle.record.specs.Marks.{mark_of}
use Rattle.record.specs.Numbers.{word}
use Rattle.record.specs.declared.marks.Mark.TheVariants.{Bus, Declaration, Measurement, Time}
use Rattle.record.specs.declared.marks.Mark.{Mark}
use Rattle.stream.specs.Stream.{records_in, records_up_to, size_at, size_by}
use native.Mathlib.Decide.{dec_le}

-- each kind has a size, and what is of none goes for all
size_some : (mark : Option Mark) (all : ℕ) → 0 < all → 0 < size_by mark all
unfolding size_by
size_some None all h = h
size_some (Some Declaration) all h = omega arith
size_some (Some Measurement) all h = omega arith
size_some (Some Bus) all h = omega arith
size_some (Some Time) all h = omega arith

-- a record has a byte at least, and not more than there are
pub sized : (rest : List ℕ) → 0 < length rest → (0 < size_at rest) × (size_at rest ≤ length rest)
unfolding size_at
sized rest some = by (dec_le 2 (length rest))
  where
    by : Dec (2 ≤ length rest) → (0 < size_at rest) × (size_at rest ≤ length rest)
    by (yes h) =
        let s = size_some (mark_of (word rest 0)) (length rest) some in
        rw (le-ltb _ _ h) (omega arith, omega arith)
    by (no h) = rw (lt-ltb (length rest) 2 (omega arith)) (some, omega arith)

-- what is left behind it is less
pub left_less : (rest : List ℕ) {size : ℕ} → 0 < length rest → size ≡ size_at rest → length (take (length rest - size) (drop size rest)) < length rest
left_less rest {size} some e = let s : (0 < size) × (size ≤ length rest) = rw e (sized rest some) in rw (tail_whole size rest, length-drop) (omega (arith, s))

counted_none : (most : ℕ) (rest : List ℕ) → length rest ≡ 0 → records_up_to most rest ≡ 0
unfolding records_up_to
counted_none zero rest e = refl
counted_none (suc most) [] e = refl
counted_none (suc most) (b ∷ rest) e = absurd (suc-ne-zero (length rest) e)

counted_one : (most : ℕ) (rest : List ℕ) → 0 < length rest → records_up_to (suc most) rest ≡ 1 + records_up_to most (drop (size_at rest) rest)
unfolding records_up_to
counted_one most [] some = absurd (not-suc-le-zero some)
counted_one most (b ∷ rest) some = refl

-- n records lie before what is left, and the others are counted from there
pub record Counting (bytes rest : List ℕ) (n : ℕ) : Type 0 where
  pub most : ℕ
  pub enough : length rest ≤ most
  pub few : n + length rest ≤ length bytes
  pub same : records_in bytes ≡ n + records_up_to most rest

pub counting_start : (bytes : List ℕ) → Counting bytes bytes 0
unfolding records_in
counting_start bytes = record { most = length bytes; enough = omega arith; few = omega arith; same = sym (zero-add _) }

module _ {bytes rest : List ℕ} {n : ℕ} (k : Counting bytes rest n) where
  pub counting_done : length rest ≡ 0 → n ≡ records_in bytes
  counting_done none = omega (arith, k.same, counted_none k.most rest none)

  pub counting_more : {size : ℕ} → 0 < length rest → size ≡ size_at rest → Counting bytes (take (length rest - size) (drop size rest)) (n + 1)
  counting_more {size} some e = rw (tail_whole size rest) (by k.most k.enough k.same)
    where
      fits : (0 < size) × (size ≤ length rest)
      fits = rw e (sized rest some)

      by : (most : ℕ) → length rest ≤ most → records_in bytes ≡ n + records_up_to most rest → Counting bytes (drop size rest) (n + 1)
      by zero enough same = absurd (omega arith)
      by (suc most) enough same =
          record {
            most = most;
            enough = omega (arith, fits, length-drop size rest);
            few = omega (arith, fits, length-drop size rest, k.few);
            same = same ∙ ap (λ (x : ℕ). n + x) (counted_one most rest some) ∙ sym (add_assoc n 1 _) ∙ ap (λ (s : ℕ). n + 1 + records_up_to most (drop s rest)) (sym e);
          }

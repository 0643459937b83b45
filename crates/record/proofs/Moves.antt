-- Bytes moved to the front of their buffer.
-- Assumes nothing.
use Rattle.record.proofs.Laws.{put_front, put_nothing}
use Rattle.record.specs.Put.{put}
use Rattle.std.proofs.Common.{◌≡◌, ℕ, ◌+◌, ◌-◌, ◌≤◌, min, List, length, take, drop, sym, ap, ◌∙◌, arith, zero-add, length-take}
use Rattle.std.proofs.lemmas.List.{drop-take}
use Rattle.std.specs.List.{copy_within}
use lib.ListN.{drop_of_length-le}
use lib.Seq.{length-slice, slice, take_all}
use native.Mathlib.Decide.{dec_le}

-- what the library's copy leaves
pub copied : (start stop : ℕ) (b : List ℕ) → start ≤ stop → stop ≤ length b → copy_within b start stop 0 ≡ put 0 (slice start stop b) b
copied start stop b order fits =
    let e : start + (stop - start) ≡ stop = omega arith in
    let part : slice start stop b ≡ take (stop - start) (drop start b) = rw e at (drop-take start (stop - start) b) in
    rw (put_front, length-slice start stop b fits, part, zero-add)

-- up to the buffer's end
pub slice_within : (start end : ℕ) (b : List ℕ) {stop : ℕ} → stop ≡ min end (length b) → slice start stop b ≡ slice start end b
slice_within start end b {stop} is = by (dec_le end (length b))
  where
    by : Dec (end ≤ length b) → slice start stop b ≡ slice start end b
    by (yes h) = let e : stop ≡ end = omega arith in ap (λ (k : ℕ). slice start k b) e
    by (no h) = ap (drop start) (take_all stop b (omega arith) ∙ sym (take_all end b (omega arith)))

-- nothing to move
pub slice_none : (start end : ℕ) (b : List ℕ) {stop : ℕ} → stop ≡ min end (length b) → stop ≤ start → b ≡ put 0 (slice start end b) b
slice_none start end b {stop} is none =
    sym (ap (λ (l : List ℕ). put 0 l b) (sym (slice_within start end b is) ∙ drop_of_length-le (take stop b) {i = start} (omega (arith, length-take stop b))) ∙ put_nothing 0 b)

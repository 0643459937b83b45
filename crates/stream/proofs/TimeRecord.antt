-- The record TK: what it asks for, and what remains of one whose first ticks were carried out.
-- Assumes nothing.
use Rattle.std.proofs.Common.{◌≡◌, ℕ, suc, ◌+◌, ◌-◌, ◌*◌, ◌/◌, ◌%◌, ◌<◌, ◌≤◌, List, ◌++◌, length, drop, ap, ◌∙◌, arith, le-ltb, ne_eqb}
use Rattle.device.specs.declared.model.Model.{Model}
use Rattle.judging.proofs.Asking.{as_ticks, asked_size, count_of, marked, ticks_of}
use Rattle.judging.specs.Asked.{asked, asked_by, size_of, ticks_asked}
use Rattle.judging.specs.declared.asked.Asked.TheVariants.{Ticks}
use Rattle.record.specs.Marks.{mark_of, mark_size, ticks}
use Rattle.record.specs.Numbers.{word}
use Rattle.record.specs.declared.marks.Mark.TheVariants.{Time}
use Rattle.std.specs.Prelude.{Ok}
use Rattle.stream.specs.Stream.{remaining}

-- the two bytes of a count
pub count : (n : ℕ) → n / 256 * 256 + n % 256 ≡ n
count n = omega arith

-- a TK of ticks that can be counted asks for them, whatever follows it
pub time_asked : (n : ℕ) (ys : List ℕ) (m : Model) → 0 < n → n ≤ 4294967295 - m.tick → m.tick + n ≤ m.last → asked (ticks n ++ ys) m ≡ Ok (Ticks n)
unfolding asked_by mark_of ticks_asked
time_asked n ys m some h k =
    marked (ticks n ++ ys) m (omega arith)
    ∙ rw (le-ltb (length (ticks n ++ ys)) 4 (omega arith), count n, ne_eqb n 0 (λ e. omega arith), le-ltb (4294967295 - m.tick) n h, le-ltb m.last (m.tick + n) k)

-- of a record whose first ticks were carried out, what remains is a TK of the others
pub remaining_ticks : (m : Model) (xs : List ℕ) (t : ℕ) → suc t < ticks_of (asked xs m)
    → remaining (suc t) xs ≡ ticks (ticks_of (asked xs m) - suc t) ++ drop (mark_size Time) xs
unfolding remaining size_of
remaining_ticks m xs t fewer =
    let sized : size_of (asked xs m) ≡ 4 = ap size_of (as_ticks (asked xs m) (omega arith)) in
    let long : mark_size Time ≤ length xs = omega (arith, sized, asked_size xs m) in
    let count : ticks_of (asked xs m) ≡ word xs 2 = count_of xs m (omega arith) in
    rw (ne_eqb (suc t) 0 (λ e. omega arith), le-ltb (length xs) (mark_size Time) long, ← count)

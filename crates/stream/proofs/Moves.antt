-- A TK shortened to the ticks that remain, and what is kept of a buffer.
-- Assumes nothing.
use Rattle.std.proofs.Common.{◌≡◌, ℕ, ◌-◌, ◌≤◌, Bool, true, false, cond, eqb, ltb, List, ◌++◌, length, take, drop, sym, refl, ap, ◌∙◌, arith, length-drop, le-ltb, lt-ltb}
use Rattle.record.proofs.Laws.{put_front}
use Rattle.record.specs.Marks.{mark_size, ticks}
use Rattle.record.specs.Numbers.{word}
use Rattle.record.specs.Put.{put}
use Rattle.record.specs.declared.marks.Mark.TheVariants.{Time}
use Rattle.session.specs.Session.{End}
use Rattle.stream.specs.Stream.{remaining, unread}
use lib.Seq.{drop-append_seam, length-slice, slice, take-append_seam}
use native.Mathlib.Decide.{dec_le}

-- ---- a TK shortened
-- it is as long as it was
pub remaining_long : (done : ℕ) (rest : List ℕ) → length (remaining done rest) ≡ length rest
unfolding remaining
remaining_long done rest = by (eqb done 0) (dec_le (mark_size Time) (length rest))
  where
    by : (none : Bool) → Dec (mark_size Time ≤ length rest) → length (cond none rest (cond (ltb (length rest) (mark_size Time)) rest (ticks (word rest 2 - done) ++ drop (mark_size Time) rest))) ≡ length rest
    by true h = refl
    by false (yes h) = rw (le-ltb (length rest) (mark_size Time) h, length-drop) (omega arith)
    by false (no h) = rw (lt-ltb (length rest) (mark_size Time) (omega arith))

pub unread_long : (e : End) (input : List ℕ) → length (unread e input) ≡ length input - e.offset
unfolding unread
unread_long e input = remaining_long e.ticks (drop e.offset input) ∙ length-drop e.offset input

-- what was moved to the front of `b` and then shortened there
module _ (at end done : ℕ) (b : List ℕ) (h : (at ≤ end) × (end ≤ length b)) where
  pub kept : {b₁ s : List ℕ} → b₁ ≡ put 0 (slice at end b) b → s ≡ remaining done (take (end - at) b₁)
      → s ++ drop (end - at) b₁ ≡ put 0 (remaining done (slice at end b)) b
  kept {b₁} {s} moved-there short =
      let P = slice at end b in
      let R = remaining done P in
      let long : end - at ≡ length P = omega (arith, length-slice at end b h.1) in
      ap (λ (l : List ℕ). l ++ drop (end - at) b₁) short
      ∙ ap (λ (k : ℕ). remaining done (take k b₁) ++ drop k b₁) long
      ∙ ap (λ (l : List ℕ). remaining done (take (length P) l) ++ drop (length P) l) (moved-there ∙ put_front P b)
      ∙ ap (λ (l : List ℕ). remaining done l ++ drop (length P) (P ++ drop (length P) b)) (take-append_seam P (drop (length P) b))
      ∙ ap (λ (l : List ℕ). R ++ l) (drop-append_seam P (drop (length P) b))
      ∙ ap (λ (k : ℕ). R ++ drop k b) (sym (remaining_long done P))
      ∙ sym (put_front R b)

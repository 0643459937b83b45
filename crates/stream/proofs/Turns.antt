-- What a step comes to, from what each of its calls comes to; and its bounds.
-- Assumes nothing.
use Rattle.std.proofs.Common.{◌≡◌, ℕ, ◌+◌, ◌-◌, ◌%◌, ◌^◌, ◌≤◌, min, List, length, take, drop, sym, ap, ◌∙◌, arith, length-take, take_all, take-take}
use Rattle.device.specs.declared.model.Model.{Model}
use Rattle.record.proofs.Laws.{put_front}
use Rattle.record.specs.Log.{bytes_of}
use Rattle.record.specs.Put.{put}
use Rattle.session.proofs.Bounds.{session_offset, session_within}
use Rattle.session.specs.Session.{outcome, session}
use Rattle.session.specs.declared.reading.Outcome.{Outcome}
use Rattle.stream.proofs.Moves.{unread_long}
use Rattle.stream.specs.Stream.{records_in, ended, held, input_after, output_after, progressed, remaining, stepped, unread}
use Rattle.stream.specs.declared.Progress.{Progress}
use Rattle.stream.specs.declared.Stepped.{Stepped}
use lib.Seq.{slice, take-append_seam}
use native.Mathlib.Decide.{dec_le}

-- the offset lies in what was read
pub within : (m : Model) (end : ℕ) (input : List ℕ) (room : ℕ) {o : Outcome} → o ≡ outcome (session m (take end input) room) → o.offset ≤ end
unfolding outcome
within m end input room e = omega (arith, ap (λ (x : Outcome). x.offset) e, session_offset m (take end input) room, length-take end input)

module _ (p : Progress) (came : ℕ) (input output : List ℕ) {end : ℕ} {o : Outcome} (is-end : end ≡ min (p.unread + came) (length input))
    (is_read : o ≡ outcome (session p.model (take end input) (length output))) where
  is_held : take end input ≡ held p came input
  is_held = by (dec_le (p.unread + came) (length input))
    where
      by : Dec (p.unread + came ≤ length input) → take end input ≡ held p came input
      by (yes h) = let e : end ≡ p.unread + came = omega arith in ap (λ (k : ℕ). take k input) e
      by (no h) = take_all end input (omega arith) ∙ sym (take_all (p.unread + came) input (omega arith))

  is_ended : o ≡ outcome (ended p came input output)
  unfolding ended
  is_ended = is_read ∙ ap (λ (l : List ℕ). outcome (session p.model l (length output))) is_held

  -- the three parts of a step's promise
  pub step_comes : {n left records passed : ℕ} → n ≡ records_in (take o.offset input) → left ≡ end - o.offset
      → records ≡ (p.records + n) % 2 ^ 64 → passed ≡ (p.passed + o.offset) % 2 ^ 64
      → ◌≡◌ {A = Stepped} (record { progress = record { model = o.model; unread = left; number = o.number; records = records; passed = passed }; written = o.written }) (stepped p came input output)
  unfolding stepped progressed outcome
  step_comes {n} {left} {records} {passed} is-n is-left is-records is-passed =
      let e = ended p came input output in
      let at : o.offset ≡ e.offset = ap (λ (x : Outcome). x.offset) is_ended in
      let inside : e.offset ≤ p.unread + came = omega (arith, within p.model end input (length output) is_read) in
      let taken : n ≡ records_in (take e.offset (held p came input)) =
      is-n ∙ ap (λ (k : ℕ). records_in (take k input)) at ∙ ap records_in (sym (take-take e.offset (p.unread + came) input inside)) in
      let rest : left ≡ length (held p came input) - e.offset = omega (arith, length-take (p.unread + came) input) in
      let counts : records ≡ (p.records + records_in (take e.offset (held p came input))) % 2 ^ 64 = is-records ∙ ap (λ (k : ℕ). (p.records + k) % 2 ^ 64) taken in
      let passes : passed ≡ (p.passed + e.offset) % 2 ^ 64 = is-passed ∙ ap (λ (k : ℕ). (p.passed + k) % 2 ^ 64) at in
      λ i.
      record {
        progress = record { model = (is_ended i).model; unread = rest i; number = (is_ended i).number; records = counts i; passed = passes i };
        written = (is_ended i).written;
      }

  pub step_kept : {i : List ℕ} → i ≡ put 0 (remaining o.ticks (slice o.offset end input)) input → i ≡ input_after p came input output
  unfolding input_after unread outcome
  step_kept {i} e =
      let a = ended p came input output in
      e
      ∙ ap (λ (x : Outcome). put 0 (remaining x.ticks (drop x.offset (take end input))) input) is_ended
      ∙ ap (λ (l : List ℕ). put 0 (remaining a.ticks (drop a.offset l)) input) is_held

  pub step_logged : {out : List ℕ} → out ≡ put 0 (bytes_of (session p.model (take end input) (length output)).log) output → out ≡ output_after p came input output
  unfolding output_after ended
  step_logged e = e ∙ ap (λ (l : List ℕ). put 0 (bytes_of (session p.model l (length output)).log) output) is_held

-- ---- after a step
front : (l b : List ℕ) → take (length l) (put 0 l b) ≡ l
front l b = ap (take (length l)) (put_front l b) ∙ take-append_seam l (drop (length l) b)

module _ (p : Progress) (came : ℕ) (input output : List ℕ) where
  -- the log lies at the front of the output
  pub step_front : take (stepped p came input output).written (output_after p came input output) ≡ bytes_of (ended p came input output).log
  unfolding stepped output_after
  step_front = front (bytes_of (ended p came input output).log) output

  -- what is unread lies at the front of the input buffer
  pub step_unread : take (stepped p came input output).progress.unread (input_after p came input output) ≡ unread (ended p came input output) (held p came input)
  unfolding stepped progressed input_after
  step_unread =
      let left = unread (ended p came input output) (held p came input) in
      ap (λ (k : ℕ). take k (put 0 left input)) (sym (unread_long (ended p came input output) (held p came input))) ∙ front left input

  pub step_left : (stepped p came input output).progress.unread ≤ length (input_after p came input output)
  unfolding stepped progressed
  step_left =
      let n = (stepped p came input output).progress.unread in
      omega (arith, ap length step_unread, length-take n (input_after p came input output), unread_long (ended p came input output) (held p came input))

-- what is unread lies in the input buffer, and the log in the output
pub step_within : (p : Progress) (came : ℕ) (input output : List ℕ) {s : Stepped} → s ≡ stepped p came input output
    → (s.progress.unread ≤ length input) × (s.written ≤ length output)
unfolding stepped progressed ended
step_within p came input output e =
    let most : length (held p came input) ≤ length input = omega (arith, length-take (p.unread + came) input) in
    rw e (omega arith, session_within p.model (held p came input) (length output))

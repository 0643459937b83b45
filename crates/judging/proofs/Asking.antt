-- The record at the front of what is left of a session: what follows it does not matter to it, what it asks for goes by its kind, and its
-- ticks are within the time that is left.
-- Assumes nothing.
use Prim.Native.Nat.{ℕ, max, ◌+◌, ◌-◌, ◌<◌, ◌≤◌}
use Rattle.device.specs.Device.{allowed, instance_at, known}
use Rattle.device.specs.declared.model.Model.{Model}
use Rattle.judging.specs.Asked.{asked, asked_by, declare_asked, declared_in, frame_asked, sample_asked, sample_in, sensor_asked, size_of, ticks_asked}
use Rattle.judging.specs.Refusals.{number_of, refusal_numbers}
use Rattle.judging.specs.declared.asked.Asked.TheVariants.{Declare, Frame, Hold, Ticks}
use Rattle.judging.specs.declared.asked.Asked.{Asked}
use Rattle.judging.specs.declared.asked.Refusal.TheVariants.{BadSample, BeyondTable, Cut, Full, LateOrSkipped, NoSuchSensor, NoTicks, NotReadyAgain, TimeOver, Undeclared, UnknownMark}
use Rattle.judging.specs.declared.asked.Refusal.{Refusal}
use Rattle.record.proofs.Bytes.{all_below}
use Rattle.record.specs.Log.{AllBytes}
use Rattle.record.specs.Marks.{mark_of, mark_size}
use Rattle.record.specs.Numbers.{byte, word}
use Rattle.record.specs.declared.marks.Mark.TheVariants.{Bus, Declaration, Measurement, Time}
use Rattle.record.specs.declared.marks.Mark.{Mark}
use Rattle.sensor.specs.Tick.{goes_back}
use Rattle.sensor.specs.declared.sensors.Sensor.{Sensor}
use Rattle.std.specs.Prelude.{Err, None, Ok, Option, Result, Some}
use borrow.Author.Tests.{le-ltb, ltb-false}
use lib.Dec.{eqb, ltb}
use lib.ListN.{get_or-append, length, length-append, take}
use lib.Seq.{get_or-take, length-take-le}
use mathlib.Core.Bool.{Bool, cond, false, not, true, ◌||◌}
use mathlib.Core.List.{List, ◌++◌}
use mathlib.Core.Logic.{inl, inr, ◌≢◌, ◌⊎◌}
use mathlib.Core.Path.{ap, refl, subst, sym, ◌∙◌, ◌≡◌}
use native.Mathlib.Omega.{arith}
use types.Run.{OneOf, hit, miss}

-- ---- what follows a record does not matter to it
-- two byte strings with the same first `size` bytes
pub record Agree (size : ℕ) (p q : List ℕ) : Type 0 where
  pub long : size ≤ length p
  pub long' : size ≤ length q
  pub same : (k : ℕ) → k < size → byte p k ≡ byte q k

-- all of it, with other bytes behind it
pub extended : (size : ℕ) (xs ys : List ℕ) → size ≤ length xs → Agree size xs (xs ++ ys)
extended size xs ys h =
    record { long = h; long' = rw length-append (omega arith); same = λ k l. sym (get_or-append xs ys 0 k (omega arith)) }

-- its first bytes alone, with others behind them
pub cut : (size : ℕ) (xs ys : List ℕ) → size ≤ length xs → Agree size xs (take size xs ++ ys)
cut size xs ys h =
    let l = length-take-le size xs h in
    record {
      long = h;
      long' = rw (length-append, l) (omega arith);
      same = λ k below. sym (get_or-append (take size xs) ys 0 k (rw l below) ∙ get_or-take size xs k 0 below);
    }

-- what a record takes, by its mark; one of no known mark, that
abbrev size_at : Option Mark → ℕ
size_at None = 2
size_at (Some k) = max 2 (mark_size k)

module _ (m : Model) (p q : List ℕ) where
  alike : (k : Option Mark) → Agree (size_at k) p q → asked_by k p m ≡ asked_by k q m
  unfolding asked_by declare_asked sample_asked frame_asked ticks_asked
  alike None a = refl
  alike (Some Declaration) a =
      rw (
        le-ltb (length p) (mark_size Declaration) a.long,
        le-ltb (length q) (mark_size Declaration) a.long',
        a.same 0 (omega arith),
        a.same 1 (omega arith),
        a.same 2 (omega arith),
        a.same 3 (omega arith),
        a.same 4 (omega arith),
      )
  alike (Some Measurement) a =
      rw (
        le-ltb (length p) (mark_size Measurement) a.long,
        le-ltb (length q) (mark_size Measurement) a.long',
        a.same 2 (omega arith),
        a.same 3 (omega arith),
        a.same 4 (omega arith),
        a.same 5 (omega arith),
        a.same 6 (omega arith),
      )
  alike (Some Bus) a =
      rw (
        le-ltb (length p) (mark_size Bus) a.long,
        le-ltb (length q) (mark_size Bus) a.long',
        a.same 2 (omega arith),
        a.same 3 (omega arith),
        a.same 4 (omega arith),
      )
  alike (Some Time) a =
      rw (
        le-ltb (length p) (mark_size Time) a.long,
        le-ltb (length q) (mark_size Time) a.long',
        a.same 2 (omega arith),
        a.same 3 (omega arith),
      )

-- a record that is taken has its kind's size
abbrev Sized : (size : ℕ) → Result Asked Refusal → Type 0
Sized size a = (size_of a ≡ 0) ⊎ (size_of a ≡ size)

-- what holds either way of a test
by_test : (P : Result Asked Refusal → Type 0) (b : Bool) (x y : Result Asked Refusal) → P x → P y → P (cond b x y)
by_test P true x y p q = p
by_test P false x y p q = q

-- and of what is declared
by_sensor : (P : Result Asked Refusal → Type 0) (d : Option Sensor) → ((sensor : Sensor) → P (Ok (Declare sensor))) → P (Err NoSuchSensor) → P (sensor_asked d)
by_sensor P None one none = none
by_sensor P (Some sensor) one none = one sensor

-- and one that is not cut is whole
abbrev Whole : (size long : ℕ) → Result Asked Refusal → Type 0
Whole size long a = (a ≡ Err Cut) ⊎ ((size ≤ long) × Sized size a)

whole_if : (size long : ℕ) (a : Result Asked Refusal) → Sized size a → Whole size long (cond (ltb long size) (Err Cut) a)
whole_if size long a s = go (ltb long size) refl
  where
    go : (b : Bool) → ltb long size ≡ b → Whole size long (cond b (Err Cut) a)
    go true e = inl refl
    go false e = inr (ltb-false long size e, s)

module _ (rest : List ℕ) (m : Model) (l : 2 ≤ length rest) where
  whole_by : (k : Option Mark) → Whole (size_at k) (length rest) (asked_by k rest m)
  unfolding asked_by declare_asked sample_asked frame_asked ticks_asked size_of
  whole_by None = inr (l, inl refl)
  whole_by (Some Declaration) =
      whole_if (mark_size Declaration) (length rest) _
      (by_test (Sized (mark_size Declaration)) (m.running || not (eqb (byte rest 2) m.declared)) _ _ (inl refl)
      (by_test (Sized (mark_size Declaration)) (ltb (byte rest 2) 16) _ _
      (by_sensor (Sized (mark_size Declaration)) (declared_in rest) (λ sensor. inr refl) (inl refl)) (inl refl)))
  whole_by (Some Measurement) =
      whole_if (mark_size Measurement) (length rest) _
      (by_test (Sized (mark_size Measurement)) (known m (byte rest 2)) _ _
      (by_test (Sized (mark_size Measurement)) (allowed m (byte rest 2) (sample_in rest)) _ _
      (by_test (Sized (mark_size Measurement)) (goes_back (instance_at m (byte rest 2)) (sample_in rest)) _ _ (inl refl) (inr refl))
      (inl refl))
      (inl refl))
  whole_by (Some Bus) = whole_if (mark_size Bus) (length rest) _ (inr refl)
  whole_by (Some Time) =
      whole_if (mark_size Time) (length rest) _
      (by_test (Sized (mark_size Time)) (eqb (word rest 2) 0) _ _ (inl refl)
      (by_test (Sized (mark_size Time)) (ltb (4294967295 - m.tick) (word rest 2)) _ _ (inl refl)
      (by_test (Sized (mark_size Time)) (ltb m.last (m.tick + word rest 2)) _ _ (inl refl) (inr refl))))

-- a mark that is there decides
pub marked : (rest : List ℕ) (m : Model) → 2 ≤ length rest → asked rest m ≡ asked_by (mark_of (word rest 0)) rest m
unfolding asked
marked rest m l = rw (le-ltb (length rest) 2 l)

-- A RECORD WHOLE: what a record takes is there
within : (size long : ℕ) (a : Result Asked Refusal) → Whole size long a → size_of a ≤ long
unfolding size_of
within size long a (inl e) = rw e (omega arith)
within size long a (inr (w, inl z)) = omega arith
within size long a (inr (w, inr z)) = omega arith

pub asked_size : (rest : List ℕ) (m : Model) → size_of (asked rest m) ≤ length rest
unfolding asked size_of
asked_size rest m = go (ltb (length rest) 2) refl
  where
    go : (b : Bool) → ltb (length rest) 2 ≡ b → size_of (asked rest m) ≤ length rest
    go true e = rw e (omega arith)
    go false e = let l = ltb-false (length rest) 2 e in rw (marked rest m l) (within _ _ _ (whole_by rest m l (mark_of (word rest 0))))

two_least : (k : Option Mark) → 2 ≤ size_at k
two_least None = omega arith
two_least (Some k) = omega arith

same_by : (rest : List ℕ) (m : Model) → 2 ≤ length rest → (q : List ℕ) → Agree (size_at (mark_of (word rest 0))) rest q → asked q m ≡ asked rest m
same_by rest m l q a =
    let t = two_least (mark_of (word rest 0)) in
    let letters : word q 0 ≡ word rest 0 = omega (arith, a.same 0 (omega arith), a.same 1 (omega arith)) in
    marked q m (omega (arith, a.long'))
    ∙ ap (λ n. asked_by (mark_of n) q m) letters
    ∙ sym (alike m rest q (mark_of (word rest 0)) a)
    ∙ sym (marked rest m l)

-- one that is not cut has its mark, and its kind's size
record Complete (rest : List ℕ) (m : Model) : Type 0 where
  present : 2 ≤ length rest
  whole : size_at (mark_of (word rest 0)) ≤ length rest
  sized : Sized (size_at (mark_of (word rest 0))) (asked rest m)

complete : (rest : List ℕ) (m : Model) → (asked rest m ≡ Err Cut → ⊥) → Complete rest m
unfolding asked
complete rest m uncut = go (ltb (length rest) 2) refl
  where
    by : (l : 2 ≤ length rest) → Whole (size_at (mark_of (word rest 0))) (length rest) (asked_by (mark_of (word rest 0)) rest m) → Complete rest m
    by l (inl z) = absurd (uncut (marked rest m l ∙ z))
    by l (inr (w, s)) = record { present = l; whole = w; sized = subst (Sized (size_at (mark_of (word rest 0)))) (sym (marked rest m l)) s }

    go : (b : Bool) → ltb (length rest) 2 ≡ b → Complete rest m
    go true e = absurd (uncut (rw e))
    go false e = let l = ltb-false (length rest) 2 e in by l (whole_by rest m l (mark_of (word rest 0)))

-- A RECORD ALONE: one that is taken is the same record whatever follows it
pub alone : (rest : List ℕ) (m : Model) → 0 < size_of (asked rest m) → (q : List ℕ) → Agree (size_of (asked rest m)) rest q → asked q m ≡ asked rest m
unfolding size_of
alone rest m h q a = by c.sized
  where
    c : Complete rest m
    c = complete rest m (λ e. omega (arith, ap size_of e))

    by : Sized (size_at (mark_of (word rest 0))) (asked rest m) → asked q m ≡ asked rest m
    by (inl z) = absurd (omega arith)
    by (inr z) = same_by rest m c.present q (subst (λ n. Agree n rest q) z a)

-- A RECORD REFUSED, and not for being cut, is refused whatever follows it
pub refused_still : (rest : List ℕ) (m : Model) (why : Refusal) → (why ≡ Cut → ⊥) → asked rest m ≡ Err why
    → (ys : List ℕ) → asked (rest ++ ys) m ≡ Err why
refused_still rest m why uncut e ys =
    let c = complete rest m (λ z. let same : why ≡ Cut = cc in uncut same) in
    same_by rest m c.present (rest ++ ys) (extended (size_at (mark_of (word rest 0))) rest ys c.whole) ∙ e

-- ---- BY KINDS: what holds of each refusal but 9, and of each kind of record that is whole, holds of what is asked for
module _ (P : Result Asked Refusal → Type 0) (rest : List ℕ) (m : Model)
    (refuse : (why : Refusal) → number_of why ≢ 9 → P (Err why))
    (declares : (sensor : Sensor) → P (Ok (Declare sensor)))
    (holds : P (Ok (Hold (byte rest 2) (sample_in rest))))
    (frames : P (Ok (Frame (byte rest 2) (byte rest 3) (byte rest 4))))
    (time : word rest 2 ≤ 4294967295 - m.tick → m.tick + word rest 2 ≤ m.last → P (Ok (Ticks (word rest 2))))
  where
    timely : (b : Bool) → ltb (4294967295 - m.tick) (word rest 2) ≡ b → (c : Bool) → ltb m.last (m.tick + word rest 2) ≡ c
        → P (cond b (Err TimeOver) (cond c (Err BeyondTable) (Ok (Ticks (word rest 2)))))
    unfolding number_of
    timely true e c f = refuse TimeOver (omega arith)
    timely false e true f = refuse BeyondTable (omega arith)
    timely false e false f = time (ltb-false (4294967295 - m.tick) (word rest 2) e) (ltb-false m.last (m.tick + word rest 2) f)

    kind_by : (k : Option Mark) → P (asked_by k rest m)
    unfolding asked_by declare_asked sample_asked frame_asked ticks_asked number_of
    kind_by None = refuse UnknownMark (omega arith)
    kind_by (Some Declaration) =
        by_test P (ltb (length rest) (mark_size Declaration)) _ _ (refuse Cut (omega arith))
        (by_test P (m.running || not (eqb (byte rest 2) m.declared)) _ _ (refuse LateOrSkipped (omega arith))
        (by_test P (ltb (byte rest 2) 16) _ _
        (by_sensor P (declared_in rest) declares (refuse NoSuchSensor (omega arith))) (refuse NoSuchSensor (omega arith))))
    kind_by (Some Measurement) =
        by_test P (ltb (length rest) (mark_size Measurement)) _ _ (refuse Cut (omega arith))
        (by_test P (known m (byte rest 2)) _ _
        (by_test P (allowed m (byte rest 2) (sample_in rest)) _ _
        (by_test P (goes_back (instance_at m (byte rest 2)) (sample_in rest)) _ _ (refuse NotReadyAgain (omega arith)) holds)
        (refuse BadSample (omega arith)))
        (refuse Undeclared (omega arith)))
    kind_by (Some Bus) = by_test P (ltb (length rest) (mark_size Bus)) _ _ (refuse Cut (omega arith)) frames
    kind_by (Some Time) =
        by_test P (ltb (length rest) (mark_size Time)) _ _ (refuse Cut (omega arith))
        (by_test P (eqb (word rest 2) 0) _ _ (refuse NoTicks (omega arith)) (timely (ltb (4294967295 - m.tick) (word rest 2)) refl (ltb m.last (m.tick + word rest 2)) refl))

    pub by_kinds : P (asked rest m)
    unfolding asked number_of
    by_kinds = by_test P (ltb (length rest) 2) _ _ (refuse Cut (omega arith)) (kind_by (mark_of (word rest 0)))

-- ---- the ticks that a record asks for are within the time that is left, and two bytes hold them
abbrev pub ticks_of : Result Asked Refusal → ℕ
ticks_of (Err why) = 0
ticks_of (Ok (Declare sensor)) = 0
ticks_of (Ok (Hold i sample)) = 0
ticks_of (Ok (Frame first second third)) = 0
ticks_of (Ok (Ticks n)) = n

-- none but of a TK, whose two bytes count them
ticks_counted : (P : ℕ → Type 0) → P 0 → (rest : List ℕ) (m : Model)
    → (word rest 2 ≤ 4294967295 - m.tick → m.tick + word rest 2 ≤ m.last → P (word rest 2)) → P (ticks_of (asked rest m))
ticks_counted P none rest m time = by_kinds (λ a. P (ticks_of a)) rest m (λ why h. none) (λ sensor. none) none none time

pub time_left : (rest : List ℕ) (m : Model) → ticks_of (asked rest m) ≤ 4294967295 - m.tick
time_left rest m = ticks_counted (λ n. n ≤ 4294967295 - m.tick) (omega arith) rest m (λ h k. h)

-- M-106: and none beyond the last that may be reached
pub last_left : (rest : List ℕ) (m : Model) → 0 < ticks_of (asked rest m) → m.tick + ticks_of (asked rest m) ≤ m.last
last_left rest m = ticks_counted (λ n. 0 < n → m.tick + n ≤ m.last) (λ h. absurd (omega arith)) rest m (λ h k some. k)

pub two_bytes : (rest : List ℕ) (m : Model) → AllBytes rest → ticks_of (asked rest m) ≤ 65535
two_bytes rest m a = ticks_counted (λ n. n ≤ 65535) (omega arith) rest m (λ h k. omega (arith, all_below rest 2 a, all_below rest 3 a))

-- a record that asks for ticks is a TK of that count
pub count_of : (rest : List ℕ) (m : Model) → 0 < ticks_of (asked rest m) → ticks_of (asked rest m) ≡ word rest 2
count_of rest m = ticks_counted (λ n. 0 < n → n ≡ word rest 2) (λ h. absurd (omega arith)) rest m (λ h k some. refl)

pub as_ticks : (a : Result Asked Refusal) → 0 < ticks_of a → a ≡ Ok (Ticks (ticks_of a))
as_ticks (Err why) h = absurd (omega arith)
as_ticks (Ok (Declare sensor)) h = absurd (omega arith)
as_ticks (Ok (Hold i sample)) h = absurd (omega arith)
as_ticks (Ok (Frame first second third)) h = absurd (omega arith)
as_ticks (Ok (Ticks n)) h = refl

-- ---- the numbers: that of a refusal is one of the list, and each of the list is a refusal's
pub refused_number : (why : Refusal) → OneOf refusal_numbers (number_of why)
unfolding number_of
refused_number UnknownMark = hit refusal_numbers 1 tt
refused_number Cut = hit refusal_numbers 2 tt
refused_number LateOrSkipped = hit refusal_numbers 3 tt
refused_number NoSuchSensor = hit refusal_numbers 4 tt
refused_number Undeclared = hit refusal_numbers 5 tt
refused_number BadSample = hit refusal_numbers 6 tt
refused_number NoTicks = hit refusal_numbers 7 tt
refused_number TimeOver = hit refusal_numbers 8 tt
refused_number Full = hit refusal_numbers 9 tt
refused_number BeyondTable = hit refusal_numbers 10 tt
refused_number NotReadyAgain = hit refusal_numbers 13 tt

pub number_refused : (n : ℕ) → OneOf refusal_numbers n → (why : Refusal) × (n ≡ number_of why)
unfolding number_of
number_refused n (inl e) = (UnknownMark, e)
number_refused n (inr (inl e)) = (Cut, e)
number_refused n (inr (inr (inl e))) = (LateOrSkipped, e)
number_refused n (inr (inr (inr (inl e)))) = (NoSuchSensor, e)
number_refused n (inr (inr (inr (inr (inl e))))) = (Undeclared, e)
number_refused n (inr (inr (inr (inr (inr (inl e)))))) = (BadSample, e)
number_refused n (inr (inr (inr (inr (inr (inr (inl e))))))) = (NoTicks, e)
number_refused n (inr (inr (inr (inr (inr (inr (inr (inl e)))))))) = (TimeOver, e)
number_refused n (inr (inr (inr (inr (inr (inr (inr (inr (inl e))))))))) = (Full, e)
number_refused n (inr (inr (inr (inr (inr (inr (inr (inr (inr (inl e)))))))))) = (BeyondTable, e)
number_refused n (inr (inr (inr (inr (inr (inr (inr (inr (inr (inr e)))))))))) = (NotReadyAgain, e)

-- 0 is given only when all records are taken
pub refused_some : (why : Refusal) → 1 ≤ number_of why
refused_some why =
    let some : number_of why ≢ 0 = λ z. miss refusal_numbers 0 tt (subst (OneOf refusal_numbers) z (refused_number why)) in
    omega (arith, some)

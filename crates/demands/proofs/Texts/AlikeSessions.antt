-- From two devices that differ in the text alone a session comes to the same.
-- Assumes nothing.
use Prim.Native.Nat.{ℕ, zero, suc, ◌+◌, ◌-◌}
use Rattle.demands.proofs.Texts.AlikeDevices.{alike_declared, alike_frame, alike_held, alike_tick, at_as, same_frame_log, same_tick_log}
use Rattle.demands.specs.Stands.{behind}
use Rattle.demands.specs.Texts.{Alike, Same, model_as_in}
use Rattle.device.specs.Device.{allowed, instance_at, known}
use Rattle.device.specs.Frame.{frame_log, frame_model}
use Rattle.device.specs.declared.model.Model.{Model}
use Rattle.judging.specs.Asked.{asked, asked_by, declare_asked, declared_in, frame_asked, sample_asked, sample_in, sensor_asked, size_of, ticks_asked}
use Rattle.judging.specs.Refusals.{number_of}
use Rattle.judging.specs.declared.asked.Asked.TheVariants.{Declare, Frame, Hold, Ticks}
use Rattle.judging.specs.declared.asked.Asked.{Asked}
use Rattle.judging.specs.declared.asked.Refusal.TheVariants.{BadSample, Cut, Full, NotReadyAgain, Undeclared}
use Rattle.judging.specs.declared.asked.Refusal.{Refusal}
use Rattle.record.specs.Log.{Logged}
use Rattle.record.specs.Marks.{mark_of, mark_size}
use Rattle.record.specs.Numbers.{byte, word}
use Rattle.record.specs.declared.marks.Mark.TheVariants.{Bus, Declaration, Measurement, Time}
use Rattle.record.specs.declared.marks.Mark.{Mark}
use Rattle.sensor.proofs.Texts.{allows_as}
use Rattle.sensor.specs.Tick.{goes_back}
use Rattle.sensor.specs.declared.sensors.Sensor.{Sensor}
use Rattle.session.specs.Session.{End, Step, fits, reading, refused, session, step, taken, ticking}
use Rattle.std.specs.Prelude.{Err, Ok, Result, None, Option, Some}
use Rattle.ticks.specs.Tick.{tick_log, tick_model}
use lib.Dec.{eqb, ltb}
use lib.ListN.{drop, length}
use mathlib.Core.Bool.{Bool, cond, false, not, true, ◌||◌}
use mathlib.Core.List.{List, [], ◌++◌, ◌∷◌}
use mathlib.Core.Path.{ap, refl, subst, sym, ◌∙◌, ◌≡◌}

-- ---- what a record asks for does not go by the text
module _ (rest : List ℕ) (m : Model) where
  by_mark : (k : Option Mark) → asked_by k rest (model_as_in m) ≡ asked_by k rest m
  unfolding asked_by declare_asked sample_asked ticks_asked allowed known goes_back
  by_mark None = refl
  by_mark (Some Declaration) = refl
  by_mark (Some Measurement) = rw (at_as m (byte rest 2), allows_as (instance_at m (byte rest 2)).kind (sample_in rest))
  by_mark (Some Bus) = refl
  by_mark (Some Time) = refl

  asked_as : asked rest (model_as_in m) ≡ asked rest m
  unfolding asked
  asked_as = ap (cond (ltb (length rest) 2) (Err Cut)) (by_mark (mark_of (word rest 0)))

-- a sample that is to be held is one that is allowed
abbrev Held : Model → Result Asked Refusal → Type 0
Held m (Err why) = Unit {0}
Held m (Ok (Declare sensor)) = Unit {0}
Held m (Ok (Hold i sample)) = allowed m i sample ≡ true
Held m (Ok (Frame first second third)) = Unit {0}
Held m (Ok (Ticks n)) = Unit {0}

module _ (rest : List ℕ) (m : Model) where
  held_or : (b : Bool) (x y : Result Asked Refusal) → Held m x → Held m y → Held m (cond b x y)
  held_or true x y p q = p
  held_or false x y p q = q

  held_sensor : (d : Option Sensor) → Held m (sensor_asked d)
  held_sensor None = tt
  held_sensor (Some sensor) = tt

  held_sample : (b c d : Bool) → allowed m (byte rest 2) (sample_in rest) ≡ c
      → Held m (cond b (cond c (cond d (Err NotReadyAgain) (Ok (Hold (byte rest 2) (sample_in rest)))) (Err BadSample)) (Err Undeclared))
  held_sample false c d e = tt
  held_sample true false d e = tt
  held_sample true true true e = tt
  held_sample true true false e = e

  held_by : (k : Option Mark) → Held m (asked_by k rest m)
  unfolding asked_by declare_asked sample_asked frame_asked ticks_asked
  held_by None = tt
  held_by (Some Declaration) =
      held_or (ltb (length rest) (mark_size Declaration)) _ _ tt
      (held_or (m.running || not (eqb (byte rest 2) m.declared)) _ _ tt (held_or (ltb (byte rest 2) 16) _ _ (held_sensor (declared_in rest)) tt))
  held_by (Some Measurement) =
      held_or (ltb (length rest) (mark_size Measurement)) _ _ tt
      (held_sample (known m (byte rest 2)) (allowed m (byte rest 2) (sample_in rest)) (goes_back (instance_at m (byte rest 2)) (sample_in rest)) refl)
  held_by (Some Bus) = held_or (ltb (length rest) (mark_size Bus)) _ _ tt tt
  held_by (Some Time) =
      held_or (ltb (length rest) (mark_size Time)) _ _ tt
      (held_or (eqb (word rest 2) 0) _ _ tt
      (held_or (ltb (4294967295 - m.tick) (word rest 2)) _ _ tt (held_or (ltb m.last (m.tick + word rest 2)) _ _ tt tt)))

  held : Held m (asked rest m)
  unfolding asked
  held = held_or (ltb (length rest) 2) _ _ tt (held_by (mark_of (word rest 0)))

pub same_asked : (rest : List ℕ) {m m' : Model} → Alike m m' → asked rest m ≡ asked rest m'
same_asked rest {m} {m'} a = sym (asked_as rest m) ∙ ap (asked rest) a.same ∙ asked_as rest m'

-- ---- a step
pub data Steps : Step → Step → Type 0 where
  both_taken : {m m' : Model} {log : List Logged} → Alike m m' → Steps (taken m log) (taken m' log)
  both_refused : {why : Refusal} {t : ℕ} {m m' : Model} {log : List Logged} → Alike m m' → Steps (refused why t m log) (refused why t m' log)

module _ (room : ℕ) where
  ticking_alike : (n done : ℕ) {m m' : Model} (log : List Logged) → Alike m m' → Steps (ticking n done room m log) (ticking n done room m' log)
  unfolding ticking
  ticking_alike zero done log a = both_taken a
  ticking_alike (suc n) done {m} {m'} log a =
      subst (λ more. Steps (ticking (suc n) done room m log) (next' more)) (same_tick_log a) (go (fits room log (tick_log m)) (ticking_alike n (done + 1) (log ++ tick_log m) (alike_tick a)))
    where
      next' : List Logged → Step
      next' more = elim (fits room log more) [ true ↦ ticking n (done + 1) room (tick_model m') (log ++ more) | false ↦ refused Full done m' log ]

      go : (b : Bool) → Steps (ticking n (done + 1) room (tick_model m) (log ++ tick_log m)) (ticking n (done + 1) room (tick_model m') (log ++ tick_log m))
          → Steps
          (elim b [ true ↦ ticking n (done + 1) room (tick_model m) (log ++ tick_log m) | false ↦ refused Full done m log ])
          (elim b [ true ↦ ticking n (done + 1) room (tick_model m') (log ++ tick_log m) | false ↦ refused Full done m' log ])
      go true ih = ih
      go false ih = both_refused a

  -- what is asked for is held, if it is a sample, in both
  pub step_alike : (a : Result Asked Refusal) {m m' : Model} (log : List Logged) → Alike m m' → Held m a → Held m' a → Steps (step a room m log) (step a room m' log)
  unfolding step
  step_alike (Err why) log a h h' = both_refused a
  step_alike (Ok (Declare sensor)) log a h h' = both_taken (alike_declared a sensor sensor refl)
  step_alike (Ok (Hold i sample)) log a h h' = both_taken (alike_held a i sample h h')
  step_alike (Ok (Ticks n)) log a h h' = ticking_alike n 0 log a
  step_alike (Ok (Frame first second third)) {m} {m'} log a h h' =
      subst (λ more. Steps (step (Ok (Frame first second third)) room m log) (next' more)) (same_frame_log a first second third) (go (fits room log (frame_log m first second third)))
    where
      next' : List Logged → Step
      next' more = elim (fits room log more) [ true ↦ taken (frame_model m' first second third) (log ++ more) | false ↦ refused Full 0 m' log ]

      go : (b : Bool)
          → Steps
          (elim b [ true ↦ taken (frame_model m first second third) (log ++ frame_log m first second third) | false ↦ refused Full 0 m log ])
          (elim b [ true ↦ taken (frame_model m' first second third) (log ++ frame_log m first second third) | false ↦ refused Full 0 m' log ])
      go true = both_taken (alike_frame a first second third)
      go false = both_refused a

-- ---- A SESSION
reading_alike : (most : ℕ) (rest : List ℕ) (room at : ℕ) {m m' : Model} (log : List Logged) → Alike m m'
    → Same (reading most rest room at m log) (reading most rest room at m' log)
unfolding reading
reading_alike zero rest room at log a = record { number = refl; offset = refl; ticks = refl; log = refl; models = a }
reading_alike (suc most) [] room at log a = record { number = refl; offset = refl; ticks = refl; log = refl; models = a }
reading_alike (suc most) (b ∷ rest) room at {m} {m'} log a =
    subst (λ x. Same (reading (suc most) (b ∷ rest) room at m log) (goes x (step x room m' log))) same
    (go (step_alike room (asked (b ∷ rest) m) log a (held (b ∷ rest) m) (subst (Held m') (sym same) (held (b ∷ rest) m')))
    (λ k k' log' alike. reading_alike most (drop (size_of (asked (b ∷ rest) m)) (b ∷ rest)) room (at + size_of (asked (b ∷ rest) m)) log' alike))
  where
    same : asked (b ∷ rest) m ≡ asked (b ∷ rest) m'
    same = same_asked (b ∷ rest) a

    goes : Result Asked Refusal → Step → End
    goes x s =
        elim s [
          | taken k log' ↦ reading most (drop (size_of x) (b ∷ rest)) room (at + size_of x) k log'
          | refused why ticks k log' ↦ record { model = k; number = number_of why; offset = at; ticks = ticks; log = log' }
        ]

    go : {s s' : Step} → Steps s s'
        → ((k k' : Model) (log' : List Logged) → Alike k k'
        → Same
        (reading most (drop (size_of (asked (b ∷ rest) m)) (b ∷ rest)) room (at + size_of (asked (b ∷ rest) m)) k log')
        (reading most (drop (size_of (asked (b ∷ rest) m)) (b ∷ rest)) room (at + size_of (asked (b ∷ rest) m)) k' log'))
        → Same (goes (asked (b ∷ rest) m) s) (goes (asked (b ∷ rest) m) s')
    go (both_taken alike) ih = ih _ _ _ alike
    go (both_refused alike) ih = record { number = refl; offset = refl; ticks = refl; log = refl; models = alike }

pub session_alike : (xs : List ℕ) (room : ℕ) {m m' : Model} → Alike m m' → Same (session m xs room) (session m' xs room)
unfolding session
session_alike xs room a = reading_alike (length xs) xs room 0 [] a

pub same_behind : (size : ℕ) (log : List Logged) {a b : End} → Same a b → Same (behind size log a) (behind size log b)
same_behind size log s =
    record { number = s.number; offset = ap (λ n. size + n) s.offset; ticks = s.ticks; log = ap (λ l. log ++ l) s.log; models = s.models }

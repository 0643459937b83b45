-- Each refusal but 9 is given exactly when its row of the table holds.
-- Assumes nothing.
use Prim.Native.Nat.{ℕ, suc, ◌+◌, ◌-◌, ◌<◌, ◌^◌, ◌≤◌}
use Rattle.demands.proofs.Demand1.Tells.{Tells, fails, holds, tells_and, tells_as, tells_bool, tells_cond, tells_eqb, tells_leb, tells_ltb, tells_not, tells_or}
use Rattle.demands.proofs.Shared.Declarations.{declared_none, none_declared}
use Rattle.demands.proofs.Shared.Marks.{MarkIs, declaring_asked, fr_asked, mark_is, sa_asked, tk_asked, unknown_mark}
use Rattle.demands.specs.Numbers.{Allowed, Declared, Declaring, FR, Given, GoesBack, Late, NoSensor, SA, TK}
use Rattle.device.specs.Device.{allowed, instance_at, known}
use Rattle.device.specs.declared.model.Model.{Model}
use Rattle.judging.proofs.Asking.{marked}
use Rattle.judging.specs.Asked.{asked, asked_by, declare_asked, declared_in, frame_asked, sample_asked, sample_in, sensor_asked, ticks_asked}
use Rattle.judging.specs.declared.asked.Asked.TheVariants.{Declare, Frame, Hold, Ticks}
use Rattle.judging.specs.declared.asked.Asked.{Asked}
use Rattle.judging.specs.declared.asked.Refusal.TheVariants.{BadSample, BeyondTable, Cut, Full, LateOrSkipped, NoSuchSensor, NoTicks, NotReadyAgain, TimeOver, Undeclared, UnknownMark}
use Rattle.judging.specs.declared.asked.Refusal.{Refusal}
use Rattle.record.specs.Log.{AllBytes}
use Rattle.record.specs.Marks.{mark_of, mark_size}
use Rattle.record.specs.Numbers.{byte, word}
use Rattle.record.specs.declared.marks.Mark.TheVariants.{Bus, Declaration, Measurement, Time}
use Rattle.record.specs.declared.marks.Mark.{Mark}
use Rattle.rgb.specs.Colour.{b_value, g_value, r_value}
use Rattle.sensor.specs.Colour.{colour_allows}
use Rattle.sensor.specs.Kind.{allows}
use Rattle.sensor.specs.Light.{light_allows}
use Rattle.sensor.specs.Movement.{movement_allows}
use Rattle.sensor.specs.Occupancy.{occupancy_allows}
use Rattle.sensor.specs.Tick.{goes_back}
use Rattle.sensor.specs.declared.instance.Instance.{Instance}
use Rattle.sensor.specs.declared.kind.Kind.TheVariants.{Colour, Light, Movement, Occupancy}
use Rattle.sensor.specs.declared.kind.Kind.{Kind}
use Rattle.sensor.specs.declared.sensors.Sensor.{Sensor}
use Rattle.sensor.specs.declared.settings.Sample.{Sample}
use Rattle.std.specs.Prelude.{Err, Ok, Result, None, Option, Some}
use borrow.Author.Tests.{eq-eqb, eqb-false, eqb-true, le-ltb, lt-ltb, ltb-false, ltb-true, ne_eqb}
use lib.Dec.{eqb, leb, ltb}
use lib.ListN.{length}
use mathlib.Core.Bool.{Bool, cond, false, not, true, ◌&&◌, ◌||◌}
use mathlib.Core.List.{List}
use mathlib.Core.Logic.{inl, inr, ◌≢◌, ◌⊎◌}
use mathlib.Core.Path.{ap, refl, subst, ◌∙◌, ◌≡◌}
use native.Mathlib.Decide.{dec_lt, ℕ_discrete}
use native.Mathlib.Omega.{arith}

-- ---- the tests of the rows
late_tells : (rest : List ℕ) (m : Model) → Tells (m.running || not (eqb (byte rest 2) m.declared)) (Late rest m)
late_tells rest m = tells_or (tells_bool m.running) (tells_not (tells_eqb (byte rest 2) m.declared))

known_tells : (m : Model) (i : ℕ) → Tells (known m i) (Declared m i)
unfolding known
known_tells m i = tells_and (tells_ltb i m.declared) (tells_ltb i 16)

-- a value up to `most` with status 0, or 0 with status 2
few_tells : (s : Sample) (most : ℕ)
    → Tells (cond (eqb s.status 0) (ltb s.value (suc most)) (eqb s.status 2 && eqb s.value 0))
    (((s.status ≡ 0) × (s.value ≤ most)) ⊎ ((s.status ≡ 2) × (s.value ≡ 0)))
few_tells s most =
    tells_as to from (tells_cond (tells_eqb s.status 0) (tells_ltb s.value (suc most)) (tells_and (tells_eqb s.status 2) (tells_eqb s.value 0)))
  where
    to : ((s.status ≡ 0) × (s.value < suc most)) ⊎ ((s.status ≢ 0) × ((s.status ≡ 2) × (s.value ≡ 0)))
        → ((s.status ≡ 0) × (s.value ≤ most)) ⊎ ((s.status ≡ 2) × (s.value ≡ 0))
    to (inl (a, b)) = inl (a, omega arith)
    to (inr (a, (b, c))) = inr (b, c)

    from : ((s.status ≡ 0) × (s.value ≤ most)) ⊎ ((s.status ≡ 2) × (s.value ≡ 0))
        → ((s.status ≡ 0) × (s.value < suc most)) ⊎ ((s.status ≢ 0) × ((s.status ≡ 2) × (s.value ≡ 0)))
    from (inl (a, b)) = inl (a, omega arith)
    from (inr (a, b)) = inr (λ e. omega arith, (a, b))

-- what b tells with status 0, or 0 with status 1 or 2
with_tells : {b : Bool} {P : Type 0} (s : Sample) → Tells b P
    → Tells (cond (eqb s.status 0) b (leb s.status 2 && eqb s.value 0))
    (((s.status ≡ 0) × P) ⊎ ((s.status ≡ 1) × (s.value ≡ 0)) ⊎ ((s.status ≡ 2) × (s.value ≡ 0)))
with_tells {b} {P} s t = tells_as to from (tells_cond (tells_eqb s.status 0) t (tells_and (tells_leb s.status 2) (tells_eqb s.value 0)))
  where
    Either : Type 0
    Either = ((s.status ≡ 0) × P) ⊎ ((s.status ≡ 1) × (s.value ≡ 0)) ⊎ ((s.status ≡ 2) × (s.value ≡ 0))

    one_or_two : Dec (s.status ≡ 1) → s.status ≢ 0 → s.status ≤ 2 → s.value ≡ 0 → Either
    one_or_two (yes a) n le z = inr (inl (a, z))
    one_or_two (no a) n le z = inr (inr (omega arith, z))

    to : ((s.status ≡ 0) × P) ⊎ ((s.status ≢ 0) × ((s.status ≤ 2) × (s.value ≡ 0))) → Either
    to (inl (a, p)) = inl (a, p)
    to (inr (a, (b, c))) = one_or_two (ℕ_discrete s.status 1) a b c

    from : Either → ((s.status ≡ 0) × P) ⊎ ((s.status ≢ 0) × ((s.status ≤ 2) × (s.value ≡ 0)))
    from (inl (a, p)) = inl (a, p)
    from (inr (inl (a, b))) = inr (λ e. omega arith, (omega arith, b))
    from (inr (inr (a, b))) = inr (λ e. omega arith, (omega arith, b))

-- M-104: a level up to 254
level_tells : (n : ℕ) → Tells (ltb n 255) (n ≤ 254)
level_tells n = tells_as (λ h. omega (arith, h)) (λ h. omega (arith, h)) (tells_ltb n 255)

allows_tells : (k : Kind) (s : Sample) → Tells (allows k s) (Allowed k s)
unfolding allows colour_allows light_allows movement_allows occupancy_allows
allows_tells (Light l) s = with_tells s (tells_as (λ h. omega (arith, h)) (λ h. omega (arith, h)) (tells_ltb s.value (2 ^ l.resolution - 1)))
allows_tells (Occupancy o) s = few_tells s 3
allows_tells (Movement m) s = few_tells s 1
allows_tells (Colour c) s =
    with_tells s
    (tells_as (λ h. (h.0.0, h.0.1, h.1)) (λ h. ((h.0, h.1), h.2))
    (tells_and (tells_and (level_tells (r_value s.value)) (level_tells (g_value s.value))) (level_tells (b_value s.value))))

allowed_tells : (m : Model) (i : ℕ) (s : Sample) → Declared m i → Tells (allowed m i s) (Allowed (instance_at m i).kind s)
unfolding allowed
allowed_tells m i s d = rw (lt-ltb i 16 d.1) (allows_tells (instance_at m i).kind s)

back_tells : (x : Instance) (s : Sample) → Tells (goes_back x s) (GoesBack x s)
unfolding goes_back
back_tells x s = tells_and (tells_bool x.measured) (tells_eqb s.status 1)

module _ (rest : List ℕ) (m : Model) where
  -- ---- a row that holds is given
  no_sensor : Declaring rest → NoSensor rest
      → cond (ltb (byte rest 2) 16) (sensor_asked (declared_in rest)) (Err NoSuchSensor) ≡ Err NoSuchSensor
  no_sensor k s = go (dec_lt (byte rest 2) 16)
    where
      go : Dec (byte rest 2 < 16) → cond (ltb (byte rest 2) 16) (sensor_asked (declared_in rest)) (Err NoSuchSensor) ≡ Err NoSuchSensor
      go (yes h) = rw (lt-ltb (byte rest 2) 16 h) (ap sensor_asked (none_declared rest k h s))
      go (no h) = rw (le-ltb (byte rest 2) 16 (omega arith))

  pub given : AllBytes rest → (why : Refusal) → Given why rest m → asked rest m ≡ Err why
  unfolding asked asked_by declare_asked sample_asked frame_asked ticks_asked
  given bytes UnknownMark (l, a, o, v, b, c, d) = marked rest m l ∙ rw (unknown_mark rest l (a, o, v, b, c, d))
  given bytes Cut (inl h) = rw (lt-ltb (length rest) 2 h)
  given bytes Cut (inr (inl (k, h))) = declaring_asked rest m k ∙ rw (lt-ltb (length rest) (mark_size Declaration) h)
  given bytes Cut (inr (inr (inl (k, h)))) = sa_asked rest m k ∙ rw (lt-ltb (length rest) (mark_size Measurement) h)
  given bytes Cut (inr (inr (inr (inl (k, h))))) = fr_asked rest m k ∙ rw (lt-ltb (length rest) (mark_size Bus) h)
  given bytes Cut (inr (inr (inr (inr (k, h))))) = tk_asked rest m k ∙ rw (lt-ltb (length rest) (mark_size Time) h)
  given bytes LateOrSkipped (k, h, late) = declaring_asked rest m k ∙ rw (le-ltb (length rest) (mark_size Declaration) h, holds (late_tells rest m) late)
  given bytes NoSuchSensor (k, h, n, s) =
      declaring_asked rest m k
      ∙ rw (
        le-ltb (length rest) (mark_size Declaration) h,
        fails (late_tells rest m) n,
      )
      (no_sensor k s)
  given bytes Undeclared (k, h, n) = sa_asked rest m k ∙ rw (le-ltb (length rest) (mark_size Measurement) h, fails (known_tells m (byte rest 2)) n)
  given bytes BadSample (k, h, d, n) =
      sa_asked rest m k
      ∙ rw (le-ltb (length rest) (mark_size Measurement) h, holds (known_tells m (byte rest 2)) d, fails (allowed_tells m (byte rest 2) (sample_in rest) d) n)
  given bytes NoTicks (k, h, z) = tk_asked rest m k ∙ rw (le-ltb (length rest) (mark_size Time) h, eq-eqb (word rest 2) 0 z)
  given bytes TimeOver (k, h, n, over) =
      tk_asked rest m k ∙ rw (le-ltb (length rest) (mark_size Time) h, ne_eqb (word rest 2) 0 n, lt-ltb (4294967295 - m.tick) (word rest 2) (omega arith))
  given bytes Full n = absurd n
  given bytes BeyondTable (k, h, n, timely, beyond) =
      tk_asked rest m k
      ∙ rw (
        le-ltb (length rest) (mark_size Time) h,
        ne_eqb (word rest 2) 0 n,
        le-ltb (4294967295 - m.tick) (word rest 2) (omega arith),
        lt-ltb m.last (m.tick + word rest 2) beyond,
      )
  given bytes NotReadyAgain (k, h, d, a, b) =
      sa_asked rest m k
      ∙ rw (
        le-ltb (length rest) (mark_size Measurement) h,
        holds (known_tells m (byte rest 2)) d,
        holds (allowed_tells m (byte rest 2) (sample_in rest) d) a,
        holds (back_tells (instance_at m (byte rest 2)) (sample_in rest)) b,
      )

  -- ---- what is given holds
  abbrev Says : Result Asked Refusal → Type 0
  Says (Err why) = Given why rest m
  Says (Ok (Declare sensor)) = Unit {0}
  Says (Ok (Hold i sample)) = Unit {0}
  Says (Ok (Frame first second third)) = Unit {0}
  Says (Ok (Ticks n)) = Unit {0}

  declaring_says : Declaring rest → Says (declare_asked rest m)
  unfolding declare_asked
  declaring_says k =
      go (ltb (length rest) (mark_size Declaration)) refl (m.running || not (eqb (byte rest 2) m.declared)) refl
      (ltb (byte rest 2) 16) refl (declared_in rest) refl
    where
      go : (a : Bool) → ltb (length rest) (mark_size Declaration) ≡ a → (b : Bool) → (m.running || not (eqb (byte rest 2) m.declared)) ≡ b
          → (c : Bool) → ltb (byte rest 2) 16 ≡ c → (d : Option Sensor) → declared_in rest ≡ d
          → Says (cond a (Err Cut) (cond b (Err LateOrSkipped) (cond c (sensor_asked d) (Err NoSuchSensor))))
      go true e b f c g d h = inr (inl (k, ltb-true (length rest) (mark_size Declaration) e))
      go false e true f c g d h = (k, ltb-false (length rest) (mark_size Declaration) e, (late_tells rest m).yes f)
      go false e false f true g None h = (k, ltb-false (length rest) (mark_size Declaration) e, (late_tells rest m).no f, declared_none rest k h)
      go false e false f true g (Some sensor) h = tt
      go false e false f false g d h =
          (k, ltb-false (length rest) (mark_size Declaration) e, (late_tells rest m).no f, inl (ltb-false (byte rest 2) 16 g))

  sa_says : SA rest → Says (sample_asked rest m)
  unfolding sample_asked
  sa_says k =
      go (ltb (length rest) (mark_size Measurement)) refl (known m (byte rest 2)) refl (allowed m (byte rest 2) (sample_in rest)) refl
      (goes_back (instance_at m (byte rest 2)) (sample_in rest)) refl
    where
      go : (a : Bool) → ltb (length rest) (mark_size Measurement) ≡ a → (b : Bool) → known m (byte rest 2) ≡ b → (c : Bool) → allowed m (byte rest 2) (sample_in rest) ≡ c
          → (d : Bool) → goes_back (instance_at m (byte rest 2)) (sample_in rest) ≡ d
          → Says
          (cond a (Err Cut) (cond b (cond c (cond d (Err NotReadyAgain) (Ok (Hold (byte rest 2) (sample_in rest)))) (Err BadSample)) (Err Undeclared)))
      go true e b f c g d h = inr (inr (inl (k, ltb-true (length rest) (mark_size Measurement) e)))
      go false e false f c g d h = (k, ltb-false (length rest) (mark_size Measurement) e, (known_tells m (byte rest 2)).no f)
      go false e true f false g d h =
          let there = (known_tells m (byte rest 2)).yes f in
          (k, ltb-false (length rest) (mark_size Measurement) e, there, (allowed_tells m (byte rest 2) (sample_in rest) there).no g)
      go false e true f true g true h =
          let there = (known_tells m (byte rest 2)).yes f in
          let takes = (allowed_tells m (byte rest 2) (sample_in rest) there).yes g in
          (k, ltb-false (length rest) (mark_size Measurement) e, there, takes, (back_tells (instance_at m (byte rest 2)) (sample_in rest)).yes h)
      go false e true f true g false h = tt

  fr_says : FR rest → Says (frame_asked rest)
  unfolding frame_asked
  fr_says k = go (ltb (length rest) (mark_size Bus)) refl
    where
      go : (a : Bool) → ltb (length rest) (mark_size Bus) ≡ a → Says (cond a (Err Cut) (Ok (Frame (byte rest 2) (byte rest 3) (byte rest 4))))
      go true e = inr (inr (inr (inl (k, ltb-true (length rest) (mark_size Bus) e))))
      go false e = tt

  tk_says : TK rest → Says (ticks_asked rest m)
  unfolding ticks_asked
  tk_says k =
      go (ltb (length rest) (mark_size Time)) refl (eqb (word rest 2) 0) refl (ltb (4294967295 - m.tick) (word rest 2)) refl
      (ltb m.last (m.tick + word rest 2)) refl
    where
      go : (a : Bool) → ltb (length rest) (mark_size Time) ≡ a → (b : Bool) → eqb (word rest 2) 0 ≡ b → (c : Bool) → ltb (4294967295 - m.tick) (word rest 2) ≡ c
          → (d : Bool) → ltb m.last (m.tick + word rest 2) ≡ d
          → Says (cond a (Err Cut) (cond b (Err NoTicks) (cond c (Err TimeOver) (cond d (Err BeyondTable) (Ok (Ticks (word rest 2)))))))
      go true e b f c g d h = inr (inr (inr (inr (k, ltb-true (length rest) (mark_size Time) e))))
      go false e true f c g d h = (k, ltb-false (length rest) (mark_size Time) e, eqb-true (word rest 2) 0 f)
      go false e false f true g d h =
          let over = ltb-true (4294967295 - m.tick) (word rest 2) g in
          (k, ltb-false (length rest) (mark_size Time) e, eqb-false (word rest 2) 0 f, omega arith)
      go false e false f false g true h =
          let some = eqb-false (word rest 2) 0 f in
          let timely = ltb-false (4294967295 - m.tick) (word rest 2) g in
          (k, ltb-false (length rest) (mark_size Time) e, some, omega (arith, some), ltb-true m.last (m.tick + word rest 2) h)
      go false e false f false g false h = tt

  says : AllBytes rest → Says (asked rest m)
  unfolding asked asked_by
  says bytes = go (ltb (length rest) 2) refl
    where
      by : (k : Option Mark) → 2 ≤ length rest → MarkIs k rest → Says (asked_by k rest m)
      by None l (a, o, v, b, c, d) = (l, a, o, v, b, c, d)
      by (Some Declaration) l k = declaring_says k
      by (Some Measurement) l k = sa_says k
      by (Some Bus) l k = fr_says k
      by (Some Time) l k = tk_says k

      go : (a : Bool) → ltb (length rest) 2 ≡ a → Says (cond a (Err Cut) (asked_by (mark_of (word rest 0)) rest m))
      go true e = inl (ltb-true (length rest) 2 e)
      go false e = let l = ltb-false (length rest) 2 e in by (mark_of (word rest 0)) l (mark_is rest l)

  pub holds_given : AllBytes rest → (why : Refusal) → asked rest m ≡ Err why → Given why rest m
  holds_given bytes why e = subst Says e (says bytes)

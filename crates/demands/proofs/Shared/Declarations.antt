-- What a declaration names is what it declares, and it declares nothing exactly where there is no such sensor.
-- Assumes nothing.
use Prim.Native.Nat.{ℕ, ◌<◌, ◌≤◌}
use Rattle.demands.specs.Numbers.{Declaring, Names, NoSensor}
use Rattle.judging.specs.Asked.{declared_in}
use Rattle.judging.specs.Declaring.{declared_by, im_declares, in_declares, light_has, lo_declares}
use Rattle.record.specs.Numbers.{byte}
use Rattle.sensor.specs.declared.sensors.Sensor.TheVariants.{Colour, Light, LightOf2017, Movement, Occupancy}
use Rattle.sensor.specs.declared.sensors.Sensor.{Sensor}
use Rattle.std.specs.Prelude.{None, Some}
use borrow.Author.Tests.{le-leb, lt-leb, ne_eqb}
use mathlib.Core.Bool.{false}
use mathlib.Core.List.{List}
use mathlib.Core.Logic.{inl, inr, ◌⊎◌}
use mathlib.Core.Path.{refl, sym, ◌∙◌, ◌≡◌}
use native.Mathlib.Decide.{dec_le, ℕ_discrete}
use native.Mathlib.Omega.{arith}

some≢none : {sensor : Sensor} → Some sensor ≡ None → ⊥
some≢none e = let z : ◌≡◌ {A = ℕ} 0 1 = cc in omega arith

module _ (rest : List ℕ) where
  -- what it names, it declares
  pub named : (sensor : Sensor) → Names rest sensor → declared_in rest ≡ Some sensor
  unfolding declared_by im_declares in_declares lo_declares light_has
  named Occupancy ((l, e), t, r) = rw (e, t, r)
  named (Light n) ((l, e), t, r, low, high) = rw (e, t, r, le-leb 1 n low, le-leb n 24 high)
  named (LightOf2017 n) ((l, e), t, r, low, high) = rw (e, t, r, le-leb 1 n low, le-leb n 24 high)
  named Movement ((l, e), t, r) = rw (e, t, r)
  named Colour ((l, e), t, r) = rw (e, t, r)

  pub named_by : (sensor : Sensor) → Names rest sensor → Declaring rest
  named_by Occupancy names = inl names.0
  named_by (Light n) names = inl names.0
  named_by (LightOf2017 n) names = inr (inl names.0)
  named_by Movement names = inr (inr names.0)
  named_by Colour names = inl names.0

  -- where there is no such sensor, and its number is below 16, it declares nothing
  pub none_declared : Declaring rest → byte rest 2 < 16 → NoSensor rest → declared_in rest ≡ None
  unfolding declared_by im_declares in_declares lo_declares light_has
  none_declared k h (inl a) = absurd (omega arith)
  none_declared k h (inr (inl ((l, e), a, b, c))) = rw (e, ne_eqb (byte rest 3) 3 a, ne_eqb (byte rest 3) 4 b, ne_eqb (byte rest 3) 5 c)
  none_declared k h (inr (inr (inl ((l, e), a)))) = rw (e, ne_eqb (byte rest 3) 4 a)
  none_declared k h (inr (inr (inr (inl ((l, e), a))))) = rw (e, ne_eqb (byte rest 3) 3 a)
  none_declared (inl (l, e)) h (inr (inr (inr (inr (inl (t, a)))))) = rw (e, t, ne_eqb (byte rest 4) 2 a)
  none_declared (inr (inl (l, e))) h (inr (inr (inr (inr (inl (t, a)))))) = rw (e, t)
  none_declared (inr (inr (l, e))) h (inr (inr (inr (inr (inl (t, a)))))) = rw (e, t, ne_eqb (byte rest 4) 2 a)
  none_declared (inl (l, e)) h (inr (inr (inr (inr (inr (inr (t, a))))))) = rw (e, t, ne_eqb (byte rest 4) 24 a)
  none_declared (inr (inl (l, e))) h (inr (inr (inr (inr (inr (inr (t, a))))))) = rw (e, t)
  none_declared (inr (inr (l, e))) h (inr (inr (inr (inr (inr (inr (t, a))))))) = rw (e, t)
  none_declared k h (inr (inr (inr (inr (inr (inl (t, a))))))) = go k (no_bits a)
    where
      no_bits : (byte rest 4 < 1) ⊎ (24 < byte rest 4) → light_has (byte rest 4) ≡ false
      no_bits (inl low) = rw (lt-leb 1 (byte rest 4) low)
      no_bits (inr high) = rw (le-leb 1 (byte rest 4) (omega arith), lt-leb (byte rest 4) 24 high)

      go : Declaring rest → light_has (byte rest 4) ≡ false → declared_in rest ≡ None
      go (inl (l, e)) none = rw (e, t, none)
      go (inr (inl (l, e))) none = rw (e, t, none)
      go (inr (inr (l, e))) none = rw (e, t)

  -- and one of the two holds
  abbrev pub Either : Type 0
  Either = ((sensor : Sensor) × Names rest sensor) ⊎ NoSensor rest

  pub either : Declaring rest → Either
  either k =
      go k (ℕ_discrete (byte rest 3) 3) (ℕ_discrete (byte rest 3) 4) (ℕ_discrete (byte rest 3) 5) (ℕ_discrete (byte rest 4) 2) (dec_le 1 (byte rest 4)) (dec_le (byte rest 4) 24)
      (ℕ_discrete (byte rest 4) 24)
    where
      no_bits : byte rest 3 ≡ 4 → (byte rest 4 < 1) ⊎ (24 < byte rest 4) → NoSensor rest
      no_bits b d = inr (inr (inr (inr (inr (inl (b, d))))))

      go : Declaring rest → Dec (byte rest 3 ≡ 3) → Dec (byte rest 3 ≡ 4) → Dec (byte rest 3 ≡ 5) → Dec (byte rest 4 ≡ 2) → Dec (1 ≤ byte rest 4)
          → Dec (byte rest 4 ≤ 24) → Dec (byte rest 4 ≡ 24) → Either
      go (inl k) (no a) (no b) (no f) c d e g = inr (inr (inl (k, a, b, f)))
      go (inl k) (no a) (no b) (yes f) c d e (yes g) = inl (Colour, (k, f, g))
      go (inl k) (no a) (no b) (yes f) c d e (no g) = inr (inr (inr (inr (inr (inr (inr (f, g)))))))
      go (inr (inl k)) a (no b) f c d e g = inr (inr (inr (inl (k, b))))
      go (inr (inr k)) (no a) b f c d e g = inr (inr (inr (inr (inl (k, a)))))
      go (inl k) (yes a) b f (no c) d e g = inr (inr (inr (inr (inr (inl (a, c))))))
      go (inr (inr k)) (yes a) b f (no c) d e g = inr (inr (inr (inr (inr (inl (a, c))))))
      go (inl k) (yes a) b f (yes c) d e g = inl (Occupancy, (k, a, c))
      go (inr (inr k)) (yes a) b f (yes c) d e g = inl (Movement, (k, a, c))
      go (inl k) (no a) (yes b) f c (yes d) (yes e) g = inl (Light (byte rest 4), (k, b, refl, d, e))
      go (inr (inl k)) a (yes b) f c (yes d) (yes e) g = inl (LightOf2017 (byte rest 4), (k, b, refl, d, e))
      go (inl k) (no a) (yes b) f c (no d) e g = inr (no_bits b (inl (omega arith)))
      go (inl k) (no a) (yes b) f c (yes d) (no e) g = inr (no_bits b (inr (omega arith)))
      go (inr (inl k)) a (yes b) f c (no d) e g = inr (no_bits b (inl (omega arith)))
      go (inr (inl k)) a (yes b) f c (yes d) (no e) g = inr (no_bits b (inr (omega arith)))

  -- so where it declares nothing, there is none
  pub declared_none : Declaring rest → declared_in rest ≡ None → NoSensor rest
  declared_none k e = go (either k)
    where
      go : Either → NoSensor rest
      go (inl (sensor, names)) = absurd (some≢none (sym (named sensor names) ∙ e))
      go (inr none) = none

-- A session that begins with LO, of a resolution that fills whole bytes, comes to what it comes to with IN in its place.
-- Assumes nothing.
use Prim.Native.Nat.{ℕ, ◌-◌, ◌<◌}
use Rattle.demands.proofs.Shared.ByRecords.{session_refused, session_taken}
use Rattle.demands.proofs.Shared.Marks.{declaring_asked}
use Rattle.demands.proofs.Texts.AlikeDevices.{alike_declared}
use Rattle.demands.proofs.Texts.AlikeSessions.{same_behind, session_alike}
use Rattle.demands.specs.Stands.{behind}
use Rattle.demands.specs.Texts.{Alike, AllInRange, Same, declaration}
use Rattle.device.specs.Device.{declared_model}
use Rattle.device.specs.declared.model.Model.{Model}
use Rattle.judging.specs.Asked.{asked, declare_asked, sensor_asked, size_of}
use Rattle.judging.specs.Declaring.{declared_by, in_declares, light_has, lo_declares}
use Rattle.judging.specs.Refusals.{number_of}
use Rattle.judging.specs.declared.asked.Asked.TheVariants.{Declare}
use Rattle.judging.specs.declared.asked.Asked.{Asked}
use Rattle.judging.specs.declared.asked.Refusal.TheVariants.{Cut, LateOrSkipped, NoSuchSensor}
use Rattle.judging.specs.declared.asked.Refusal.{Refusal}
use Rattle.record.specs.Log.{bytes_of}
use Rattle.record.specs.Marks.{IN, LO, mark_size}
use Rattle.record.specs.declared.marks.Mark.TheVariants.{Declaration}
use Rattle.sensor.proofs.Texts.{declared_as}
use Rattle.sensor.specs.Fresh.{declared}
use Rattle.sensor.specs.Text.{as_in, whole_bytes}
use Rattle.sensor.specs.declared.sensors.Sensor.TheVariants.{Light, LightOf2017, Occupancy}
use Rattle.sensor.specs.declared.sensors.Sensor.{Sensor}
use Rattle.session.specs.Session.{session, step}
use Rattle.std.specs.Prelude.{Err, Ok, Result, None, Some}
use borrow.Author.Tests.{eqb-true, ne_eqb}
use lib.Dec.{eqb, ltb}
use lib.ListN.{drop, length}
use mathlib.Core.Bool.{Bool, cond, false, false≢true, not, true, ◌&&◌, ◌||◌}
use mathlib.Core.List.{List, [], ◌++◌}
use mathlib.Core.Logic.{inl, inr, ◌≢◌}
use mathlib.Core.Path.{ap, refl, subst₂, sym, ◌∙◌, ◌≡◌}
use native.Mathlib.Omega.{arith}

-- both are refused by one number, or both declare what differs in the text alone
data Both : Result Asked Refusal → Result Asked Refusal → Type 0 where
  refuse : (why : Refusal) → Both (Err why) (Err why)
  declare : (s s' : Sensor) → as_in (declared s) ≡ as_in (declared s') → Both (Ok (Declare s)) (Ok (Declare s'))

-- the rest of a session whose first record declares, and one whose first record is refused
read_declared : (m : Model) (xs : List ℕ) (room : ℕ) (s : Sensor) → 0 < length xs → asked xs m ≡ Ok (Declare s)
    → session m xs room ≡ behind (mark_size Declaration) [] (session (declared_model m s) (drop (mark_size Declaration) xs) (room - length (bytes_of [])))
unfolding step size_of
read_declared m xs room s h e = session_taken m xs room h (ap (λ a. step a room m []) e) ∙ rw e

read_refused : (m : Model) (xs : List ℕ) (room : ℕ) (why : Refusal) → 0 < length xs → asked xs m ≡ Err why
    → session m xs room ≡ record { model = m; number = number_of why; offset = 0; ticks = 0; log = [] }
unfolding step
read_refused m xs room why h e = session_refused m xs room h (ap (λ a. step a room m []) e)

module _ (r : ℕ) (whole : whole_bytes r ≡ true) where
  not_two : eqb r 2 ≡ false
  not_two = go (eqb r 8) refl (eqb r 16) refl (eqb r 24) refl whole
    where
      go : (a : Bool) → eqb r 8 ≡ a → (b : Bool) → eqb r 16 ≡ b → (c : Bool) → eqb r 24 ≡ c → a || (b || c) ≡ true → eqb r 2 ≡ false
      go true e b f c g i = ne_eqb r 2 (λ z. omega (arith, eqb-true r 8 e))
      go false e true f c g i = ne_eqb r 2 (λ z. omega (arith, eqb-true r 16 f))
      go false e false f true g i = ne_eqb r 2 (λ z. omega (arith, eqb-true r 24 g))
      go false e false f false g i = absurd (false≢true i)

  -- but for type 5, which IN declares with resolution 24 and LO does not (M-104)
  both_declare : (type : ℕ) → type ≢ 5 → Both (sensor_asked (declared_by LO type r)) (sensor_asked (declared_by IN type r))
  unfolding declared_by in_declares lo_declares
  both_declare type other = rw (not_two, ne_eqb type 5 other) (go (eqb type 3) (eqb type 4 && light_has r))
    where
      go : (a b : Bool)
          → Both (sensor_asked (cond b (Some (LightOf2017 r)) None)) (sensor_asked (cond (a && false) (Some Occupancy) (cond b (Some (Light r)) None)))
      go true true = declare (LightOf2017 r) (Light r) (declared_as r whole)
      go true false = refuse NoSuchSensor
      go false true = declare (LightOf2017 r) (Light r) (declared_as r whole)
      go false false = refuse NoSuchSensor

  module _ (m : Model) (i type : ℕ) (other : type ≢ 5) (zs : List ℕ) where
    abbrev lo : List ℕ
    lo = declaration LO i type r ++ zs

    abbrev in' : List ℕ
    in' = declaration IN i type r ++ zs

    both_asked : Both (asked lo m) (asked in' m)
    unfolding declare_asked
    both_asked =
        rw (declaring_asked lo m (inr (inl (omega arith, refl))), declaring_asked in' m (inl (omega arith, refl)))
        (go (ltb (length lo) (mark_size Declaration)) (m.running || not (eqb i m.declared)) (ltb i 16))
      where
        go : (a b c : Bool)
            → Both
            (cond a (Err Cut) (cond b (Err LateOrSkipped) (cond c (sensor_asked (declared_by LO type r)) (Err NoSuchSensor))))
            (cond a (Err Cut) (cond b (Err LateOrSkipped) (cond c (sensor_asked (declared_by IN type r)) (Err NoSuchSensor))))
        go true b c = refuse Cut
        go false true c = refuse LateOrSkipped
        go false false true = both_declare type other
        go false false false = refuse NoSuchSensor

    pub first_same : AllInRange m.instances → (room : ℕ) → Same (session m lo room) (session m in' room)
    first_same range room = go both_asked refl refl
      where
        alike : Alike m m
        alike = record { same = refl; range = range; range' = range }

        go : {a b : Result Asked Refusal} → Both a b → asked lo m ≡ a → asked in' m ≡ b → Same (session m lo room) (session m in' room)
        go (refuse why) e f =
            subst₂ Same (sym (read_refused m lo room why (omega arith) e)) (sym (read_refused m in' room why (omega arith) f))
            (record { number = refl; offset = refl; ticks = refl; log = refl; models = alike })
        go (declare s s' same) e f =
            subst₂ Same (sym (read_declared m lo room s (omega arith) e)) (sym (read_declared m in' room s' (omega arith) f))
            (same_behind 5 [] (session_alike zs _ (alike_declared alike s s' same)))

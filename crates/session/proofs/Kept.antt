-- What a record comes to: one that is refused changes nothing, but that of one refused by 9 the ticks carried out stand; one that is taken
-- takes a byte at least.
-- Assumes nothing.
use Prim.Native.Nat.{ℕ, zero, suc, ◌+◌, ◌<◌}
use Rattle.device.specs.Frame.{frame_log}
use Rattle.device.specs.declared.model.Model.{Model}
use Rattle.judging.proofs.Asking.{ticks_of}
use Rattle.judging.specs.Asked.{size_of}
use Rattle.judging.specs.declared.asked.Asked.TheVariants.{Declare, Frame, Hold, Ticks}
use Rattle.judging.specs.declared.asked.Asked.{Asked}
use Rattle.judging.specs.declared.asked.Refusal.TheVariants.{Full}
use Rattle.judging.specs.declared.asked.Refusal.{Refusal}
use Rattle.record.specs.Log.{Logged}
use Rattle.session.specs.Session.{Step, fits, refused, step, taken, ticking}
use Rattle.std.specs.Prelude.{Err, Ok, Result}
use Rattle.ticks.specs.Tick.{tick_log, tick_model}
use mathlib.Core.Bool.{Bool, false, true}
use mathlib.Core.List.{List, ◌++◌}
use mathlib.Core.Logic.{inl, inr, ◌⊎◌}
use mathlib.Core.Path.{ap, refl, subst, sym, ◌≡◌}
use native.Mathlib.Omega.{arith}

-- ticks of a TK: those carried out before the refusal are a TK of fewer
pub record Partly (n already room : ℕ) (m : Model) (log : List Logged) (t : ℕ) (m' : Model) (log' : List Logged) : Type 0 where
  pub ticks : ℕ
  pub fewer : ticks < n
  pub total : t ≡ already + ticks
  pub stand : ticking ticks already room m log ≡ taken m' log'
  pub full : fits room log' (tick_log m') ≡ false

-- what is asked for and what it comes to: taken; or refused, and nothing changed; or refused by 9 after some ticks
pub data Kept (a : Result Asked Refusal) (room : ℕ) (m : Model) (log : List Logged) : Step → Type 0 where
  took : {m' : Model} {log' : List Logged} → 0 < size_of a → Kept a room m log (taken m' log')
  kept : {why : Refusal} → Kept a room m log (refused why 0 m log)
  part : {t : ℕ} {m' : Model} {log' : List Logged} → suc t < ticks_of a
      → ticking (suc t) 0 room m log ≡ taken m' log' → Kept a room m log (refused Full (suc t) m' log')

pub taken≢refused : {why : Refusal} {t : ℕ} {m m' : Model} {log log' : List Logged} → taken m log ≡ refused why t m' log' → ⊥
taken≢refused e = let z : ◌≡◌ {A = ℕ} 0 1 = cc in omega arith

-- a TK is refused by 9 alone
pub partly : (n already room : ℕ) (m : Model) (log : List Logged) (why : Refusal) (t : ℕ) (m' : Model) (log' : List Logged)
    → ticking n already room m log ≡ refused why t m' log' → Partly n already room m log t m' log' × (why ≡ Full)
unfolding ticking
partly zero already room m log why t m' log' e = absurd (taken≢refused e)
partly (suc n) already room m log why t m' log' e =
    go (fits room log (tick_log m)) refl (λ w. partly n (already + 1) room (tick_model m) (log ++ tick_log m) why t m' log' w) e
  where
    go : (b : Bool) → fits room log (tick_log m) ≡ b
        → (ticking n (already + 1) room (tick_model m) (log ++ tick_log m) ≡ refused why t m' log'
        → Partly n (already + 1) room (tick_model m) (log ++ tick_log m) t m' log' × (why ≡ Full))
        → elim b [ true ↦ ticking n (already + 1) room (tick_model m) (log ++ tick_log m) | false ↦ refused Full already m log ] ≡ refused why t m' log'
        → Partly (suc n) already room m log t m' log' × (why ≡ Full)
    go true f ih w =
        let (p, q) = ih w in (
          record {
            ticks = suc p.ticks;
            fewer = omega (arith, p.fewer);
            total = omega (arith, p.total);
            stand = rw (f, ticking) p.stand;
            full = p.full;
          },
          q,
        )
    go false f ih w =
        let here : m ≡ m' = cc in
        let same : log ≡ log' = cc in
        let none : already ≡ t = cc in
        (record { ticks = 0; fewer = omega arith; total = omega arith; stand = rw (here, same); full = rw (← here, ← same) f }, cc)

keeps_if : {a : Result Asked Refusal} {room : ℕ} {m : Model} {log : List Logged} (b : Bool) (x y : Step) → Kept a room m log x → Kept a room m log y
    → Kept a room m log (elim b [ true ↦ x | false ↦ y ])
keeps_if true x y p q = p
keeps_if false x y p q = q

-- A REFUSED RECORD CHANGES NOTHING; of one refused by 9 the ticks carried out stand
keeps : (a : Result Asked Refusal) (room : ℕ) (m : Model) (log : List Logged) → Kept a room m log (step a room m log)
unfolding step size_of ticking
keeps (Err why) room m log = kept
keeps (Ok (Declare sensor)) room m log = took (omega arith)
keeps (Ok (Hold i sample)) room m log = took (omega arith)
keeps (Ok (Frame first second third)) room m log = keeps_if (fits room log (frame_log m first second third)) _ _ (took (omega arith)) kept
keeps (Ok (Ticks n)) room m log = go (ticking n 0 room m log) refl
  where
    part_of : (why : Refusal) (t : ℕ) (m' : Model) (log' : List Logged) → Partly n 0 room m log t m' log' × (why ≡ Full)
        → Kept (Ok (Ticks n)) room m log (refused why t m' log')
    part_of why zero m' log' (p, q) =
        let none : p.ticks ≡ 0 = omega (arith, p.total) in
        let w : taken m log ≡ taken m' log' = subst (λ j. ticking j 0 room m log ≡ taken m' log') none p.stand in
        let here : m ≡ m' = cc in
        let same : log ≡ log' = cc in
        rw (← here, ← same) kept
    part_of why (suc t) m' log' (p, q) =
        let all : p.ticks ≡ suc t = omega (arith, p.total) in
        let fewer : suc t < n = omega (arith, p.fewer) in
        rw q (part fewer (subst (λ j. ticking j 0 room m log ≡ taken m' log') all p.stand))

    go : (o : Step) → ticking n 0 room m log ≡ o → Kept (Ok (Ticks n)) room m log o
    go (taken m' log') e = took (omega arith)
    go (refused why t m' log') e = part_of why t m' log' (partly n 0 room m log why t m' log' e)

-- what a refused record leaves: the same where no tick of it was carried out, else what those ticks leave
pub same_left : {a : Result Asked Refusal} {room : ℕ} {m m' : Model} {log log' : List Logged} {why : Refusal}
    → Kept a room m log (refused why 0 m' log') → (m' ≡ m) × (log' ≡ log)
same_left kept = (refl, refl)

pub part_left : {a : Result Asked Refusal} {room t : ℕ} {m m' : Model} {log log' : List Logged} {why : Refusal} → Kept a room m log (refused why (suc t) m' log')
    → (suc t < ticks_of a) × (ticking (suc t) 0 room m log ≡ taken m' log') × (why ≡ Full)
part_left (part fewer e) = (fewer, e, refl)

pub refused_kept : (a : Result Asked Refusal) (room : ℕ) (m : Model) (log : List Logged) {why : Refusal} {t : ℕ} {m' : Model} {log' : List Logged}
    → step a room m log ≡ refused why t m' log' → Kept a room m log (refused why t m' log')
refused_kept a room m log e = subst (Kept a room m log) e (keeps a room m log)

took_size : {a : Result Asked Refusal} {room : ℕ} {m m' : Model} {log log' : List Logged} → Kept a room m log (taken m' log') → 0 < size_of a
took_size (took h) = h

-- a record that is taken takes a byte at least
pub taken_size : (a : Result Asked Refusal) (room : ℕ) (m : Model) (log : List Logged) {m' : Model} {log' : List Logged} → step a room m log ≡ taken m' log' → 0 < size_of a
taken_size a room m log e = took_size (subst (Kept a room m log) e (keeps a room m log))

-- a record is refused by the number that it asks for, or by 9
pub refused_by : (a : Result Asked Refusal) (room : ℕ) (m : Model) (log : List Logged) (why : Refusal) (t : ℕ) (m' : Model) (log' : List Logged)
    → step a room m log ≡ refused why t m' log' → ((a ≡ Err why) × (m' ≡ m)) ⊎ (why ≡ Full)
unfolding step
refused_by (Err w) room m log why t m' log' e = let same : w ≡ why = cc in let here : m ≡ m' = cc in inl (ap Err same, sym here)
refused_by (Ok (Declare sensor)) room m log why t m' log' e = absurd (taken≢refused e)
refused_by (Ok (Hold i sample)) room m log why t m' log' e = absurd (taken≢refused e)
refused_by (Ok (Frame first second third)) room m log why t m' log' e = go (fits room log (frame_log m first second third)) refl
  where
    go : (b : Bool) → fits room log (frame_log m first second third) ≡ b → ((Ok (Frame first second third) ≡ Err why) × (m' ≡ m)) ⊎ (why ≡ Full)
    go true f = absurd (taken≢refused (rw (f, step) at e))
    go false f = let w : refused Full 0 m log ≡ refused why t m' log' = rw (f, step) at e in let only : Full ≡ why = cc in inr (sym only)
refused_by (Ok (Ticks n)) room m log why t m' log' e = inr (partly n 0 room m log why t m' log' e).1

-- Document 01, "Frames": the tables are right both ways. Each opcode of a table means what its row says, and any other number is ignored. Proved
-- once, of any table in which no opcode stands twice.
-- Assumes nothing.
use Prim.Native.Nat.{ℕ}
use Rattle.opcode.specs.Meaning.{Case, colour_cases, colour_meaning, counts_up, is_setting, light_cases, light_meaning, meant, meant_in, movement_cases, movement_meaning, occupancy_cases, occupancy_meaning}
use Rattle.opcode.specs.declared.Meaning.TheVariants.{Act, Ask, Ignored, Set}
use Rattle.opcode.specs.declared.Meaning.{Meaning}
use Rattle.sensor.proofs.Table.{both, each, every}
use Rattle.sensor.specs.Kind.{sensor_type}
use Rattle.sensor.specs.declared.kind.Kind.TheVariants.{Colour, Light, Movement, Occupancy}
use Rattle.sensor.specs.declared.kind.Kind.{Kind}
use borrow.Author.Tests.{eq-eqb, eqb-true}
use lib.Dec.{T, eqb}
use mathlib.Core.Bool.{Bool, cond, false, false≢true, not, true, ◌&&◌, ◌||◌}
use mathlib.Core.List.Memᴰ
use mathlib.Core.List.{List, Memᴰ, [], ◌∷◌}
use mathlib.Core.Logic.{◌⊎◌, inl, inr}
use mathlib.Core.Path.{◌≡◌, ap, refl, subst, sym, ◌∙◌}

-- ---- any table
-- no opcode stands in it twice
abbrev another : (n : ℕ) → Case → Bool
another n c = not (eqb c.opcode n)

abbrev pub distinct : List Case → Bool
distinct [] = true
distinct (c ∷ cs) = every (another c.opcode) cs && distinct cs

is_not : (b : Bool) → T (not b) → b ≡ false
is_not true t = absurd t
is_not false t = refl

-- each of its opcodes means what its row says
pub right : (cs : List Case) → T (distinct cs) → (c : Case) → Memᴰ c cs → meant_in cs c.opcode ≡ c.means
unfolding meant_in
right [] t c m = absurd (Memᴰ.not-nil m)
right (d ∷ cs) t c (Memᴰ.head e) = rw (eq-eqb c.opcode d.opcode (ap (λ x. x.opcode) e)) (sym (ap (λ x. x.means) e))
right (d ∷ cs) t c (Memᴰ.tail m) =
    let p = both (every (another d.opcode) cs) (distinct cs) t in
    rw (is_not (eqb c.opcode d.opcode) (each (another d.opcode) cs p.0 c m)) (right cs p.1 c m)

-- any other number is ignored: one that is not has a row
abbrev row : (n : ℕ) → Meaning → Case
row n m = record { opcode = n; means = m }

abbrev Else : List Case → (n : ℕ) → Meaning → Type 0
Else cs n m = (m ≡ Ignored) ⊎ Memᴰ (row n m) cs

further : (c : Case) (cs : List Case) (n : ℕ) (m : Meaning) → Else cs n m → Else (c ∷ cs) n m
further c cs n m (inl e) = inl e
further c cs n m (inr h) = inr (Memᴰ.tail h)

chosen : (c : Case) (cs : List Case) (n : ℕ) (m : Meaning) (b : Bool) → eqb n c.opcode ≡ b → Else cs n m → Else (c ∷ cs) n (cond b c.means m)
chosen c cs n m true e h = inr (Memᴰ.head (ap (λ k. row k c.means) (eqb-true n c.opcode e)))
chosen c cs n m false e h = further c cs n m h

pub else : (cs : List Case) (n : ℕ) → (meant_in cs n ≡ Ignored) ⊎ Memᴰ (row n (meant_in cs n)) cs
unfolding meant_in
else [] n = inl refl
else (c ∷ cs) n = chosen c cs n (meant_in cs n) (eqb n c.opcode) refl (else cs n)

-- ---- light
pub light_right : (c : Case) → Memᴰ c light_cases → light_meaning c.opcode ≡ c.means
unfolding light_meaning
light_right c m = right light_cases tt c m

pub light_else : (n : ℕ) → (light_meaning n ≡ Ignored) ⊎ Memᴰ (row n (light_meaning n)) light_cases
unfolding light_meaning
light_else n = else light_cases n

-- ---- occupancy
pub occupancy_right : (c : Case) → Memᴰ c occupancy_cases → occupancy_meaning c.opcode ≡ c.means
unfolding occupancy_meaning
occupancy_right c m = right occupancy_cases tt c m

pub occupancy_else : (n : ℕ) → (occupancy_meaning n ≡ Ignored) ⊎ Memᴰ (row n (occupancy_meaning n)) occupancy_cases
unfolding occupancy_meaning
occupancy_else n = else occupancy_cases n

-- ---- movement (M-100)
pub movement_right : (c : Case) → Memᴰ c movement_cases → movement_meaning c.opcode ≡ c.means
unfolding movement_meaning
movement_right c m = right movement_cases tt c m

pub movement_else : (n : ℕ) → (movement_meaning n ≡ Ignored) ⊎ Memᴰ (row n (movement_meaning n)) movement_cases
unfolding movement_meaning
movement_else n = else movement_cases n

-- ---- colour (M-104)
pub colour_right : (c : Case) → Memᴰ c colour_cases → colour_meaning c.opcode ≡ c.means
unfolding colour_meaning
colour_right c m = right colour_cases tt c m

pub colour_else : (n : ℕ) → (colour_meaning n ≡ Ignored) ⊎ Memᴰ (row n (colour_meaning n)) colour_cases
unfolding colour_meaning
colour_else n = else colour_cases n

-- ---- setting commands are the set opcodes 30 to 33 (light) and 22, 23 (occupancy), with 21 (movement) and 40 to 43 (colour), and 61, 62, 63, 68
abbrev pub setting_opcodes : List Case → List ℕ
setting_opcodes [] = []
setting_opcodes (c ∷ cs) = cond (is_setting c.means) (c.opcode ∷ setting_opcodes cs) (setting_opcodes cs)

pub light_settings_lem : setting_opcodes light_cases ≡ 0x30 ∷ 0x31 ∷ 0x32 ∷ 0x33 ∷ 0x61 ∷ 0x62 ∷ 0x63 ∷ 0x68 ∷ []
unfolding is_setting
light_settings_lem = refl

pub occupancy_settings_lem : setting_opcodes occupancy_cases ≡ 0x22 ∷ 0x23 ∷ 0x61 ∷ 0x62 ∷ 0x63 ∷ 0x68 ∷ []
unfolding is_setting
occupancy_settings_lem = refl

pub movement_settings_lem : setting_opcodes movement_cases ≡ 0x21 ∷ 0x22 ∷ 0x23 ∷ 0x61 ∷ 0x62 ∷ 0x63 ∷ 0x68 ∷ []
unfolding is_setting
movement_settings_lem = refl

pub colour_settings_lem : setting_opcodes colour_cases ≡ 0x40 ∷ 0x41 ∷ 0x42 ∷ 0x43 ∷ 0x61 ∷ 0x62 ∷ 0x63 ∷ 0x68 ∷ []
unfolding is_setting
colour_settings_lem = refl

-- ---- M-104: what counts DTR0 up is 4B of a colour sensor, and nothing else
-- no row but that of 4B does
abbrev up_by4_b : Case → Bool
up_by4_b c = not (counts_up c.means) || eqb c.opcode 0x4B

counts_none : (cs : List Case) → T (every up_by4_b cs) → (n : ℕ) → eqb n 0x4B ≡ false → counts_up (meant_in cs n) ≡ false
unfolding counts_up
counts_none cs t n other = go (else cs n)
  where
    by : (counts : Bool) → T (not counts || eqb n 0x4B) → counts ≡ false
    by true u = absurd (subst T other u)
    by false u = refl

    go : (meant_in cs n ≡ Ignored) ⊎ Memᴰ (row n (meant_in cs n)) cs → counts_up (meant_in cs n) ≡ false
    go (inl e) = ap counts_up e
    go (inr m) = by (counts_up (meant_in cs n)) (each up_by4_b cs t (row n (meant_in cs n)) m)

counts_else : (cs : List Case) → T (every up_by4_b cs) → counts_up (meant_in cs 0x4B) ≡ false → (n : ℕ) → counts_up (meant_in cs n) ≡ false
counts_else cs t none n = by (eqb n 0x4B) refl
  where
    by : (b : Bool) → eqb n 0x4B ≡ b → counts_up (meant_in cs n) ≡ false
    by true e = ap (λ k. counts_up (meant_in cs k)) (eqb-true n 0x4B e) ∙ none
    by false e = counts_none cs t n e

pub counts_up_lem : (k : Kind) (n : ℕ) → counts_up (meant k n) ≡ (eqb (sensor_type k) 5 && eqb n 0x4B)
unfolding counts_up meant sensor_type light_meaning occupancy_meaning movement_meaning colour_meaning meant_in
counts_up_lem (Light l) n = counts_else light_cases tt refl n
counts_up_lem (Occupancy o) n = counts_else occupancy_cases tt refl n
counts_up_lem (Movement m) n = counts_else movement_cases tt refl n
counts_up_lem (Colour c) n = by (eqb n 0x4B) refl
  where
    by : (b : Bool) → eqb n 0x4B ≡ b → counts_up (colour_meaning n) ≡ b
    by true e = ap (λ k. counts_up (colour_meaning k)) (eqb-true n 0x4B e)
    by false e = counts_none colour_cases tt n e

-- and sets nothing
pub up_sets_nothing : (m : Meaning) → counts_up m ≡ true → is_setting m ≡ false
unfolding counts_up is_setting
up_sets_nothing (Set command) e = absurd (false≢true e)
up_sets_nothing (Act control) e = refl
up_sets_nothing (Ask query) e = refl
up_sets_nothing Ignored e = refl

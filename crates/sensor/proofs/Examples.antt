-- Worked examples by computation: IEC 62386-303, Table 11; and M-100, of the movement-based sensor.
-- Assumes nothing.
use Prim.Native.Nat.{ℕ, ◌+◌}
use Rattle.sensor.proofs.Table.{each}
use Rattle.sensor.specs.Movement.{area, stilled}
use Rattle.sensor.specs.Occupancy.{change, occupancy_input, triggers}
use Rattle.widen.specs.Width.{widened}
use lib.Dec.{T, eqb, eqb→eq}
use mathlib.Core.Bool.{Bool, false, true, ◌&&◌}
use mathlib.Core.List.{List, Memᴰ, [], map, ◌∷◌}
use mathlib.Core.Path.{◌≡◌, refl}

-- ---- Table 11, by the measured values of its states
record Transition : Type 0 where
  old : ℕ
  new : ℕ
  fires : ℕ

abbrev transition : (old new fires : ℕ) → Transition
transition old new fires = record { old = old; new = new; fires = fires }

abbrev occupied : ℕ
occupied = 1

abbrev vacant : ℕ
vacant = 2

abbrev movement : ℕ
movement = 8

abbrev no_movement : ℕ
no_movement = 16

unfoldable table11 : List Transition
table11 =
    transition 0 1 movement
    ∷ transition 0 2 occupied
    ∷ transition 0 3 (occupied + movement)
    ∷ transition 1 0 no_movement
    ∷ transition 1 3 occupied
    ∷ transition 1 2 (occupied + no_movement)
    ∷ transition 2 3 movement
    ∷ transition 2 0 vacant
    ∷ transition 2 1 (vacant + movement)
    ∷ transition 3 2 no_movement
    ∷ transition 3 1 vacant
    ∷ transition 3 0 (vacant + no_movement)
    ∷ []

table_11 : (t : Transition) → Memᴰ t table11 → triggers t.old t.new ≡ t.fires
unfolding table11 triggers change
table_11 t m = eqb→eq (triggers t.old t.new) t.fires (each (λ (u : Transition). eqb (triggers u.old u.new) u.fires) table11 tt t m)

-- and its states as queries show them
states : map (λ (v : ℕ). occupancy_input (record { value = v; waiting = 0 })) (0 ∷ 1 ∷ 2 ∷ 3 ∷ []) ≡ (0x00 ∷ 0x55 ∷ 0xAA ∷ 0xFF ∷ [])
unfolding occupancy_input widened
states = refl

-- ---- M-100: from a state, with movement or without, the hold time over or not, to a state, with the triggers of Table 11
record Moved : Type 0 where
  from : ℕ
  moves : Bool
  over : Bool
  to : ℕ
  fires : ℕ

abbrev moved : (from : ℕ) → (moves over : Bool) → (to fires : ℕ) → Moved
moved from moves over to fires = record { from = from; moves = moves; over = over; to = to; fires = fires }

unfoldable m100 : List Moved
m100 =
    moved 0 true true 3 (occupied + movement)
    ∷ moved 0 false true 0 0
    ∷ moved 3 true true 3 0
    ∷ moved 3 false true 2 no_movement
    ∷ moved 2 true false 3 movement
    ∷ moved 2 true true 3 movement
    ∷ moved 2 false false 2 0
    ∷ moved 2 false true 0 vacant
    ∷ []

goes : Moved → Bool
goes t = eqb (area t.from t.moves t.over) t.to && eqb (triggers t.from t.to) t.fires

m_100 : (t : Moved) → Memᴰ t m100 → T (goes t)
unfolding m100 goes area stilled triggers change
m_100 = each goes m100 tt

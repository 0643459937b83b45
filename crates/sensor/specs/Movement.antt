-- M-100, after IEC 62386-303, 9.3.2, 9.4.6, 9.5.1 and 9.5.4: the movement-based occupancy sensor (type 3). Movement and the hold timer come to
-- the value that a presence-based sensor would measure, and what is made of that value is the presence-based sensor's.
-- Assumes nothing.
use Rattle.std.specs.Prelude.{ℕ, ◌%◌, ◌*◌, ◌-◌, ◌/◌, min, eqb, ltb, Bool, cond, false, ◌&&◌}
use Rattle.sensor.specs.Occupancy.{occupancy_allowing, occupancy_cause, occupancy_information, occupancy_input, occupancy_sent, occupancy_settings, occupancy_start, occupancy_taken}
use Rattle.sensor.specs.Settings.{with_filter, with_hold}
use Rattle.sensor.specs.declared.movement.Movement.{Movement}
use Rattle.sensor.specs.declared.occupancy.Occupancy.{Occupancy}
use Rattle.sensor.specs.declared.settings.Sample.{Sample}
use Rattle.sensor.specs.declared.settings.Settings.{Settings}
use Rattle.std.specs.Int.Bits.{bit_or}

-- ---- defaults and units: those of type 3, and for hold 90 of 200 ticks; multiplier 0 means 20 ticks
abbrev pub movement_settings : Settings
movement_settings = with_hold 90 occupancy_settings

unfoldable pub hold_time : Settings → ℕ
hold_time s = cond (eqb s.hold 0) 20 (s.hold * 200)

abbrev pub movement_start : Movement
movement_start = record { seen = occupancy_start; hold = 0; catching = false }

-- the sensor with one part changed: only these and the one above list every part
abbrev pub with_seen : Occupancy → Movement → Movement
with_seen seen m = record { seen = seen; hold = m.hold; catching = m.catching }

abbrev pub with_hold_left : ℕ → Movement → Movement
with_hold_left left m = record { seen = m.seen; hold = left; catching = m.catching }

abbrev pub with_catching : Bool → Movement → Movement
with_catching catching m = record { seen = m.seen; hold = m.hold; catching = catching }

-- ---- samples: bit 0 alone with status 0; status 2 with value 0
unfoldable pub movement_allows : Sample → Bool
movement_allows sample = cond (eqb sample.status 0) (ltb sample.value 2) (eqb sample.status 2 && eqb sample.value 0)

-- ---- the value: 0 is 0x00 vacant, 3 is 0xFF occupied and moving, 2 is 0xAA occupied and still; 1 would be 0x55
-- no movement goes from 0xFF to 0xAA, and from there to 0x00 once the hold time is over; from 0x55 to 0x00, as for presence
unfoldable pub stilled : (old : ℕ) → (over : Bool) → ℕ
stilled old over = cond (eqb old 0) 0 (cond (eqb old 1) 0 (cond (eqb old 2) (cond over 0 2) 2))

-- movement goes to 0xFF, at the tick of expiry too
unfoldable pub area : (old : ℕ) → (moves over : Bool) → ℕ
area old moves over = cond moves 3 (stilled old over)

-- the sample as a presence-based sensor would have it: in a failure the change to vacant waits
unfoldable pub shown : Movement → (held : Sample) → (over : Bool) → Sample
shown m held over = record { status = held.status; value = area m.seen.value (eqb (held.value % 2) 1) over }

-- ---- the hold timer: it starts where the value comes to 0xAA, and runs there alone
unfoldable pub hold_after : Settings → (old new left : ℕ) → ℕ
hold_after s old new left = cond (eqb new 2) (cond (eqb old 2) left (hold_time s)) 0

-- ---- catching: Movement is let through as if its filter bit, 3, were set
unfoldable pub letting : Movement → Settings → Settings
letting m s = with_filter (cond m.catching (bit_or s.filter 8) s.filter) s

-- ---- what a tick asks of the type
-- the presence-based sensor takes what it is shown
abbrev pub seen_after : Movement → Settings → (held : Sample) → Occupancy
seen_after m s held = occupancy_taken m.seen (letting m s) (shown m held (eqb (m.hold - 1) 0))

-- the hold timer falls as every timer, whatever is sampled
unfoldable pub movement_taken : Movement → Settings → (held : Sample) → Movement
movement_taken m s held =
    with_seen (seen_after m s held) (with_hold_left (hold_after s m.seen.value (seen_after m s held).value (m.hold - 1)) m)

unfoldable pub movement_cause : Movement → Bool
movement_cause m = occupancy_cause m.seen

-- the event clears all waiting ones; one that has Movement among its causes ends catching
unfoldable pub movement_sent : Movement → Movement
movement_sent m = with_seen (occupancy_sent m.seen) (with_catching (m.catching && eqb (m.seen.waiting / 8 % 2) 0) m)

-- bit 3 is 1
unfoldable pub movement_information : Movement → (repeats : Bool) → ℕ
movement_information m repeats = bit_or (occupancy_information m.seen repeats) 8

-- ---- inputValue: 0x00, 0xAA, 0xFF
unfoldable pub movement_input : Movement → ℕ
movement_input m = occupancy_input m.seen

-- ---- of the triggers that wait, those that `allowed` has
unfoldable pub movement_allowing : Movement → (allowed : ℕ) → Movement
movement_allowing m allowed = with_seen (occupancy_allowing m.seen allowed) m

-- ---- 20, catch movement: where filter bit 3 is clear; where it is set catching ends
unfoldable pub movement_caught : Movement → Settings → Movement
movement_caught m s = with_catching (eqb (s.filter / 8 % 2) 0) m

-- ---- 24, cancel hold: a running hold expires at the next tick, else no change
unfoldable pub movement_cancelled : Movement → Movement
movement_cancelled m = with_hold_left (min m.hold 1) m

-- M-104: what IEC 62386-305, 9.4.5, says of a colour's change and band.
-- Assumes nothing.
use Prim.Native.Nat.{ℕ, ◌<◌, ◌^◌}
use Rattle.rgb.proofs.Laws.{change_black, change_none, some_level}
use Rattle.rgb.specs.Colour.{absolute_change, apart, total}
use Rattle.sensor.specs.Colour.{change_of, colour_cause, colour_sent, colour_start, colour_taken, recalculated}
use Rattle.sensor.specs.Light.{light_repeat, width}
use Rattle.sensor.specs.Worked.{measurements, measuring, outcomes}
use Rattle.sensor.specs.declared.colour.Colour.{Colour}
use Rattle.sensor.specs.declared.settings.Sample.{Sample}
use Rattle.sensor.specs.declared.settings.Settings.{Settings}
use borrow.Author.Tests.{lt-ltb}
use lib.Dec.{ltb}
use mathlib.Core.Bool.{Bool, and-false, cond, false, true, ◌&&◌}
use mathlib.Core.Path.{◌≡◌, ap, refl}

-- THE WORKED EXAMPLE
pub worked : measuring colour_start measurements ≡ outcomes
unfolding absolute_change apart colour_cause colour_sent colour_taken light_repeat total width
worked = refl

-- ---- at power-on
-- the first value that is not black sends, by its change
pub first_sends : (s : Settings) (value : ℕ) → light_repeat s ≡ true → 0 < s.hysteresis → 0 < value → value < 2 ^ 24
    → colour_cause (colour_taken colour_start (record { status = 0; value = value })) s ≡ true
unfolding colour_cause colour_taken
first_sends s value lets on some fits = rw (lets, lt-ltb 0 s.hysteresis on, change_black value) (lt-ltb 0 (total value) (some_level value some fits))

-- the first black one does not
pub first_black : (s : Settings) → colour_cause (colour_taken colour_start (record { status = 0; value = 0 })) s ≡ false
unfolding colour_cause colour_taken
first_black s = rw (change_none 0) (and-false (light_repeat s && ltb 0 s.hysteresis))

-- ---- with hysteresis 0 the report alone sends (9.5.4)
pub none_by_change : (c : Colour) (s : Settings) → s.hysteresis ≡ 0 → colour_cause c s ≡ false
unfolding colour_cause light_repeat
none_by_change c s e = rw e (go (light_repeat s) (ltb c.band (change_of c)))
  where
    go : (a b : Bool) → (a && false) && b ≡ false
    go true b = refl
    go false b = refl

-- ---- what an event leaves
-- one that the change is no cause of, a report inside the band or with hysteresis 0, leaves the last colour and the band
pub report_leaves : (c : Colour) (s : Settings) → colour_cause c s ≡ false → colour_sent c s ≡ c
unfolding colour_sent
report_leaves c s e = ap (λ b. cond b (recalculated c s) c) e

-- one that it is a cause of recalculates them, and then there is no change
pub change_renews : (c : Colour) (s : Settings) → colour_cause c s ≡ true → (colour_sent c s ≡ recalculated c s) × (change_of (colour_sent c s) ≡ 0)
unfolding colour_sent
change_renews c s e = (rw e, rw e (change_none c.shown.value))

-- and so for any sample, with whatever status: it leaves both
pub sample_leaves : (c : Colour) (held : Sample) → ((colour_taken c held).last ≡ c.last) × ((colour_taken c held).band ≡ c.band)
unfolding colour_taken
sample_leaves c held = (refl, refl)

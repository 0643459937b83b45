-- UNIQUENESS: any two results, with all that was lent, that satisfy an exported function's promise for the same arguments are equal. `Post` is
-- the promise itself, as the checker reads the function's `ensures`.
-- Assumes nothing.
use Rattle.promise.specs.Unique.{Unique}
use Rattle.sensor.proofs.colour.Colour.allows.Kinds as Colour-allows-kinds
use Rattle.sensor.proofs.colour.Colour.allows.Reads as Colour-allows
use Rattle.sensor.proofs.colour.Colour.cause.Kinds as Colour-cause-kinds
use Rattle.sensor.proofs.colour.Colour.cause.Reads as Colour-cause
use Rattle.sensor.proofs.colour.Colour.fresh.Kinds as Colour-fresh-kinds
use Rattle.sensor.proofs.colour.Colour.fresh.Reads as Colour-fresh
use Rattle.sensor.proofs.colour.Colour.information.Kinds as Colour-information-kinds
use Rattle.sensor.proofs.colour.Colour.information.Reads as Colour-information
use Rattle.sensor.proofs.colour.Colour.input.Kinds as Colour-input-kinds
use Rattle.sensor.proofs.colour.Colour.input.Reads as Colour-input
use Rattle.sensor.proofs.colour.Colour.sent.Kinds as Colour-sent-kinds
use Rattle.sensor.proofs.colour.Colour.sent.Reads as Colour-sent
use Rattle.sensor.proofs.colour.Colour.settled.Kinds as Colour-settled-kinds
use Rattle.sensor.proofs.colour.Colour.settled.Reads as Colour-settled
use Rattle.sensor.proofs.colour.Colour.taken.Kinds as Colour-taken-kinds
use Rattle.sensor.proofs.colour.Colour.taken.Reads as Colour-taken
use Rattle.sensor.proofs.instance.Instance.declared.Kinds as Instance-declared-kinds
use Rattle.sensor.proofs.instance.Instance.declared.Reads as Instance-declared
use Rattle.sensor.proofs.instance.Instance.fresh.Kinds as Instance-fresh-kinds
use Rattle.sensor.proofs.instance.Instance.fresh.Reads as Instance-fresh
use Rattle.sensor.proofs.instance.Instance.goes_back.Kinds as Instance-goes-back-kinds
use Rattle.sensor.proofs.instance.Instance.goes_back.Reads as Instance-goes-back
use Rattle.sensor.proofs.instance.Instance.holding.Kinds as Instance-holding-kinds
use Rattle.sensor.proofs.instance.Instance.holding.Reads as Instance-holding
use Rattle.sensor.proofs.instance.Instance.quiet_for.Kinds as Instance-quiet-for-kinds
use Rattle.sensor.proofs.instance.Instance.quiet_for.Reads as Instance-quiet-for
use Rattle.sensor.proofs.instance.Instance.rested.Kinds as Instance-rested-kinds
use Rattle.sensor.proofs.instance.Instance.rested.Reads as Instance-rested
use Rattle.sensor.proofs.instance.Instance.tick.Kinds as Instance-tick-kinds
use Rattle.sensor.proofs.instance.Instance.tick.Reads as Instance-tick
use Rattle.sensor.proofs.kind.Kind.allowing.Kinds as Kind-allowing-kinds
use Rattle.sensor.proofs.kind.Kind.allowing.Reads as Kind-allowing
use Rattle.sensor.proofs.kind.Kind.allows.Kinds as Kind-allows-kinds
use Rattle.sensor.proofs.kind.Kind.allows.Reads as Kind-allows
use Rattle.sensor.proofs.kind.Kind.cancelled.Kinds as Kind-cancelled-kinds
use Rattle.sensor.proofs.kind.Kind.cancelled.Reads as Kind-cancelled
use Rattle.sensor.proofs.kind.Kind.catching.Kinds as Kind-catching-kinds
use Rattle.sensor.proofs.kind.Kind.catching.Reads as Kind-catching
use Rattle.sensor.proofs.kind.Kind.caught.Kinds as Kind-caught-kinds
use Rattle.sensor.proofs.kind.Kind.caught.Reads as Kind-caught
use Rattle.sensor.proofs.kind.Kind.cause.Kinds as Kind-cause-kinds
use Rattle.sensor.proofs.kind.Kind.cause.Reads as Kind-cause
use Rattle.sensor.proofs.kind.Kind.falls_for.Kinds as Kind-falls-for-kinds
use Rattle.sensor.proofs.kind.Kind.falls_for.Reads as Kind-falls-for
use Rattle.sensor.proofs.kind.Kind.information.Kinds as Kind-information-kinds
use Rattle.sensor.proofs.kind.Kind.information.Reads as Kind-information
use Rattle.sensor.proofs.kind.Kind.input.Kinds as Kind-input-kinds
use Rattle.sensor.proofs.kind.Kind.input.Reads as Kind-input
use Rattle.sensor.proofs.kind.Kind.kept.Kinds as Kind-kept-kinds
use Rattle.sensor.proofs.kind.Kind.kept.Reads as Kind-kept
use Rattle.sensor.proofs.kind.Kind.repeat.Kinds as Kind-repeat-kinds
use Rattle.sensor.proofs.kind.Kind.repeat.Reads as Kind-repeat
use Rattle.sensor.proofs.kind.Kind.resolution.Kinds as Kind-resolution-kinds
use Rattle.sensor.proofs.kind.Kind.resolution.Reads as Kind-resolution
use Rattle.sensor.proofs.kind.Kind.rested.Kinds as Kind-rested-kinds
use Rattle.sensor.proofs.kind.Kind.rested.Reads as Kind-rested
use Rattle.sensor.proofs.kind.Kind.rules.Kinds as Kind-rules-kinds
use Rattle.sensor.proofs.kind.Kind.rules.Reads as Kind-rules
use Rattle.sensor.proofs.kind.Kind.sensor_type.Kinds as Kind-sensor-type-kinds
use Rattle.sensor.proofs.kind.Kind.sensor_type.Reads as Kind-sensor-type
use Rattle.sensor.proofs.kind.Kind.sent.Kinds as Kind-sent-kinds
use Rattle.sensor.proofs.kind.Kind.sent.Reads as Kind-sent
use Rattle.sensor.proofs.kind.Kind.settled.Kinds as Kind-settled-kinds
use Rattle.sensor.proofs.kind.Kind.settled.Reads as Kind-settled
use Rattle.sensor.proofs.kind.Kind.taken.Kinds as Kind-taken-kinds
use Rattle.sensor.proofs.kind.Kind.taken.Reads as Kind-taken
use Rattle.sensor.proofs.kind.Kind.units.Kinds as Kind-units-kinds
use Rattle.sensor.proofs.kind.Kind.units.Reads as Kind-units
use Rattle.sensor.proofs.light.Band.moved.Kinds as Band-moved-kinds
use Rattle.sensor.proofs.light.Band.moved.Reads as Band-moved
use Rattle.sensor.proofs.light.Band.outside.Kinds as Band-outside-kinds
use Rattle.sensor.proofs.light.Band.outside.Reads as Band-outside
use Rattle.sensor.proofs.light.Light.allows.Kinds as Light-allows-kinds
use Rattle.sensor.proofs.light.Light.allows.Reads as Light-allows
use Rattle.sensor.proofs.light.Light.cause.Kinds as Light-cause-kinds
use Rattle.sensor.proofs.light.Light.cause.Reads as Light-cause
use Rattle.sensor.proofs.light.Light.compared.Kinds as Light-compared-kinds
use Rattle.sensor.proofs.light.Light.compared.Reads as Light-compared
use Rattle.sensor.proofs.light.Light.fresh.Kinds as Light-fresh-kinds
use Rattle.sensor.proofs.light.Light.fresh.Reads as Light-fresh
use Rattle.sensor.proofs.light.Light.information.Kinds as Light-information-kinds
use Rattle.sensor.proofs.light.Light.information.Reads as Light-information
use Rattle.sensor.proofs.light.Light.input.Kinds as Light-input-kinds
use Rattle.sensor.proofs.light.Light.input.Reads as Light-input
use Rattle.sensor.proofs.light.Light.repeat.Kinds as Light-repeat-kinds
use Rattle.sensor.proofs.light.Light.repeat.Reads as Light-repeat
use Rattle.sensor.proofs.light.Light.sent.Kinds as Light-sent-kinds
use Rattle.sensor.proofs.light.Light.sent.Reads as Light-sent
use Rattle.sensor.proofs.light.Light.settled.Kinds as Light-settled-kinds
use Rattle.sensor.proofs.light.Light.settled.Reads as Light-settled
use Rattle.sensor.proofs.light.Light.taken.Kinds as Light-taken-kinds
use Rattle.sensor.proofs.light.Light.taken.Reads as Light-taken
use Rattle.sensor.proofs.movement.Movement.allowing.Kinds as Movement-allowing-kinds
use Rattle.sensor.proofs.movement.Movement.allowing.Reads as Movement-allowing
use Rattle.sensor.proofs.movement.Movement.allows.Kinds as Movement-allows-kinds
use Rattle.sensor.proofs.movement.Movement.allows.Reads as Movement-allows
use Rattle.sensor.proofs.movement.Movement.cancelled.Kinds as Movement-cancelled-kinds
use Rattle.sensor.proofs.movement.Movement.cancelled.Reads as Movement-cancelled
use Rattle.sensor.proofs.movement.Movement.caught.Kinds as Movement-caught-kinds
use Rattle.sensor.proofs.movement.Movement.caught.Reads as Movement-caught
use Rattle.sensor.proofs.movement.Movement.cause.Kinds as Movement-cause-kinds
use Rattle.sensor.proofs.movement.Movement.cause.Reads as Movement-cause
use Rattle.sensor.proofs.movement.Movement.falls_for.Kinds as Movement-falls-for-kinds
use Rattle.sensor.proofs.movement.Movement.falls_for.Reads as Movement-falls-for
use Rattle.sensor.proofs.movement.Movement.fresh.Kinds as Movement-fresh-kinds
use Rattle.sensor.proofs.movement.Movement.fresh.Reads as Movement-fresh
use Rattle.sensor.proofs.movement.Movement.information.Kinds as Movement-information-kinds
use Rattle.sensor.proofs.movement.Movement.information.Reads as Movement-information
use Rattle.sensor.proofs.movement.Movement.input.Kinds as Movement-input-kinds
use Rattle.sensor.proofs.movement.Movement.input.Reads as Movement-input
use Rattle.sensor.proofs.movement.Movement.rested.Kinds as Movement-rested-kinds
use Rattle.sensor.proofs.movement.Movement.rested.Reads as Movement-rested
use Rattle.sensor.proofs.movement.Movement.sent.Kinds as Movement-sent-kinds
use Rattle.sensor.proofs.movement.Movement.sent.Reads as Movement-sent
use Rattle.sensor.proofs.movement.Movement.settled.Kinds as Movement-settled-kinds
use Rattle.sensor.proofs.movement.Movement.settled.Reads as Movement-settled
use Rattle.sensor.proofs.movement.Movement.taken.Kinds as Movement-taken-kinds
use Rattle.sensor.proofs.movement.Movement.taken.Reads as Movement-taken
use Rattle.sensor.proofs.occupancy.Occupancy.allowing.Kinds as Occupancy-allowing-kinds
use Rattle.sensor.proofs.occupancy.Occupancy.allowing.Reads as Occupancy-allowing
use Rattle.sensor.proofs.occupancy.Occupancy.allows.Kinds as Occupancy-allows-kinds
use Rattle.sensor.proofs.occupancy.Occupancy.allows.Reads as Occupancy-allows
use Rattle.sensor.proofs.occupancy.Occupancy.cause.Kinds as Occupancy-cause-kinds
use Rattle.sensor.proofs.occupancy.Occupancy.cause.Reads as Occupancy-cause
use Rattle.sensor.proofs.occupancy.Occupancy.defaults.Kinds as Occupancy-defaults-kinds
use Rattle.sensor.proofs.occupancy.Occupancy.defaults.Reads as Occupancy-defaults
use Rattle.sensor.proofs.occupancy.Occupancy.fresh.Kinds as Occupancy-fresh-kinds
use Rattle.sensor.proofs.occupancy.Occupancy.fresh.Reads as Occupancy-fresh
use Rattle.sensor.proofs.occupancy.Occupancy.information.Kinds as Occupancy-information-kinds
use Rattle.sensor.proofs.occupancy.Occupancy.information.Reads as Occupancy-information
use Rattle.sensor.proofs.occupancy.Occupancy.input.Kinds as Occupancy-input-kinds
use Rattle.sensor.proofs.occupancy.Occupancy.input.Reads as Occupancy-input
use Rattle.sensor.proofs.occupancy.Occupancy.repeat.Kinds as Occupancy-repeat-kinds
use Rattle.sensor.proofs.occupancy.Occupancy.repeat.Reads as Occupancy-repeat
use Rattle.sensor.proofs.occupancy.Occupancy.sent.Kinds as Occupancy-sent-kinds
use Rattle.sensor.proofs.occupancy.Occupancy.sent.Reads as Occupancy-sent
use Rattle.sensor.proofs.occupancy.Occupancy.settled.Kinds as Occupancy-settled-kinds
use Rattle.sensor.proofs.occupancy.Occupancy.settled.Reads as Occupancy-settled
use Rattle.sensor.proofs.occupancy.Occupancy.taken.Kinds as Occupancy-taken-kinds
use Rattle.sensor.proofs.occupancy.Occupancy.taken.Reads as Occupancy-taken
use Rattle.sensor.proofs.settings.SamplePartialEq.eq.Kinds as Sample-eq-kinds
use Rattle.sensor.proofs.settings.SamplePartialEq.eq.Reads as Sample-eq
use mathlib.Core.Path.{sym, ◌∙◌}

pub Instance-fresh_unique : Unique 0 Instance-fresh-kinds.ps Instance-fresh-kinds.r Instance-fresh.Post
Instance-fresh_unique κs a x y s t p q = p ∙ sym q

pub Instance-declared_unique : Unique 0 Instance-declared-kinds.ps Instance-declared-kinds.r Instance-declared.Post
Instance-declared_unique κs a x y s t p q = p ∙ sym q

pub Instance-holding_unique : Unique 0 Instance-holding-kinds.ps Instance-holding-kinds.r Instance-holding.Post
Instance-holding_unique κs a x y s t p q = p ∙ sym q

pub Instance-goes_back_unique : Unique 0 Instance-goes-back-kinds.ps Instance-goes-back-kinds.r Instance-goes-back.Post
Instance-goes_back_unique κs a x y s t p q = p ∙ sym q

pub Instance-tick_unique : Unique 0 Instance-tick-kinds.ps Instance-tick-kinds.r Instance-tick.Post
Instance-tick_unique κs a x y s t p q = p ∙ sym q

pub Instance-quiet_for_unique : Unique 0 Instance-quiet-for-kinds.ps Instance-quiet-for-kinds.r Instance-quiet-for.Post
Instance-quiet_for_unique κs a x y s t p q = p ∙ sym q

pub Instance-rested_unique : Unique 0 Instance-rested-kinds.ps Instance-rested-kinds.r Instance-rested.Post
Instance-rested_unique κs a x y s t p q = p ∙ sym q

pub Kind-units_unique : Unique 0 Kind-units-kinds.ps Kind-units-kinds.r Kind-units.Post
Kind-units_unique κs a x y s t p q = p ∙ sym q

pub Kind-taken_unique : Unique 0 Kind-taken-kinds.ps Kind-taken-kinds.r Kind-taken.Post
Kind-taken_unique κs a x y s t p q = p ∙ sym q

pub Kind-cause_unique : Unique 0 Kind-cause-kinds.ps Kind-cause-kinds.r Kind-cause.Post
Kind-cause_unique κs a x y s t p q = p ∙ sym q

pub Kind-repeat_unique : Unique 0 Kind-repeat-kinds.ps Kind-repeat-kinds.r Kind-repeat.Post
Kind-repeat_unique κs a x y s t p q = p ∙ sym q

pub Kind-sent_unique : Unique 0 Kind-sent-kinds.ps Kind-sent-kinds.r Kind-sent.Post
Kind-sent_unique κs a x y s t p q = p ∙ sym q

pub Kind-information_unique : Unique 0 Kind-information-kinds.ps Kind-information-kinds.r Kind-information.Post
Kind-information_unique κs a x y s t p q = p ∙ sym q

pub Kind-rules_unique : Unique 0 Kind-rules-kinds.ps Kind-rules-kinds.r Kind-rules.Post
Kind-rules_unique κs a x y s t p q = p ∙ sym q

pub Kind-sensor_type_unique : Unique 0 Kind-sensor-type-kinds.ps Kind-sensor-type-kinds.r Kind-sensor-type.Post
Kind-sensor_type_unique κs a x y s t p q = p ∙ sym q

pub Kind-resolution_unique : Unique 0 Kind-resolution-kinds.ps Kind-resolution-kinds.r Kind-resolution.Post
Kind-resolution_unique κs a x y s t p q = p ∙ sym q

pub Kind-kept_unique : Unique 0 Kind-kept-kinds.ps Kind-kept-kinds.r Kind-kept.Post
Kind-kept_unique κs a x y s t p q = p ∙ sym q

pub Kind-input_unique : Unique 0 Kind-input-kinds.ps Kind-input-kinds.r Kind-input.Post
Kind-input_unique κs a x y s t p q = p ∙ sym q

pub Kind-allows_unique : Unique 0 Kind-allows-kinds.ps Kind-allows-kinds.r Kind-allows.Post
Kind-allows_unique κs a x y s t p q = p ∙ sym q

pub Kind-allowing_unique : Unique 0 Kind-allowing-kinds.ps Kind-allowing-kinds.r Kind-allowing.Post
Kind-allowing_unique κs a x y s t p q = p ∙ sym q

pub Kind-caught_unique : Unique 0 Kind-caught-kinds.ps Kind-caught-kinds.r Kind-caught.Post
Kind-caught_unique κs a x y s t p q = p ∙ sym q

pub Kind-cancelled_unique : Unique 0 Kind-cancelled-kinds.ps Kind-cancelled-kinds.r Kind-cancelled.Post
Kind-cancelled_unique κs a x y s t p q = p ∙ sym q

pub Kind-catching_unique : Unique 0 Kind-catching-kinds.ps Kind-catching-kinds.r Kind-catching.Post
Kind-catching_unique κs a x y s t p q = p ∙ sym q

pub Kind-settled_unique : Unique 0 Kind-settled-kinds.ps Kind-settled-kinds.r Kind-settled.Post
Kind-settled_unique κs a x y s t p q = p ∙ sym q

pub Kind-falls_for_unique : Unique 0 Kind-falls-for-kinds.ps Kind-falls-for-kinds.r Kind-falls-for.Post
Kind-falls_for_unique κs a x y s t p q = p ∙ sym q

pub Kind-rested_unique : Unique 0 Kind-rested-kinds.ps Kind-rested-kinds.r Kind-rested.Post
Kind-rested_unique κs a x y s t p q = p ∙ sym q

pub Light-fresh_unique : Unique 0 Light-fresh-kinds.ps Light-fresh-kinds.r Light-fresh.Post
Light-fresh_unique κs a x y s t p q = p ∙ sym q

pub Light-allows_unique : Unique 0 Light-allows-kinds.ps Light-allows-kinds.r Light-allows.Post
Light-allows_unique κs a x y s t p q = p ∙ sym q

pub Light-taken_unique : Unique 0 Light-taken-kinds.ps Light-taken-kinds.r Light-taken.Post
Light-taken_unique κs a x y s t p q = p ∙ sym q

pub Light-compared_unique : Unique 0 Light-compared-kinds.ps Light-compared-kinds.r Light-compared.Post
Light-compared_unique κs a x y s t p q = p ∙ sym q

pub Light-cause_unique : Unique 0 Light-cause-kinds.ps Light-cause-kinds.r Light-cause.Post
Light-cause_unique κs a x y s t p q = p ∙ sym q

pub Light-repeat_unique : Unique 0 Light-repeat-kinds.ps Light-repeat-kinds.r Light-repeat.Post
Light-repeat_unique κs a x y s t p q = p ∙ sym q

pub Light-sent_unique : Unique 0 Light-sent-kinds.ps Light-sent-kinds.r Light-sent.Post
Light-sent_unique κs a x y s t p q = p ∙ sym q

pub Light-information_unique : Unique 0 Light-information-kinds.ps Light-information-kinds.r Light-information.Post
Light-information_unique κs a x y s t p q = p ∙ sym q

pub Light-input_unique : Unique 0 Light-input-kinds.ps Light-input-kinds.r Light-input.Post
Light-input_unique κs a x y s t p q = p ∙ sym q

pub Light-settled_unique : Unique 0 Light-settled-kinds.ps Light-settled-kinds.r Light-settled.Post
Light-settled_unique κs a x y s t p q = p ∙ sym q

pub Band-outside_unique : Unique 0 Band-outside-kinds.ps Band-outside-kinds.r Band-outside.Post
Band-outside_unique κs a x y s t p q = p ∙ sym q

pub Band-moved_unique : Unique 0 Band-moved-kinds.ps Band-moved-kinds.r Band-moved.Post
Band-moved_unique κs a x y s t p q = p ∙ sym q

pub Occupancy-defaults_unique : Unique 0 Occupancy-defaults-kinds.ps Occupancy-defaults-kinds.r Occupancy-defaults.Post
Occupancy-defaults_unique κs a x y s t p q = p ∙ sym q

pub Occupancy-fresh_unique : Unique 0 Occupancy-fresh-kinds.ps Occupancy-fresh-kinds.r Occupancy-fresh.Post
Occupancy-fresh_unique κs a x y s t p q = p ∙ sym q

pub Occupancy-allows_unique : Unique 0 Occupancy-allows-kinds.ps Occupancy-allows-kinds.r Occupancy-allows.Post
Occupancy-allows_unique κs a x y s t p q = p ∙ sym q

pub Occupancy-taken_unique : Unique 0 Occupancy-taken-kinds.ps Occupancy-taken-kinds.r Occupancy-taken.Post
Occupancy-taken_unique κs a x y s t p q = p ∙ sym q

pub Occupancy-cause_unique : Unique 0 Occupancy-cause-kinds.ps Occupancy-cause-kinds.r Occupancy-cause.Post
Occupancy-cause_unique κs a x y s t p q = p ∙ sym q

pub Occupancy-repeat_unique : Unique 0 Occupancy-repeat-kinds.ps Occupancy-repeat-kinds.r Occupancy-repeat.Post
Occupancy-repeat_unique κs a x y s t p q = p ∙ sym q

pub Occupancy-sent_unique : Unique 0 Occupancy-sent-kinds.ps Occupancy-sent-kinds.r Occupancy-sent.Post
Occupancy-sent_unique κs a x y s t p q = p ∙ sym q

pub Occupancy-information_unique : Unique 0 Occupancy-information-kinds.ps Occupancy-information-kinds.r Occupancy-information.Post
Occupancy-information_unique κs a x y s t p q = p ∙ sym q

pub Occupancy-input_unique : Unique 0 Occupancy-input-kinds.ps Occupancy-input-kinds.r Occupancy-input.Post
Occupancy-input_unique κs a x y s t p q = p ∙ sym q

pub Occupancy-allowing_unique : Unique 0 Occupancy-allowing-kinds.ps Occupancy-allowing-kinds.r Occupancy-allowing.Post
Occupancy-allowing_unique κs a x y s t p q = p ∙ sym q

pub Occupancy-settled_unique : Unique 0 Occupancy-settled-kinds.ps Occupancy-settled-kinds.r Occupancy-settled.Post
Occupancy-settled_unique κs a x y s t p q = p ∙ sym q

pub Movement-fresh_unique : Unique 0 Movement-fresh-kinds.ps Movement-fresh-kinds.r Movement-fresh.Post
Movement-fresh_unique κs a x y s t p q = p ∙ sym q

pub Movement-allows_unique : Unique 0 Movement-allows-kinds.ps Movement-allows-kinds.r Movement-allows.Post
Movement-allows_unique κs a x y s t p q = p ∙ sym q

pub Movement-taken_unique : Unique 0 Movement-taken-kinds.ps Movement-taken-kinds.r Movement-taken.Post
Movement-taken_unique κs a x y s t p q = p ∙ sym q

pub Movement-cause_unique : Unique 0 Movement-cause-kinds.ps Movement-cause-kinds.r Movement-cause.Post
Movement-cause_unique κs a x y s t p q = p ∙ sym q

pub Movement-sent_unique : Unique 0 Movement-sent-kinds.ps Movement-sent-kinds.r Movement-sent.Post
Movement-sent_unique κs a x y s t p q = p ∙ sym q

pub Movement-information_unique : Unique 0 Movement-information-kinds.ps Movement-information-kinds.r Movement-information.Post
Movement-information_unique κs a x y s t p q = p ∙ sym q

pub Movement-input_unique : Unique 0 Movement-input-kinds.ps Movement-input-kinds.r Movement-input.Post
Movement-input_unique κs a x y s t p q = p ∙ sym q

pub Movement-allowing_unique : Unique 0 Movement-allowing-kinds.ps Movement-allowing-kinds.r Movement-allowing.Post
Movement-allowing_unique κs a x y s t p q = p ∙ sym q

pub Movement-caught_unique : Unique 0 Movement-caught-kinds.ps Movement-caught-kinds.r Movement-caught.Post
Movement-caught_unique κs a x y s t p q = p ∙ sym q

pub Movement-cancelled_unique : Unique 0 Movement-cancelled-kinds.ps Movement-cancelled-kinds.r Movement-cancelled.Post
Movement-cancelled_unique κs a x y s t p q = p ∙ sym q

pub Movement-settled_unique : Unique 0 Movement-settled-kinds.ps Movement-settled-kinds.r Movement-settled.Post
Movement-settled_unique κs a x y s t p q = p ∙ sym q

pub Movement-falls_for_unique : Unique 0 Movement-falls-for-kinds.ps Movement-falls-for-kinds.r Movement-falls-for.Post
Movement-falls_for_unique κs a x y s t p q = p ∙ sym q

pub Movement-rested_unique : Unique 0 Movement-rested-kinds.ps Movement-rested-kinds.r Movement-rested.Post
Movement-rested_unique κs a x y s t p q = p ∙ sym q

pub Colour-fresh_unique : Unique 0 Colour-fresh-kinds.ps Colour-fresh-kinds.r Colour-fresh.Post
Colour-fresh_unique κs a x y s t p q = p ∙ sym q

pub Colour-allows_unique : Unique 0 Colour-allows-kinds.ps Colour-allows-kinds.r Colour-allows.Post
Colour-allows_unique κs a x y s t p q = p ∙ sym q

pub Colour-taken_unique : Unique 0 Colour-taken-kinds.ps Colour-taken-kinds.r Colour-taken.Post
Colour-taken_unique κs a x y s t p q = p ∙ sym q

pub Colour-cause_unique : Unique 0 Colour-cause-kinds.ps Colour-cause-kinds.r Colour-cause.Post
Colour-cause_unique κs a x y s t p q = p ∙ sym q

pub Colour-sent_unique : Unique 0 Colour-sent-kinds.ps Colour-sent-kinds.r Colour-sent.Post
Colour-sent_unique κs a x y s t p q = p ∙ sym q

pub Colour-information_unique : Unique 0 Colour-information-kinds.ps Colour-information-kinds.r Colour-information.Post
Colour-information_unique κs a x y s t p q = p ∙ sym q

pub Colour-input_unique : Unique 0 Colour-input-kinds.ps Colour-input-kinds.r Colour-input.Post
Colour-input_unique κs a x y s t p q = p ∙ sym q

pub Colour-settled_unique : Unique 0 Colour-settled-kinds.ps Colour-settled-kinds.r Colour-settled.Post
Colour-settled_unique κs a x y s t p q = p ∙ sym q

-- `==`, which is derived
pub Sample-eq_unique : Unique 2 Sample-eq-kinds.ps Sample-eq-kinds.r Sample-eq.Post
Sample-eq_unique κs a x y s t p q = p ∙ sym q

-- Document 01, "Frames", with M-103 and M-100: what its sentences on commands and queries say of the definitions.
-- Assumes nothing.
use Prim.Native.Nat.{ℕ, ◌<◌, ◌≤◌}
use Rattle.command.specs.Answering.{ButLatch, acted, acted_by, answered, counted_up, latched, leaving, queried}
use Rattle.command.specs.Controlling.{ButControl, ButHoldAndCatching, controlled, controlled_kind}
use Rattle.command.specs.Setting.{block_changed, bounded_hysteresis, bounded_priority, changed, filtered, obeyed, retimed, retimed_dead, retimed_report}
use Rattle.opcode.specs.Meaning.{counts_up, is_control, is_setting, meant}
use Rattle.opcode.specs.declared.Command.TheVariants.{Disable, Enable, SetDeadtime, SetFilter, SetHold, SetHysteresis, SetHysteresisMin, SetPriority, SetReport, SetValidFilter}
use Rattle.opcode.specs.declared.Command.{Command}
use Rattle.opcode.specs.declared.Control.TheVariants.{CancelHold, CatchMovement}
use Rattle.opcode.specs.declared.Control.{Control}
use Rattle.opcode.specs.declared.Meaning.TheVariants.{Act, Ask, Ignored, Set}
use Rattle.opcode.specs.declared.Meaning.{Meaning}
use Rattle.opcode.specs.declared.Query.TheVariants.{QueryColourSensor, QueryNext, QueryValue, QueryVariable}
use Rattle.opcode.specs.declared.Query.{Query}
use Rattle.sensor.specs.Fresh.{fresh}
use Rattle.sensor.specs.Instance.{with_settings, with_timers}
use Rattle.sensor.specs.Kind.{allowing, cancelled, caught, kept, repeat, rules, units}
use Rattle.sensor.specs.Movement.{movement_allowing, movement_cancelled, movement_caught, with_seen}
use Rattle.sensor.specs.Occupancy.{occupancy_allowing}
use Rattle.sensor.specs.Settings.{with_deadtime, with_report}
use Rattle.sensor.specs.declared.instance.Instance.{Instance}
use Rattle.sensor.specs.declared.kind.Kind.TheVariants.{Colour, Light, Movement, Occupancy}
use Rattle.sensor.specs.declared.kind.Kind.{Kind}
use Rattle.sensor.specs.declared.movement.Movement.{Movement as MovementState}
use Rattle.sensor.specs.declared.occupancy.Occupancy.{Occupancy as OccupancyState}
use Rattle.sensor.specs.declared.settings.Sample.{Sample}
use Rattle.sensor.specs.declared.settings.Settings.{Settings}
use Rattle.std.specs.Prelude.{None, Option, Some}
use Rattle.timers.specs.Timers.{dead_time, due, report_time, started_report}
use Rattle.timers.specs.declared.Rules.{Rules}
use borrow.Author.Tests.{eq-eqb, le-ltb, lt-ltb, ne_eqb}
use lib.Bits.{and_zero_r}
use mathlib.Core.Bool.{false, false≢true, true, true≢false}
use mathlib.Core.Path.{◌≡◌, ap, refl}
use native.Mathlib.Nat.{le-max_left, ne_of_gt}
use native.Mathlib.Omega.{arith}

-- ---- a query changes nothing but the latch
pub query_keeps : (x : Instance) (q : Query) (d : ℕ) → ButLatch x (queried x q d).instance
unfolding answered queried
query_keeps x (QueryVariable variable) d = refl
query_keeps x QueryValue d = refl
query_keeps x QueryNext d = refl
query_keeps x QueryColourSensor d = refl

-- ---- what byte 3 does
-- anything but a setting command and a control instruction keeps the settings, the timers and the rest
by_keeps : (x : Instance) (m : Meaning) (d : ℕ) → is_setting m ≡ false → is_control m ≡ false → ButLatch x (acted_by x m d).instance
unfolding acted_by is_setting is_control
by_keeps x (Set c) d e f = absurd (true≢false e)
by_keeps x (Act c) d e f = absurd (true≢false f)
by_keeps x (Ask q) d e f = query_keeps x q d
by_keeps x Ignored d e f = refl

pub calm_keeps : (x : Instance) (opcode dtr0 : ℕ) → is_setting (meant x.kind opcode) ≡ false → is_control (meant x.kind opcode) ≡ false
    → ButLatch x (acted x opcode dtr0).instance
unfolding acted
calm_keeps x opcode dtr0 e f = by_keeps x (meant x.kind opcode) dtr0 e f

-- a control instruction changes at most catching and the hold timer of a movement sensor
control_kind : (k : Kind) (c : Control) (s : Settings) → ButHoldAndCatching k (controlled_kind k c s)
unfolding controlled_kind caught cancelled movement_caught movement_cancelled
control_kind (Light l) CatchMovement s = refl
control_kind (Light l) CancelHold s = refl
control_kind (Occupancy o) CatchMovement s = refl
control_kind (Occupancy o) CancelHold s = refl
control_kind (Movement m) CatchMovement s = (m.hold, _, refl)
control_kind (Movement m) CancelHold s = (_, m.catching, refl)
control_kind (Colour c) CatchMovement s = refl
control_kind (Colour c) CancelHold s = refl

pub control_changes : (x : Instance) (c : Control) → ButControl x (controlled x c)
unfolding controlled
control_changes x c = (control_kind x.kind c x.settings, refl)

pub changes_nothing : (x : Instance) → ButControl x x
changes_nothing x = (go x.kind, refl)
  where
    go : (k : Kind) → ButHoldAndCatching k k
    go (Light l) = refl
    go (Occupancy o) = refl
    go (Movement m) = (m.hold, m.catching, refl)
    go (Colour c) = refl

pub acts_so : (x : Instance) (opcode dtr0 : ℕ) (c : Control) → meant x.kind opcode ≡ Act c
    → acted x opcode dtr0 ≡ leaving (controlled x c) dtr0 None
unfolding acted acted_by
acts_so x opcode dtr0 c e = rw e

-- what is no setting command keeps the timers and what the decision goes by
rules_controlled : (k : Kind) (c : Control) (s : Settings) → rules (controlled_kind k c s) s ≡ rules k s
unfolding controlled_kind caught cancelled repeat rules units
rules_controlled (Light l) CatchMovement s = refl
rules_controlled (Light l) CancelHold s = refl
rules_controlled (Occupancy o) CatchMovement s = refl
rules_controlled (Occupancy o) CancelHold s = refl
rules_controlled (Movement m) CatchMovement s = refl
rules_controlled (Movement m) CancelHold s = refl
rules_controlled (Colour c) CatchMovement s = refl
rules_controlled (Colour c) CancelHold s = refl

by_untimed : (x : Instance) (m : Meaning) (d : ℕ) → is_setting m ≡ false
    → (rules (acted_by x m d).instance.kind (acted_by x m d).instance.settings ≡ rules x.kind x.settings)
    × ((acted_by x m d).instance.timers ≡ x.timers)
unfolding acted_by controlled is_setting
by_untimed x (Set c) d e = absurd (true≢false e)
by_untimed x (Act c) d e = (rules_controlled x.kind c x.settings, refl)
by_untimed x (Ask q) d e = let keeps = query_keeps x q d in (ap (λ y. rules y.kind y.settings) keeps, ap (λ y. y.timers) keeps)
by_untimed x Ignored d e = (refl, refl)

pub calm_untimed : (x : Instance) (opcode dtr0 : ℕ) → is_setting (meant x.kind opcode) ≡ false
    → (rules (acted x opcode dtr0).instance.kind (acted x opcode dtr0).instance.settings ≡ rules x.kind x.settings)
    × ((acted x opcode dtr0).instance.timers ≡ x.timers)
unfolding acted
calm_untimed x opcode dtr0 e = by_untimed x (meant x.kind opcode) dtr0 e

-- a setting command answers nothing
by_silent : (x : Instance) (m : Meaning) (d : ℕ) → is_setting m ≡ true → (acted_by x m d).answer ≡ None
unfolding acted_by is_setting
by_silent x (Set c) d e = refl
by_silent x (Act c) d e = absurd (false≢true e)
by_silent x (Ask q) d e = absurd (false≢true e)
by_silent x Ignored d e = absurd (false≢true e)

pub setting_silent : (x : Instance) (opcode dtr0 : ℕ) → is_setting (meant x.kind opcode) ≡ true → (acted x opcode dtr0).answer ≡ None
unfolding acted
setting_silent x opcode dtr0 e = by_silent x (meant x.kind opcode) dtr0 e

-- anything else is ignored: no change, no answer
pub ignored_nothing : (x : Instance) (opcode dtr0 : ℕ) → meant x.kind opcode ≡ Ignored → acted x opcode dtr0 ≡ leaving x dtr0 None
unfolding acted acted_by
ignored_nothing x opcode dtr0 e = rw e

-- no command touches the held sample, nor the error
by_held : (x : Instance) (m : Meaning) (d : ℕ) → (acted_by x m d).instance.held ≡ x.held
unfolding acted_by controlled obeyed block_changed
by_held x (Set c) d = refl
by_held x (Act c) d = refl
by_held x (Ask q) d = ap (λ y. y.held) (query_keeps x q d)
by_held x Ignored d = refl

pub held_kept : (x : Instance) (opcode dtr0 : ℕ) → (acted x opcode dtr0).instance.held ≡ x.held
unfolding acted
held_kept x opcode dtr0 = by_held x (meant x.kind opcode) dtr0

by_failed : (x : Instance) (m : Meaning) (d : ℕ) → (acted_by x m d).instance.failed ≡ x.failed
unfolding acted_by controlled obeyed block_changed
by_failed x (Set c) d = refl
by_failed x (Act c) d = refl
by_failed x (Ask q) d = ap (λ y. y.failed) (query_keeps x q d)
by_failed x Ignored d = refl

pub failed_kept : (x : Instance) (opcode dtr0 : ℕ) → (acted x opcode dtr0).instance.failed ≡ x.failed
unfolding acted
failed_kept x opcode dtr0 = by_failed x (meant x.kind opcode) dtr0

-- M-104: DTR0 is left as it was by all but the colour query, which counts it up
query_leaves : (x : Instance) (q : Query) (d : ℕ) → counts_up (Ask q) ≡ false → (queried x q d).dtr0 ≡ d
unfolding queried answered counts_up
query_leaves x (QueryVariable variable) d e = refl
query_leaves x QueryValue d e = refl
query_leaves x QueryNext d e = refl
query_leaves x QueryColourSensor d e = absurd (true≢false e)

by_leaves : (x : Instance) (m : Meaning) (d : ℕ) → counts_up m ≡ false → (acted_by x m d).dtr0 ≡ d
unfolding acted_by
by_leaves x (Set c) d e = refl
by_leaves x (Act c) d e = refl
by_leaves x (Ask q) d e = query_leaves x q d e
by_leaves x Ignored d e = refl

pub dtr0_left : (x : Instance) (opcode dtr0 : ℕ) → counts_up (meant x.kind opcode) ≡ false → (acted x opcode dtr0).dtr0 ≡ dtr0
unfolding acted
dtr0_left x opcode dtr0 e = by_leaves x (meant x.kind opcode) dtr0 e

by_counts : (x : Instance) (m : Meaning) (d : ℕ) → counts_up m ≡ true → (acted_by x m d).dtr0 ≡ counted_up d
unfolding acted_by queried counts_up
by_counts x (Set c) d e = absurd (false≢true e)
by_counts x (Act c) d e = absurd (false≢true e)
by_counts x (Ask (QueryVariable variable)) d e = absurd (false≢true e)
by_counts x (Ask QueryValue) d e = absurd (false≢true e)
by_counts x (Ask QueryNext) d e = absurd (false≢true e)
by_counts x (Ask QueryColourSensor) d e = refl
by_counts x Ignored d e = absurd (false≢true e)

pub dtr0_counted : (x : Instance) (opcode dtr0 : ℕ) → counts_up (meant x.kind opcode) ≡ true → (acted x opcode dtr0).dtr0 ≡ counted_up dtr0
unfolding acted
dtr0_counted x opcode dtr0 e = by_counts x (meant x.kind opcode) dtr0 e

-- ---- a command leaves the sensor as it was, or with fewer triggers waiting; so what holds of both of two sensors then holds after it
pub command_by : (P : Kind → Kind → Type 0) (j k : Kind) (c : Command) (filter : ℕ) → P j k
    → ((allowed : ℕ) → P (allowing j allowed) (allowing k allowed)) → P (filtered j c filter) (filtered k c filter)
unfolding filtered
command_by P j k Disable filter was fewer = fewer 0
command_by P j k SetFilter filter was fewer = fewer filter
command_by P j k SetPriority filter was fewer = was
command_by P j k Enable filter was fewer = was
command_by P j k SetReport filter was fewer = was
command_by P j k SetDeadtime filter was fewer = was
command_by P j k SetHysteresis filter was fewer = was
command_by P j k SetHysteresisMin filter was fewer = was
command_by P j k SetHold filter was fewer = was
command_by P j k SetValidFilter filter was fewer = fewer filter

-- ---- a command keeps the type, so what the decision goes by depends on the settings alone
rules_allowed : (k : Kind) (filter : ℕ) (s : Settings) → rules (allowing k filter) s ≡ rules k s
unfolding allowing repeat rules units
rules_allowed (Light l) filter s = refl
rules_allowed (Occupancy o) filter s = refl
rules_allowed (Movement m) filter s = refl
rules_allowed (Colour c) filter s = refl

pub rules_allowing : (k : Kind) (c : Command) (filter : ℕ) (s : Settings) → rules (filtered k c filter) s ≡ rules k s
rules_allowing k c filter s = command_by (λ _ j. rules j s ≡ rules k s) k k c filter refl (λ allowed. rules_allowed k allowed s)

pub obeyed_settings : (x : Instance) (c : Command) (d : ℕ) → (obeyed x c d).settings ≡ changed x.settings c d (kept x.kind)
unfolding obeyed block_changed
obeyed_settings x c d = refl

pub obeyed_rules : (x : Instance) (c : Command) (d : ℕ) → rules (obeyed x c d).kind (obeyed x c d).settings ≡ rules x.kind (changed x.settings c d (kept x.kind))
unfolding obeyed block_changed
obeyed_rules x c d = rules_allowing x.kind c (changed x.settings c d (kept x.kind)).filter (changed x.settings c d (kept x.kind))

-- ---- settings: what is out of bounds is no change
pub priority_below : (s : Settings) (d : ℕ) → d < 2 → bounded_priority s d ≡ s
unfolding bounded_priority
priority_below s d h = rw (lt-ltb d 2 h)

pub priority_above : (s : Settings) (d : ℕ) → 5 < d → bounded_priority s d ≡ s
unfolding bounded_priority
priority_above s d h = let l : 2 ≤ d = omega (arith, h) in rw (le-ltb d 2 l, lt-ltb 5 d h)

pub priority_within : (s : Settings) (d : ℕ) → 2 ≤ d → d ≤ 5 → (bounded_priority s d).priority ≡ d
unfolding bounded_priority
priority_within s d h k = rw (le-ltb d 2 h, le-ltb 5 d k)

pub hysteresis_above : (s : Settings) (d : ℕ) → 25 < d → bounded_hysteresis s d ≡ s
unfolding bounded_hysteresis
hysteresis_above s d h = rw (lt-ltb 25 d h)

pub hysteresis_within : (s : Settings) (d : ℕ) → d ≤ 25 → (bounded_hysteresis s d).hysteresis ≡ d
unfolding bounded_hysteresis
hysteresis_within s d h = rw (le-ltb 25 d h)

-- ---- timers
-- a new time serves from the next start of its timer
pub dead_runs_on : (dead : ℕ) (r : Rules) → 0 < r.deadtime → retimed_dead dead r ≡ dead
unfolding retimed_dead
dead_runs_on dead r h = rw (ne_eqb r.deadtime 0 (ne_of_gt h))

-- the instance with deadtime d, n ticks of dead time left, and all else as it was
abbrev pub retimed_to : Instance → (d n : ℕ) → Instance
retimed_to x d n = with_timers (record { dead = n; report = x.timers.report }) (with_settings (with_deadtime d x.settings) x)

pub deadtime_waits : (x : Instance) (d : ℕ) → 0 < d → obeyed x SetDeadtime d ≡ retimed_to x d x.timers.dead
unfolding changed filtered obeyed retimed rules block_changed
deadtime_waits x d h = ap (λ n. retimed_to x d n) (dead_runs_on x.timers.dead (rules x.kind (with_deadtime d x.settings)) h)

-- what the decision goes by once report is set to d
abbrev pub report_set : Instance → (d : ℕ) → Rules
report_set x d = rules x.kind (with_report d x.settings)

running_kept : (t : Option ℕ) (n : ℕ) (r : Rules) → t ≡ Some n → 0 < r.report → retimed_report t r ≡ t
unfolding retimed_report
running_kept t n r e h = rw (e, ne_eqb r.report 0 (ne_of_gt h))

pub report_waits : (x : Instance) (d n : ℕ) → 0 < d → x.timers.report ≡ Some n → (obeyed x SetReport d).timers ≡ x.timers
unfolding changed obeyed retimed rules block_changed
report_waits x d n h e = ap (λ t. record { dead = x.timers.dead; report = t }) (running_kept x.timers.report n (report_set x d) e h)

-- three exceptions: report set to 0 stops the report timer at once, so that it is no longer due
pub zero_stops : (t : Option ℕ) (r : Rules) → r.report ≡ 0 → retimed_report t r ≡ None
unfolding retimed_report
zero_stops None r e = rw (eq-eqb r.report 0 e)
zero_stops (Some n) r e = rw (eq-eqb r.report 0 e)

pub report_stops : (x : Instance) → (obeyed x SetReport 0).timers.report ≡ None
unfolding changed obeyed retimed rules block_changed
report_stops x = zero_stops x.timers.report (report_set x 0) refl

pub no_longer_due : (x : Instance) → due (obeyed x SetReport 0).timers.report ≡ false
unfolding due
no_longer_due x = rw (report_stops x)

-- report set above 0 while stopped starts it at once
pub report_starts : (x : Instance) (d : ℕ) → 0 < d → x.timers.report ≡ None → (obeyed x SetReport d).timers.report ≡ Some (report_time (report_set x d))
unfolding changed obeyed retimed retimed_report rules started_report block_changed
report_starts x d h e = rw (e, ne_eqb d 0 (ne_of_gt h))

-- M-103: deadtime set to 0 ends a running dead time at once
pub zero_ends : (dead : ℕ) (r : Rules) → r.deadtime ≡ 0 → retimed_dead dead r ≡ 0
unfolding retimed_dead
zero_ends dead r e = rw (eq-eqb r.deadtime 0 e)

-- the report timer is as it ran, and what waits goes on waiting
pub dead_time_ends : (x : Instance) → obeyed x SetDeadtime 0 ≡ retimed_to x 0 0
unfolding changed filtered obeyed retimed rules block_changed
dead_time_ends x = ap (λ n. retimed_to x 0 n) (zero_ends x.timers.dead (rules x.kind (with_deadtime 0 x.settings)) refl)

-- report time is never below dead time when started
pub report_covers : (r : Rules) → dead_time r ≤ report_time r
unfolding report_time
report_covers r = le-max_left (dead_time r) _

-- ---- triggers: disabling clears those that wait
pub disabling_clears : (o : OccupancyState) (filter : ℕ) → filtered (Occupancy o) Disable filter ≡ Occupancy (record { value = o.value; waiting = 0 })
unfolding allowing filtered occupancy_allowing
disabling_clears o filter = rw (and_zero_r o.waiting)

pub disabling_clears_movement : (m : MovementState) (filter : ℕ) → filtered (Movement m) Disable filter ≡ Movement (with_seen (record { value = m.seen.value; waiting = 0 }) m)
unfolding allowing filtered movement_allowing occupancy_allowing
disabling_clears_movement m filter = rw (and_zero_r m.seen.waiting)

-- ---- the latch: 8D answers none when it is used up
pub used_up : (x : Instance) (d : ℕ) → x.latch.left ≡ 0 → (queried x QueryNext d).answer ≡ None
unfolding queried latched answered
used_up x d e = rw (eq-eqb x.latch.left 0 e)

-- or when nothing was latched
pub nothing_latched : (k : Kind) (s : Settings) (held : Sample) (d : ℕ) → (queried (fresh k s held) QueryNext d).answer ≡ None
unfolding fresh
nothing_latched k s held d = used_up (fresh k s held) d refl

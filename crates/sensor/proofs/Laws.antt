-- What a sample and a tick do to an instance, whatever its type: each law goes by what was decided, and never looks into a sensor.
-- Assumes nothing.
use Rattle.sensor.specs.Kind.{cause, repeat, rules, sent, taken, units}
use Rattle.sensor.specs.Tick.{closed, decision_at, holding, is_event, kind_after, rules_at, sent_after, taken_kind, ticked, valid}
use Rattle.sensor.specs.declared.instance.Instance.{Instance}
use Rattle.sensor.specs.declared.kind.Kind.TheVariants.{Colour, Light, Movement, Occupancy}
use Rattle.sensor.specs.declared.kind.Kind.{Kind}
use Rattle.sensor.specs.declared.settings.Sample.{Sample}
use Rattle.sensor.specs.declared.settings.Settings.{Settings}
use Rattle.timers.specs.Decision.{after, decided, sends}
use Rattle.timers.specs.Timers.{fallen, started}
use Rattle.timers.specs.declared.Decision.TheVariants.{Reported, Silent, Triggered}
use Rattle.timers.specs.declared.Decision.{Decision}
use Rattle.timers.specs.declared.Rules.{Rules}
use Rattle.timers.specs.declared.Timers.{Timers}
use borrow.Author.Tests.{eqb-true}
use lib.Dec.{eqb}
use mathlib.Core.Bool.{Bool, cond, false, false≢true, true, true≢false, ◌&&◌}
use mathlib.Core.Path.{◌≡◌, ap, refl, sym, ◌∙◌}

-- two tests that hold together
pub both : (a b : Bool) → a && b ≡ true → (a ≡ true) × (b ≡ true)
both true b e = (refl, e)
both false b e = absurd (false≢true e)

-- ---- a sensor keeps its type, and so what the decision goes by: the only laws that name the types
taken_units : (k : Kind) (s : Settings) (held : Sample) → units (taken k s held) ≡ units k
unfolding units taken
taken_units (Light l) s held = refl
taken_units (Occupancy o) s held = refl
taken_units (Movement m) s held = refl
taken_units (Colour c) s held = refl

taken_repeat : (k : Kind) (s : Settings) (held : Sample) → repeat (taken k s held) s ≡ repeat k s
unfolding repeat taken
taken_repeat (Light l) s held = refl
taken_repeat (Occupancy o) s held = refl
taken_repeat (Movement m) s held = refl
taken_repeat (Colour c) s held = refl

sent_units : (k : Kind) (s : Settings) → units (sent k s) ≡ units k
unfolding units sent
sent_units (Light l) s = refl
sent_units (Occupancy o) s = refl
sent_units (Movement m) s = refl
sent_units (Colour c) s = refl

sent_repeat : (k : Kind) (s : Settings) → repeat (sent k s) s ≡ repeat k s
unfolding repeat sent
sent_repeat (Light l) s = refl
sent_repeat (Occupancy o) s = refl
sent_repeat (Movement m) s = refl
sent_repeat (Colour c) s = refl

sent_rules : (k : Kind) (s : Settings) → rules (sent k s) s ≡ rules k s
unfolding rules
sent_rules k s = rw (sent_units k s, sent_repeat k s)

after_rules : (decision : Decision) (k : Kind) (s : Settings) → rules (kind_after decision k s) s ≡ rules k s
unfolding kind_after
after_rules Silent k s = refl
after_rules Triggered k s = sent_rules k s
after_rules Reported k s = sent_rules k s

-- taking a sample leaves the rules as they are
pub taken_rules : (x : Instance) → rules_at x ≡ rules x.kind x.settings
unfolding rules
taken_rules x = rw (taken_units x.kind x.settings x.held, taken_repeat x.kind x.settings x.held)

-- and so does a whole tick
pub rules_kept : (x : Instance) → rules (ticked x).instance.kind (ticked x).instance.settings ≡ rules x.kind x.settings
unfolding ticked closed
rules_kept x = after_rules (decision_at x) (taken_kind x) x.settings ∙ taken_rules x

-- ---- a sample: SA only replaces the held sample
pub holding_keeps :
    (x : Instance) (sample : Sample)
    → ((holding x sample).held ≡ sample)
    × ((holding x sample).kind ≡ x.kind)
    × ((holding x sample).settings ≡ x.settings)
    × ((holding x sample).timers ≡ x.timers)
    × ((holding x sample).failed ≡ x.failed)
    × ((holding x sample).latch ≡ x.latch)
unfolding holding
holding_keeps x sample = (refl, refl, refl, refl, refl, refl)

-- ---- a tick: what it keeps
pub settings_kept : (x : Instance) → (ticked x).instance.settings ≡ x.settings
unfolding ticked closed
settings_kept x = refl

pub held_kept : (x : Instance) → (ticked x).instance.held ≡ x.held
unfolding ticked closed
held_kept x = refl

pub latch_kept : (x : Instance) → (ticked x).instance.latch ≡ x.latch
unfolding ticked closed
latch_kept x = refl

-- ---- a tick: the decision goes by the rules that are set
pub decision_made : (x : Instance) → decision_at x ≡ decided (rules x.kind x.settings) (valid x) (fallen x.timers) (cause (taken_kind x) x.settings)
decision_made x = ap (λ r. decided r (valid x) (fallen x.timers) (cause (taken_kind x) x.settings)) (taken_rules x)

-- its timers after a tick
pub ticked_timers : (x : Instance) → (ticked x).instance.timers ≡ after (decision_at x) (rules x.kind x.settings) (fallen x.timers)
unfolding ticked closed
ticked_timers x = ap (λ r. after (decision_at x) r (fallen x.timers)) (taken_rules x)

-- ---- an event goes out exactly where it was decided
event_after : (decision : Decision) (k : Kind) (s : Settings) → is_event (sent_after decision k s) ≡ sends decision
unfolding sent_after sends
event_after Silent k s = refl
event_after Triggered k s = refl
event_after Reported k s = refl

pub sent_decided : (x : Instance) → is_event (ticked x).sent ≡ sends (decision_at x)
unfolding ticked closed
sent_decided x = event_after (decision_at x) (taken_kind x) x.settings

after_sends : (decision : Decision) (r : Rules) (t : Timers) → sends decision ≡ true → after decision r t ≡ started r
unfolding sends after
after_sends Silent r t e = absurd (false≢true e)
after_sends Triggered r t e = refl
after_sends Reported r t e = refl

after_silent : (decision : Decision) (r : Rules) (t : Timers) → sends decision ≡ false → after decision r t ≡ t
unfolding sends after
after_silent Silent r t e = refl
after_silent Triggered r t e = absurd (true≢false e)
after_silent Reported r t e = absurd (true≢false e)

-- each event starts dead time and, if its multiplier isn't 0, the report timer
pub sent_starts : (x : Instance) → is_event (ticked x).sent ≡ true → (ticked x).instance.timers ≡ started (rules x.kind x.settings)
sent_starts x e = ticked_timers x ∙ after_sends (decision_at x) (rules x.kind x.settings) (fallen x.timers) (sym (sent_decided x) ∙ e)

-- a tick without an event only lets the timers fall
pub silent_falls : (x : Instance) → is_event (ticked x).sent ≡ false → (ticked x).instance.timers ≡ fallen x.timers
silent_falls x e = ticked_timers x ∙ after_silent (decision_at x) (rules x.kind x.settings) (fallen x.timers) (sym (sent_decided x) ∙ e)

-- ---- never while disabled, with status 1 or 2, or while dead time is above 0
only_open : (enabled valid over : Bool) (decision : Decision) → sends (cond ((enabled && valid) && over) decision Silent) ≡ true → (enabled ≡ true) × (valid ≡ true) × (over ≡ true)
unfolding sends
only_open true true true decision e = (refl, refl, refl)
only_open true true false decision e = absurd (false≢true e)
only_open true false over decision e = absurd (false≢true e)
only_open false valid over decision e = absurd (false≢true e)

opened : (x : Instance) → is_event (ticked x).sent ≡ true → (x.settings.enabled ≡ true) × (valid x ≡ true) × (eqb (fallen x.timers).dead 0 ≡ true)
unfolding decided rules
opened x e = only_open x.settings.enabled (valid x) (eqb (fallen x.timers).dead 0) _ (sym (sent_decided x) ∙ e)

pub only_enabled : (x : Instance) → is_event (ticked x).sent ≡ true → x.settings.enabled ≡ true
only_enabled x e = (opened x e).0

pub only_valid : (x : Instance) → is_event (ticked x).sent ≡ true → valid x ≡ true
only_valid x e = (opened x e).1

pub only_over : (x : Instance) → is_event (ticked x).sent ≡ true → (fallen x.timers).dead ≡ 0
only_over x e = eqb-true (fallen x.timers).dead 0 (opened x e).2

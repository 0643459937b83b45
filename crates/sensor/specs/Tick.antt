-- Document 01, "Numbers given when a record is not taken", with M-110, and "One tick": a sample and a tick of one instance.
-- Assumes nothing.
use Rattle.sensor.specs.Instance.{with_failed, with_held, with_kind, with_measured, with_timers}
use Rattle.sensor.specs.Kind.{cause, information, rules, sent, taken}
use Rattle.sensor.specs.declared.instance.Event.{Event}
use Rattle.sensor.specs.declared.instance.Instance.{Instance}
use Rattle.sensor.specs.declared.instance.Ticked.{Ticked}
use Rattle.sensor.specs.declared.kind.Kind.{Kind}
use Rattle.sensor.specs.declared.settings.Sample.{Sample}
use Rattle.sensor.specs.declared.settings.Settings.{Settings}
use Rattle.timers.specs.Decision.{after, decided}
use Rattle.timers.specs.Timers.{fallen}
use Rattle.timers.specs.declared.Decision.TheVariants.{Reported, Silent, Triggered}
use Rattle.timers.specs.declared.Decision.{Decision}
use Rattle.timers.specs.declared.Rules.{Rules}
use Rattle.timers.specs.declared.Timers.{Timers}
use Rattle.std.specs.Prelude.{None, Option, Some, eqb, is_some, Bool, false, true, ◌&&◌, ◌||◌}

-- SA only replaces the held sample; and that a valid one was taken is remembered (M-110)
unfoldable pub holding : Instance → Sample → Instance
holding x sample = with_held sample (with_measured (x.measured || eqb sample.status 0) x)

-- M-110: status 1 for an instance that has had a valid sample, a failure between or not
unfoldable pub goes_back : Instance → Sample → Bool
goes_back x sample = x.measured && eqb sample.status 1

-- ---- the end of a tick, as it was decided
unfoldable pub kind_after : Decision → Kind → Settings → Kind
kind_after Silent k s = k
kind_after Triggered k s = sent k s
kind_after Reported k s = sent k s

-- priority is 5 if the due report is the only cause, else the instance's priority
unfoldable pub sent_after : Decision → Kind → Settings → Option Event
sent_after Silent k s = None
sent_after Triggered k s = Some (record { priority = s.priority; information = information k false })
sent_after Reported k s = Some (record { priority = 5; information = information k true })

-- the tick sent an event
abbrev pub is_event : Option Event → Bool
is_event sent = is_some sent

unfoldable pub closed : Instance → Kind → Timers → Decision → Ticked
closed x k t decision =
    record {
      instance = with_kind (kind_after decision k x.settings) (with_timers t (with_failed (eqb x.held.status 2) x));
      sent = sent_after decision k x.settings;
    }

-- ---- a tick: the timers fall, the held sample is taken, and whether an event goes out is decided
-- the held sample is valid
abbrev pub valid : Instance → Bool
valid x = eqb x.held.status 0

-- the sensor once it has taken the held sample
abbrev pub taken_kind : Instance → Kind
taken_kind x = taken x.kind x.settings x.held

-- what the decision at the instance's next tick goes by, and the decision
abbrev pub rules_at : Instance → Rules
rules_at x = rules (taken_kind x) x.settings

abbrev pub decision_at : Instance → Decision
decision_at x = decided (rules_at x) (valid x) (fallen x.timers) (cause (taken_kind x) x.settings)

unfoldable pub ticked : Instance → Ticked
ticked x = closed x (taken_kind x) (after (decision_at x) (rules_at x) (fallen x.timers)) (decision_at x)

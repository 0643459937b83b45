-- An instance with one part changed: only this file lists every part. Other definitions compose these, so that a further part is a `with`
-- more, and a word in each of the others.
-- Assumes nothing.
use Rattle.sensor.specs.declared.instance.Instance.{Instance}
use Rattle.sensor.specs.declared.instance.Latch.{Latch}
use Rattle.sensor.specs.declared.kind.Kind.{Kind}
use Rattle.sensor.specs.declared.settings.Sample.{Sample}
use Rattle.sensor.specs.declared.settings.Settings.{Settings}
use Rattle.timers.specs.declared.Timers.{Timers}
use Rattle.std.specs.Prelude.{Bool, false}

-- an instance with nothing measured, no failure and nothing latched
abbrev pub untouched : Kind → Settings → Timers → (held : Sample) → Instance
untouched k s t held = record { kind = k; settings = s; timers = t; held = held; measured = false; failed = false; latch = record { left = 0; bytes = 0 } }

abbrev pub with_kind : Kind → Instance → Instance
with_kind k x = record { kind = k; settings = x.settings; timers = x.timers; held = x.held; measured = x.measured; failed = x.failed; latch = x.latch }

abbrev pub with_settings : Settings → Instance → Instance
with_settings s x = record { kind = x.kind; settings = s; timers = x.timers; held = x.held; measured = x.measured; failed = x.failed; latch = x.latch }

abbrev pub with_timers : Timers → Instance → Instance
with_timers t x = record { kind = x.kind; settings = x.settings; timers = t; held = x.held; measured = x.measured; failed = x.failed; latch = x.latch }

abbrev pub with_held : Sample → Instance → Instance
with_held sample x = record { kind = x.kind; settings = x.settings; timers = x.timers; held = sample; measured = x.measured; failed = x.failed; latch = x.latch }

abbrev pub with_measured : Bool → Instance → Instance
with_measured measured x = record { kind = x.kind; settings = x.settings; timers = x.timers; held = x.held; measured = measured; failed = x.failed; latch = x.latch }

abbrev pub with_failed : Bool → Instance → Instance
with_failed failed x = record { kind = x.kind; settings = x.settings; timers = x.timers; held = x.held; measured = x.measured; failed = failed; latch = x.latch }

abbrev pub with_latch : Latch → Instance → Instance
with_latch l x = record { kind = x.kind; settings = x.settings; timers = x.timers; held = x.held; measured = x.measured; failed = x.failed; latch = l }

-- Document 01, "A full session, bytes in hex": its bytes, those of its log, and all that reading it computes with.
-- Assumes nothing.
use Prim.Native.Nat.{ℕ}
use Rattle.command.specs.Answering as answering
use Rattle.device.specs.Device.{allowed, declared_model, fresh, held_model, instance_at, known}
use Rattle.device.specs.Frame.{answer_log, counts, frame_log, frame_model, loads, numbered_log, numbered_model}
use Rattle.judging.specs.Asked as records
use Rattle.judging.specs.Declaring.{declared_by, in_declares, light_has}
use Rattle.judging.specs.Refusals.{number_of}
use Rattle.opcode.specs.Meaning.{light_meaning, meant, meant_in}
use Rattle.record.specs.Log.{bytes_of, encoded}
use Rattle.record.specs.Marks.{mark_of}
use Rattle.sensor.specs.Fresh as sensors
use Rattle.sensor.specs.Kind.{allows, cause, information, input, repeat, resolution, rules, sent, taken, units}
use Rattle.sensor.specs.Light.{light_allows, light_cause, light_information, light_input, light_repeat, light_sent, light_taken, minimum, moved, outside, width}
use Rattle.sensor.specs.Tick.{closed, goes_back, holding, kind_after, sent_after, ticked}
use Rattle.session.specs.Session.{fits, for_c, reading, session, step, ticking}
use Rattle.session.specs.declared.reading.Reading.{Reading}
use Rattle.ticks.specs.Tick.{sent_log, sweep, sweep_log, tick_log, tick_model}
use Rattle.timers.specs.Decision.{after, decided}
use Rattle.timers.specs.Timers.{dead_time, due, fallen, fallen_report, report_time, started, started_report}
use Rattle.widen.specs.Width.{widened}
use mathlib.Core.List.{List, [], ◌∷◌}

-- the session and its log, byte for byte
abbrev pub full : List ℕ
full =
    0x49 ∷ 0x4E ∷ 0x00 ∷ 0x04 ∷ 0x08
    ∷ 0x53 ∷ 0x41 ∷ 0x00 ∷ 0x00 ∷ 0x00 ∷ 0x00 ∷ 0x64
    ∷ 0x54 ∷ 0x4B ∷ 0x00 ∷ 0x01
    ∷ 0x53 ∷ 0x41 ∷ 0x00 ∷ 0x00 ∷ 0x00 ∷ 0x00 ∷ 0x5E
    ∷ 0x54 ∷ 0x4B ∷ 0x00 ∷ 0x28
    ∷ 0x46 ∷ 0x52 ∷ 0x01 ∷ 0x00 ∷ 0x8C ∷ []

abbrev pub full_log : List ℕ
full_log =
    0x45 ∷ 0x56 ∷ 0x00 ∷ 0x00 ∷ 0x00 ∷ 0x01 ∷ 0x00 ∷ 0x04 ∷ 0x01 ∷ 0x91
    ∷ 0x45 ∷ 0x56 ∷ 0x00 ∷ 0x00 ∷ 0x00 ∷ 0x1F ∷ 0x00 ∷ 0x04 ∷ 0x01 ∷ 0x79
    ∷ 0x41 ∷ 0x4E ∷ 0x00 ∷ 0x00 ∷ 0x00 ∷ 0x29 ∷ 0x00 ∷ 0x5E ∷ []

-- the numbers that the call gives back
abbrev pub numbers : (number offset written ticks : ℕ) → Reading
numbers number offset written ticks = record { number = number; offset = offset; written = written; ticks = ticks }

-- all that reading it computes with
unfoldable pub computing : Unit {0}
unfolding
    session for_c reading step ticking fits number_of
    records.asked records.asked_by records.declare_asked records.sample_asked records.frame_asked records.ticks_asked records.size_of
    declared_by in_declares light_has
    allowed declared_model fresh held_model instance_at known answer_log counts frame_log frame_model loads numbered_log numbered_model
    sent_log sweep sweep_log tick_log tick_model
    answering.acted answering.queried answering.acted_by answering.answered answering.byte_at answering.latched light_meaning meant meant_in mark_of
    after decided dead_time due fallen fallen_report report_time started started_report bytes_of encoded
    sensors.declared sensors.fresh sensors.light_fresh allows cause information input repeat resolution rules sent taken units
    light_allows light_cause light_information light_input light_repeat light_sent light_taken minimum moved outside width
    closed goes_back holding kind_after sent_after ticked widened
computing = tt

-- Document 01, "Frames", with M-104 and M-105: whom a frame counts for, whether it needs its repeat, what it does to the device, and what it logs.
-- Assumes nothing.
use Rattle.std.specs.Prelude.{ℕ, ◌+◌, eqb, leb, Bool, cond, false, ◌&&◌, ◌||◌, List, [], ◌∷◌, Option, Some, None}
use Rattle.command.specs.Answering.{acted}
use Rattle.command.specs.declared.answering.Acted.{Acted}
use Rattle.device.specs.Device.{under_way, instance_at, known, with_dtr0, with_instance, with_remembered}
use Rattle.device.specs.declared.judged.Judged.TheVariants.{Acts, Load, Nobody, Sets}
use Rattle.device.specs.declared.judged.Judged.{Judged}
use Rattle.device.specs.declared.model.Model.{Model}
use Rattle.device.specs.declared.pairs.First.{First}
use Rattle.opcode.specs.Meaning.{is_setting, meant}
use Rattle.record.specs.Log.{AN, Logged}

-- C1 30 d loads DTR0
unfoldable pub loads : (first second : ℕ) → Bool
loads first second = eqb first 0xC1 && eqb second 0x30

-- otherwise a frame counts only if byte 1 is 01 or FF and byte 2 is a declared instance
unfoldable pub counts : Model → (first second : ℕ) → Bool
counts m first second = (eqb first 0x01 || eqb first 0xFF) && known m second

-- what byte 3 does to instance i
abbrev pub acted_at : Model → (i opcode : ℕ) → Acted
acted_at m i opcode = acted (instance_at m i) opcode m.dtr0

-- what byte 3 leaves is put back: the instance, and DTR0 (M-104)
abbrev pub put_back : (i : ℕ) → Acted → Model → Model
put_back i a m = with_dtr0 a.dtr0 (with_instance i a.instance m)

unfoldable pub numbered_model : Model → (i opcode : ℕ) → Model
numbered_model m i opcode = under_way (put_back i (acted_at m i opcode) m)

-- the record of an answer
unfoldable pub answer_log : (tick i : ℕ) → Option ℕ → List Logged
answer_log tick i None = []
answer_log tick i (Some b) = AN tick i b ∷ []

unfoldable pub numbered_log : Model → (i opcode : ℕ) → List Logged
numbered_log m i opcode = answer_log m.tick i (acted_at m i opcode).answer

-- what byte 3 means to instance i is a setting command
abbrev pub sets : Model → (i opcode : ℕ) → Bool
sets m i opcode = is_setting (meant (instance_at m i).kind opcode)

-- ---- M-105: A FRAME IS JUDGED, whom it counts for, what it means there, and so whether it needs its repeat:
--   Load      it loads DTR0
--   Sets i    it counts for instance i and is a setting command there: it needs its repeat
--   Acts i    it counts for instance i and is anything else there, a query, catch, cancel, or ignored: it acts at once
--   Nobody    it does neither, and is ignored
unfoldable pub judged : Model → (first second third : ℕ) → Judged
judged m first second third =
    cond (loads first second) Load
    (cond (counts m first second) (cond (sets m second third) (Sets second) (Acts second)) Nobody)

-- the repeat: the same three bytes as the frame that is remembered, no more than 2 ticks later
unfoldable pub repeats : Option First → (tick first second third : ℕ) → Bool
repeats None tick first second third = false
repeats (Some x) tick first second third =
    ((eqb first x.frame.first && eqb second x.frame.second) && eqb third x.frame.third) && leb tick (x.tick + 2)

abbrev pub again : Model → (first second third : ℕ) → Bool
again m first second third = repeats m.remembered m.tick first second third

-- the first of a pair, with its tick
abbrev pub first_of : (first second third tick : ℕ) → Option First
first_of first second third tick = Some (record { frame = record { first = first; second = second; third = third }; tick = tick })

-- it is remembered
abbrev pub remembering : (first second third : ℕ) → Model → Model
remembering first second third m = with_remembered (first_of first second third m.tick) m

-- the repeat is forgotten, and any other frame drops what is remembered
abbrev pub forgetting : Model → Model
forgetting m = with_remembered None m

-- a setting command that is the repeat acts
unfoldable pub as_repeat : Judged → (repeat : Bool) → Judged
as_repeat Load repeat = Load
as_repeat (Sets i) repeat = cond repeat (Acts i) (Sets i)
as_repeat (Acts i) repeat = Acts i
as_repeat Nobody repeat = Nobody

-- the device after a frame that is judged so; one that is ignored is taken, with no change
unfoldable pub heeded : Model → (first second third : ℕ) → Judged → Model
heeded m first second third Load = forgetting (under_way (with_dtr0 third m))
heeded m first second third (Sets i) = remembering first second third (under_way m)
heeded m first second third (Acts i) = forgetting (numbered_model m i third)
heeded m first second third Nobody = forgetting (under_way m)

unfoldable pub frame_model : Model → (first second third : ℕ) → Model
frame_model m first second third = heeded m first second third (as_repeat (judged m first second third) (again m first second third))

-- what it logs is the answer of the instance that it counts for; a setting command has none, neither at the first frame nor at the repeat
unfoldable pub frame_log : Model → (first second third : ℕ) → List Logged
frame_log m first second third = cond (loads first second) [] (cond (counts m first second) (numbered_log m second third) [])

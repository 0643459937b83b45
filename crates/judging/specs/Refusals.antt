-- Document 01, "Numbers given when a record is not taken", with M-106, M-107 and M-110: the number of each refusal. 0 is given when all records are taken.
-- Assumes nothing.
use Rattle.std.specs.Prelude.{ℕ, List, [], ◌∷◌}
use Rattle.judging.specs.declared.asked.Refusal.TheVariants.{BadSample, BeyondTable, Cut, Full, LateOrSkipped, NoSuchSensor, NoTicks, NotReadyAgain, TimeOver, Undeclared, UnknownMark}
use Rattle.judging.specs.declared.asked.Refusal.{Refusal}

unfoldable pub number_of : Refusal → ℕ
-- mark unknown
number_of UnknownMark = 1
-- fewer bytes remain than the mark, or the record, needs
number_of Cut = 2
-- IN, LO or IM after a record of another kind, or its number isn't the next, from 0
number_of LateOrSkipped = 3
-- IN, LO or IM number 16 or above; a type and resolution that it does not declare
number_of NoSuchSensor = 4
-- SA for an undeclared instance
number_of Undeclared = 5
-- SA status or value not allowed
number_of BadSample = 6
-- TK count 0
number_of NoTicks = 7
-- tick number would pass 4,294,967,295
number_of TimeOver = 8
-- the records of one tick, or one answer, don't fit in the output that is left
number_of Full = 9
-- M-106: a tick beyond the last that may be reached with the hour table in use
number_of BeyondTable = 10
-- M-110: SA status 1 for an instance that has had a valid sample
number_of NotReadyAgain = 13

-- the numbers of refusals, and all numbers that there are
abbrev pub refusal_numbers : List ℕ
refusal_numbers = 1 ∷ 2 ∷ 3 ∷ 4 ∷ 5 ∷ 6 ∷ 7 ∷ 8 ∷ 9 ∷ 10 ∷ 13 ∷ []

abbrev pub every_number : List ℕ
every_number = 0 ∷ refusal_numbers

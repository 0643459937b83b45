-- What several pages rest on:
--     ByRecords, Behind, FirstRecord    a session is read record by record
--     Runs, OneInstance, EventsInLog    a session is a run of happenings, and what that is to one instance
--     LogTicks                          the ticks in the log of a run
--     Marks, NoRoom                     the tests that the numbers of refusals go by
--     FullSession                       document 01's full session
pub mod Behind
pub mod ByRecords
pub mod Declarations
pub mod EventsInLog
pub mod FirstRecord
pub mod FullSession
pub mod LogTicks
pub mod Marks
pub mod NoRoom
pub mod OneInstance
pub mod Runs

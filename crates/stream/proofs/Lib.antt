mod Records
pub mod Moves
pub mod Turns
pub mod AfterNumber
pub mod TimeRecord
pub mod Unique

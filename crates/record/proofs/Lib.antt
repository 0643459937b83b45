pub mod Log
pub mod Laws
pub mod Bytes
mod Moves
pub mod Reading
pub mod Unique

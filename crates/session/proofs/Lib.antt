pub mod Laws
mod Quiet
pub mod Bounds
mod Turn
pub mod Kept
pub mod Records
pub mod Room
pub mod Unique

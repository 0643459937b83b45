pub mod Sweep
pub mod Laws
pub mod Quiet
mod Turn
mod Steps
pub mod Ticked
pub mod Unique

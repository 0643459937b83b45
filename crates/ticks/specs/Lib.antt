pub mod Tick
pub mod Quiet

pub mod Timers
pub mod Decision
pub mod Pace
pub mod Quiet

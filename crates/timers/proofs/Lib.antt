pub mod Laws
pub mod Pace
pub mod Quiet
pub mod FirstEvent
pub mod Unique

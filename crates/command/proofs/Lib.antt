mod Rest
mod Variables
pub mod Laws
pub mod Freed
pub mod Moving
pub mod Measured
pub mod Texts
pub mod Unique

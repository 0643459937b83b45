pub mod Laws
pub mod Tail
mod Numbered
mod Heeded
pub mod Instances
pub mod Unique

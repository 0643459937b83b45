mod Behind
pub mod Unique

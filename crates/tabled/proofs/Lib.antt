mod Written
pub mod Unique

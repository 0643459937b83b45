pub mod Refusals
pub mod Declaring
pub mod Asked

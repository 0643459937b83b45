pub mod Colour
pub mod Annex

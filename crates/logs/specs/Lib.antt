pub mod Sources
pub mod Pieces
pub mod Laying
pub mod Tabulating

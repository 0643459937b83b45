pub mod Opcodes
pub mod Unique

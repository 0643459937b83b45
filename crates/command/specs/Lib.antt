pub mod Setting
pub mod Controlling
pub mod Answering

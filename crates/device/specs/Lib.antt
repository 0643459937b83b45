pub mod Device
pub mod Frame

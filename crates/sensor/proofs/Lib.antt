pub mod Laws
pub mod Open
pub mod Table
pub mod Marked
mod Examples
pub mod Quiet
pub mod Fresh
pub mod Measured
pub mod Reporting
pub mod Texts
pub mod Hold
pub mod Catching
pub mod Changes
pub mod Unique

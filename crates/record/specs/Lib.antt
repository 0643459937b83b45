pub mod Numbers
pub mod Marks
pub mod Log
pub mod Put
pub mod Entries

pub mod Reached
pub mod Counts
pub mod Marks

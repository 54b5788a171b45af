pub mod Sorted
pub mod Rotations

pub mod Blocks
pub mod Grafts
pub mod Arithmetic
pub mod Evens
pub mod Picked
pub mod Followed
pub mod Written
pub mod Rearranged
mod Worked

pub mod Faults
pub mod Files
pub mod Memory
pub mod Parts
pub mod Writes
pub mod Sure
pub mod Standard
pub mod Shelves

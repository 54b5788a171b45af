pub mod Bits
pub mod Seeded

pub mod Enumeration
pub mod Ascending
pub mod Orders

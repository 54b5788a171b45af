pub mod Joined
pub mod Rules

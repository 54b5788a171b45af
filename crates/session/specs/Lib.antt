pub mod Refusals
pub mod Effect
pub mod Ending
pub mod SessionView
pub mod Laws
pub mod Commands
pub mod Members

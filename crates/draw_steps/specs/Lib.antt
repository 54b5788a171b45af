pub mod Steps
pub mod Containers
pub mod Choices
pub mod Draws
pub mod Asked
pub mod PowerSets
pub mod Heights
pub mod Laws

pub mod Text
pub mod Fronts
pub mod Labels
pub mod Laws
pub mod Lexing
pub mod Reading

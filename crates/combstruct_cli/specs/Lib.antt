pub mod Input
pub mod Words
pub mod Outcome
pub mod Answer
pub mod Steps
pub mod Laws

pub mod Newest
pub mod Parts
pub mod Results
pub mod Written

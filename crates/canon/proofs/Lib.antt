pub mod SortedLists
pub mod Turning
pub mod LeastPlaces
pub mod Neighbours
pub mod Members
pub mod WholeSupply

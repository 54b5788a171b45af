pub mod SplitWalkView
pub mod Tails
pub mod SortedTails
pub mod After
pub mod Stands
pub mod Opened
pub mod WalkerView
pub mod Resumed

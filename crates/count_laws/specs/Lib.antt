pub mod Choose
pub mod Convolution
pub mod LabelledSets
pub mod Laws
pub mod Multisets
pub mod Pointed
pub mod SortedLists
pub mod SetNumbers

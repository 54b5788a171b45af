pub mod Avoiding
pub mod Binomials
mod BySizes
pub mod Convolutions
pub mod Enlarged
pub mod FewElements
pub mod LabelledSets
mod Larger
pub mod MetTimes
pub mod MultisetNumbers
mod Numbered
pub mod OrdersTell
pub mod Pointed
mod PointedSubsets
pub mod SortedLists
pub mod MappedSorted
mod SetCases
pub mod SubsetNumbers
pub mod FewComponents

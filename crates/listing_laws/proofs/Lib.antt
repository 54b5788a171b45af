mod ListerCases
pub mod OrderFacts
pub mod OrderKept
pub mod Changed
pub mod SetsRead
pub mod Arguments
pub mod Components
pub mod Repeated
pub mod Containers
pub mod RuleLaws
pub mod Words
pub mod BuildingUp
pub mod FilterLaws
pub mod Equations
pub mod Alike
pub mod Sizes
pub mod Ranked
pub mod WellFoundedListed
pub mod Listed
pub mod Recursion
mod ReadTwice
mod Climbing
pub mod Relabel
pub mod EndlessMembers
pub mod Joined
pub mod Numbers
pub mod KindLemmas
pub mod NodeLemmas
pub mod NodeRanks
pub mod Ranges
pub mod SortedParts
pub mod UnlabelledSets
mod SameMany
pub mod ByComponents
pub mod LeastFirst
pub mod LeastListed
pub mod LeastSets
pub mod LeastCycles
mod SizedElements
pub mod LeastNumbers
pub mod ContainersRecur
pub mod SortedComponents
pub mod LeastNodes
pub mod Followers
pub mod SortedNodes

pub mod Numerals
pub mod Containers
pub mod Beginnings
pub mod Alike
pub mod OneText
pub mod FirstWords
pub mod Leaves
pub mod Shapes
pub mod PartTexts
pub mod Weights
pub mod BehindSteps
pub mod AheadSteps
pub mod RuleSteps
pub mod ReadSteps
pub mod Fronts
mod TextCases

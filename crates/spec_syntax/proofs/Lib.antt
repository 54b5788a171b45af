pub mod ExpressionLemmas
pub mod RulesLemmas
pub mod NodesLemmas
pub mod NodeRanges
pub mod NodeSteps
pub mod NodePlaces
mod NodePlaceCases
pub mod RuleNames

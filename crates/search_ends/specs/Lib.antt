pub mod GivenLeaf
pub mod EmptyLines
pub mod MissingGroups
pub mod PlacedWeights
pub mod FinishedStates

pub mod TakeLemmas
pub mod LeafLemmas
pub mod TurnLemmas
pub mod GroupLemmas
pub mod CountyWeights
pub mod Counting
pub mod FairLines
pub mod Allowances

pub mod PartialValue
pub mod OpenStates
pub mod Refusals
pub mod Judged
pub mod OpenBranches
pub mod Laws

pub mod Skeleton
pub mod Standing
pub mod PartialTrees
pub mod PartCost
pub mod Content
pub mod Laws
pub mod JoinedTexts

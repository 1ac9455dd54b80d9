pub mod PartialLists
pub mod OpenLeaves
pub mod Spelled
pub mod Taking
pub mod Standing

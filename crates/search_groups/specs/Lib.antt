pub mod PartGroups
pub mod KnownGroups
pub mod PartLists
pub mod Standing
pub mod Positions

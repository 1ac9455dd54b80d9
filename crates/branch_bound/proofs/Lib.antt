pub mod Joining
pub mod LeafEnds
pub mod Searches
pub mod Orders
pub mod Rounds
pub mod PlainStates
pub mod OpenParts

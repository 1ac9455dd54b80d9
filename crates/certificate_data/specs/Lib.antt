pub mod Levels
pub mod Round
pub mod RoundValue
pub mod Tree
pub mod TreeValue

pub mod Rows
pub mod Pairs
pub mod Links
pub mod WithdrawnSets
pub mod Adjacency

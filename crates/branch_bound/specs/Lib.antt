pub mod Parts
pub mod Resuming
pub mod Searching
pub mod Answers
pub mod Solving
pub mod Pieces
pub mod PlainRounds

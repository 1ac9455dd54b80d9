pub mod Answer
pub mod Answers
pub mod Refusals
pub mod CheckLines

pub mod Rounds
pub mod Answers
pub mod Taking
pub mod Serving
pub mod Runs

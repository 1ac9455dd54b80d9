pub mod ByteSums
pub mod Running
pub mod Files
pub mod FileStore
pub mod History
pub mod Outcomes
pub mod Sums
pub mod Memory

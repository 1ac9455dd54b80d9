pub mod RowLemmas
pub mod Filling
pub mod PartLists
pub mod Failing
pub mod Passed

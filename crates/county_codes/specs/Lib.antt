pub mod CodeLists
pub mod Counties
pub mod Groups
pub mod Limits
pub mod Tolerances
pub mod Digits

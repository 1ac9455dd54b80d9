pub mod Gaps
pub mod ListOrder
pub mod Positions
pub mod Keys
pub mod Walking
pub mod Answers
pub mod Laws
pub mod ListLaws

pub mod KeyLemmas
pub mod WalkLemmas
pub mod ValueLemmas
pub mod EnteredLemmas
pub mod HelpLemmas
pub mod CommandLemmas
pub mod CountygroupsLemmas
pub mod NumberLemmas
pub mod ReadLemmas
pub mod TogetherLemmas
pub mod ToleranceLemmas
mod ExampleLemmas

pub mod CutLemmas
pub mod LineLemmas
pub mod PlaceLemmas
pub mod TableLaws
mod ExampleLemmas

pub mod Adding
pub mod TextLemmas
mod ExampleLemmas

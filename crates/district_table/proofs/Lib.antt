pub mod Blanks
mod ExampleLemmas

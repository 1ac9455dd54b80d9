pub mod Joining
mod ExampleLemmas

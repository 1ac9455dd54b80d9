pub mod RowText
mod ExampleLemmas

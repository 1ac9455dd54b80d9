pub mod NamedText

pub mod Told
pub mod RoundStates
pub mod PieceValue
pub mod Text
pub mod TextLines
pub mod Reading
pub mod Laws
pub mod Examples
